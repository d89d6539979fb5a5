-- What a hole of a format with zeros before the number, as `{:02}`, writes.
use Rattle.std.proofs.Common.{◌≡◌, ℕ, ◌-◌, ◌^◌, ◌++◌, false, [], length, replicate, ap, arith, append-nil}
use Rattle.std.specs.Fmt.{decimal, char_count, padded_integral, format_spec}
use Rattle.calendar.specs.Printing.{padded}

pub padded_hole : (width n : ℕ) → padded_integral (format_spec 32 0 4 width (2 ^ 64 - 1)) false [] (decimal n) ≡ padded width n
unfolding padded_integral char_count
padded_hole width n =
    let short : width - length (decimal n) - 0 - 0 ≡ width - length (decimal n) = omega arith in
    rw (append-nil (decimal n)) (ap (λ k. replicate k 48 ++ decimal n) short)
