-- The days of a set between two days are of the range.
use Rattle.std.proofs.Common.{◌≡◌, ℕ, ◌+◌, ◌-◌, Bool, ◌&&◌, List, get_or}
use Rattle.std.specs.List.{AllPass, filter, range_with_len}
use Rattle.std.proofs.lemmas.Bool.{and_parts}
use Rattle.std.proofs.lemmas.List.Elements.{filter_passes}
use Rattle.days.specs.Numbers.{in_range}
use Rattle.series.specs.Record.{days_between}

pub all_ranged : (set : ℕ → Bool) (first last : ℕ) (xs : List ℕ) → xs ≡ days_between set first last → AllPass in_range xs
all_ranged set first last xs e =
    let numbers = range_with_len first (last + 1 - first) in
    let days = filter (λ day. in_range day && set day) numbers in
    rw e (λ k d h. (and_parts (in_range (get_or days k d)) (set (get_or days k d)) (filter_passes (λ day. in_range day && set day) numbers k d h)).0)
