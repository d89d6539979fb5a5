-- The check does not find that the places rotated and written are the list with one length more.
use Rattle.std.proofs.Common.{◌≡◌, ◌-◌, ◌≤◌, ◌∷◌, ◌++◌, length, take, drop, replicate, ap, ◌∙◌, arith, length-drop, length-take-le}
use Rattle.std.proofs.lemmas.List.{length-append, append-nil}
use Rattle.std.specs.List.{insert}
use Rattle.calendar.proofs.YearCodes.{inserted}
use Rattle.other_calendars.specs.ManyLeaps.{plain_lengths}
use Rattle.other_calendars.proofs.many_leaps.lengths_with_leap.Goals as goal

pub returns : goal.returns
returns c =
    let n = c.args.number in
    let d = c.args.days in
    let within : n ≤ length plain_lengths = omega (arith, c.requires) in
    let full : 13 - length (insert plain_lengths n d) ≡ 0 =
    omega (arith, length-append (take n plain_lengths) (d ∷ drop n plain_lengths), length-drop n plain_lengths, length-take-le n plain_lengths within) in
    simp (c.from.ensures) (inserted 0 d plain_lengths n within (omega arith) c.rotate_right.new.self (simp (c.from.ensures) at c.rotate_right.ensures.after))
    ∙ ap (λ k. insert plain_lengths n d ++ replicate k 0) full
    ∙ append-nil (insert plain_lengths n d)
