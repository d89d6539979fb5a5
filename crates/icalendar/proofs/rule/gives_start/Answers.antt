-- The check does not find it: a set's answer from a day on is by a relation and not by an equation.
use Rattle.std.proofs.Common.{◌≡◌, ℕ, Bool, true, eqb, Some, None, Option, ap, ◌∙◌, arith}
use Rattle.std.specs.Option.{option_eq}
use Rattle.std.proofs.lemmas.Bool.Decides.{nat_tests}
use Rattle.calendar.specs.Shelves.{almanac_at}
use Rattle.rules.specs.Meaning.{gives}
use Rattle.rules.proofs.PartsSay.{same_set}
use Rattle.days.specs.Numbers.{in_range}
use Rattle.sources.specs.Sets.{Found}
use Rattle.icalendar.proofs.rule.gives_start.Goals as goal

-- a set's answer from a day of the range on is that day exactly if the set has it
first_is : (set : ℕ → Bool) (d : ℕ) (r : Option ℕ) → in_range d ≡ true → Found set d r → option_eq eqb r (Some d) ≡ set d
first_is set d None ranged f = let no = λ (on : set d ≡ true). f d (record { ranged = ranged; on = on }) in grind (arith, nat_tests)
first_is set d (Some e) ranged f =
    let on = f.day.on in
    let late = f.late in
    let least = λ (on : set d ≡ true). f.least d (record { ranged = ranged; on = on }) in
    grind (arith, nat_tests)

pub returns : goal.returns
returns g c =
    let s = c.args.ruled.now in
    let a = almanac_at (g.S.Shelf.held s.shelf.now) s.place in
    c.eq.ensures ∙ first_is _ _ _ c.day-start.ensures.ranged c.next.ensures
    ∙ ap (gives a s.rule.now s.start) c.day-start.ensures.day ∙ ap (λ (set : ℕ → Bool). set s.start) (same_set a s.rule.now s.start)
