-- A day that was looked for, as a reply.
use Rattle.std.proofs.Common.{◌≡◌, ℕ, None, Some, Option, refl, sym, subst, MatchOption, IsSomeAnd}
use Rattle.calendar.specs.declared.dates.NamedDate.{NamedDate}
use Rattle.calendar.specs.Sheets.{Almanac}
use Rattle.calendar.specs.Dates.{DayNamed}
use Rattle.console.specs.declared.answers.Reply.{Reply}
use Rattle.console.specs.declared.answers.Reply.TheVariants.{Day}
use Rattle.console.specs.Answers.{SaysDay}

pub says_day : (a : Almanac) (t : NamedDate) (r : Option ℕ) (reply : Option Reply) → DayNamed a t r → MatchOption r (reply ≡ None) (λ n. IsSomeAnd reply (λ x. x ≡ Day n)) → SaysDay a t reply
says_day a t (Some n) (Some x) named same = subst (λ y. SaysDay a t (Some y)) (sym same) (named.right n refl)
says_day a t (Some n) None named same = absurd same
says_day a t None reply named same = subst (SaysDay a t) (sym same) (λ n has. let e = named.only n has in cc)
