use Rattle.std.proofs.Common.{◌≡◌, ◌+◌, ◌-◌, ◌*◌, ◌/◌, rules, MatchOption}
use Rattle.rule_days.proofs.Stepping.{year_from}
use Rattle.rule_days.proofs.steps.first_year.Goals as goal

pub returns : goal.returns
returns g c =
    let y = c.args.year in
    let n = c.args.interval in
    let r = c.map_or.result in
    let last : MatchOption c.date-before.result (r ≡ y) (λ t. r ≡ y + (t.0 - y) / n * n) = search rules in
    year_from _ (g.met.C.Sheets.lawful c.args.calendar.now) y n c.args.low c.date-before.result r c.requires.0 c.requires.1 c.date-before.ensures last
