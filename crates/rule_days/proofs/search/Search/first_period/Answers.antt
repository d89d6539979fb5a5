-- Without these the check leaves the goals open: they cite lemmas of ours.
use Rattle.rule_days.proofs.Stepping.{year_reached, week_reached, day_reached}
use Rattle.rule_days.proofs.search.Search.first_period.Goals as goal

pub returns-in-Yearly : goal.returns-in-Yearly
returns-in-Yearly g c =
    year_reached _ _ _ _ _ (g.met.C.Sheets.lawful c.args.self.now.calendar.now) c.args.self.now.ranged c.args.self.now.dated c.in-Yearly.is _ _ c.from-interval.ensures c.first_year.ensures

pub returns-in-Weekly : goal.returns-in-Weekly
returns-in-Weekly g c =
    week_reached _ _ _ _ _ c.in-Weekly.is _ _ _ c.from-interval.ensures c.week_of-week.ensures c.last_counted.ensures

pub returns-in-Daily : goal.returns-in-Daily
returns-in-Daily g c = day_reached _ _ _ _ _ c.in-Daily.is _ _ c.from-interval.ensures c.last_counted-in-Daily.ensures
