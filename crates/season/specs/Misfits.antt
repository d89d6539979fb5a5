-- What is said of a command that does not fit the session.
use Rattle.std.specs.Prelude.{ℕ, List, codes}
use Rattle.season.specs.declared.misfit.Misfit.{Misfit}
use Rattle.season.specs.declared.misfit.Misfit.TheVariants.{NoPlan, OpenPlan, ReportDue, NoReport}

abbrev pub misfit_text : Misfit → List ℕ
misfit_text NoPlan = codes "no plan is open"
misfit_text OpenPlan = codes "a plan is open already"
misfit_text ReportDue = codes "a report is due"
misfit_text NoReport = codes "no report is due"
