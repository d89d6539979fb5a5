use Rattle.runs.proofs.Runs.{keeps_the_law}
use Rattle.runs.proofs.theorem.right_runs_keep_the_law.Goals as goal

pub returns : goal.returns
returns c = keeps_the_law
