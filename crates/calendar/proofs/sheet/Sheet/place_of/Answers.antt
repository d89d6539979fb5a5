use Rattle.std.proofs.Common.{sym, rules}
use Rattle.calendar.proofs.Codes.{found, not_found}
use Rattle.calendar.proofs.sheet.Sheet.place_of.Goals as goal

pub returns : goal.returns
returns c most = found c.args.self.now c.args.code (search rules) most _ (sym c.in_ok-before.ensures)

pub returns-in_err-before : goal.returns-in_err-before
returns-in_err-before c most = rw c.from_residual.ensures (not_found c.args.self.now c.args.code (search rules) most (sym c.in_err-before.ensures))
