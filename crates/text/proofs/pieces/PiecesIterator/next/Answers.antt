-- The check finds none of these: past the piece that was given, if one was, the next comes off, and so one fewer is left.
use Rattle.std.proofs.Common.{◌≡◌, ◌∷◌, length, drop, sym, ap, ◌∙◌, arith}
use Rattle.text.specs.Pieces.{ahead}
use Rattle.text.proofs.Cutting.{of, walked, stayed, first_off}
use Rattle.text.proofs.pieces.PiecesIterator.next.Goals.{then-self+in_ok-self, else-self}
use Rattle.text.proofs.pieces.PiecesIterator.next.Goals as goal

pub returns-in_err-self-2-clause-steps : goal.returns-in_err-self-2-clause-steps
returns-in_err-self-2-clause-steps g c =
    let none = ap (of g.B.Bytes.left c.if-self.self.mark) c.in_err-self-2.was in
    let stood : ahead g.B.Bytes.left c.args.self.now ≡ of g.B.Bytes.left c.if-self.self.mark c.if-self.self.at = elim c.if-self.branch [
      | then-self+in_ok-self w ↦ walked _ _ _ _ _ w.if-self.true w.in_ok-self.was w.self-is w.after-self.ensures.found w.after-self.ensures.rest
      | else-self w ↦ stayed _ _ _ w.if-self.false w.self-is
    ] in
    rw c.from_residual-in_err-self-2.ensures (stood ∙ none, ap (drop 1) none)

pub returns-clause-steps : goal.returns-clause-steps
returns-clause-steps g c =
    let stood : ahead g.B.Bytes.left c.args.self.now ≡ of g.B.Bytes.left c.if-self.self.mark c.if-self.self.at = elim c.if-self.branch [
      | then-self+in_ok-self w ↦ walked _ _ _ _ _ w.if-self.true w.in_ok-self.was w.self-is w.after-self.ensures.found w.after-self.ensures.rest
      | else-self w ↦ stayed _ _ _ w.if-self.false w.self-is
    ] in
    stood
    ∙ first_off g.B.Bytes.left c.if-self.self.mark _ _ c.in_ok-self-2.was
    ∙ ap (λ p. p ∷ drop 1 (of g.B.Bytes.left c.if-self.self.mark c.if-self.self.at)) (sym c.new.ensures)

pub returns-clause-goes : goal.returns-clause-goes
returns-clause-goes g c =
    let fewer = ap length (returns-clause-steps g c) in
    record { on = λ _. (tt, tt, omega (arith, fewer)); keeps = tt; rests = λ _. tt }
