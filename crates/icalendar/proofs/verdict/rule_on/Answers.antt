-- The check does not find these: what the mapped errors say, by lemmas of Mapped and Ruled.
use Rattle.std.proofs.Common.{◌≡◌, rules, ℕ, sym, ap, ◌∙◌, subst}
use Rattle.lines.specs.View.{line_of}
use Rattle.rrule.specs.Questions.{rule_read}
use Rattle.rrule.specs.Result.{said_by, told}
use Rattle.refusals.specs.declared.asked.Failed.TheVariants.{Rule as RuleFailed}
use Rattle.icalendar.specs.Verdicts.{Rules, rule_on, failed_at}
use Rattle.icalendar.proofs.Mapped.{ok_before, err_before, err_is}
use Rattle.icalendar.proofs.Ruled.{on_line, named_question, unread, with_place}
use Rattle.icalendar.proofs.verdict.rule_on.Goals as goal

pub returns : goal.returns
returns g c =
    let shelf = g.S.Shelf.held c.args.shelf.now in
    let l = line_of c.args.line in
    let same = named_question c.place-place.result _ (λ q f h. search rules) c.on_calendar.result c.map_err-2.result c.map_err-2.ensures.cases in
    let here = same ∙ ap (λ (p : ℕ). with_place p c.on_calendar.result) c.place-place.ensures in
    let read = ok_before _ c.read_rule.result c.map_err.result c.in_ok-text.text c.map_err.ensures.cases c.in_ok-text.was in
    subst (λ r. Rules shelf c.args.start r (rule_on shelf c.args.start l)) (sym here)
    (on_line shelf c.args.start l (said_by c.in_ok-text.text) c.on_calendar.result (ap told (sym read) ∙ c.read_rule.ensures ∙ ap rule_read c.value_of.ensures) c.on_calendar.ensures)

pub returns-in_err-text : goal.returns-in_err-text
returns-in_err-text g c =
    let shelf = g.S.Shelf.held c.args.shelf.now in
    let l = line_of c.args.line in
    let fault = c.in_err-text.field-0.0 in
    let before = err_before _ c.read_rule.result c.map_err.result fault c.map_err.ensures.cases c.in_err-text.was in
    let says : fault ≡ failed_at c.place-place.result (RuleFailed before.0) = let k = before.2 in search rules in
    subst (λ r. Rules shelf c.args.start r (rule_on shelf c.args.start l)) (sym (err_is _ _ c.from_residual.ensures))
    (unread shelf c.args.start l before.0 fault (ap told (sym before.1) ∙ c.read_rule.ensures ∙ ap rule_read c.value_of.ensures) (says ∙ ap (λ (p : ℕ). failed_at p (RuleFailed before.0)) c.place-place.ensures))
