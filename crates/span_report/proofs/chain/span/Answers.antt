use Rattle.std.proofs.Common.{◌≡◌, ℕ, List, ap, sym, subst, ◌∙◌}
use Rattle.serial_meaning.specs.Answer.{AnswerView, IsAnswer}
use Rattle.serial_meaning.specs.Eval.{eval, elision}
use Rattle.serial_meaning.specs.declared.event.Event.{Event}
use Rattle.serial_meaning.specs.declared.origin.Origin.{Origin}
use Rattle.span_report.specs.Series.{IsSpan}
use Rattle.span_report.specs.Walks.{walked_span}
use Rattle.span_report.proofs.chain.span.Goals as goal

pub returns-clause-span : goal.returns-clause-span
returns-clause-span c =
    let a = c.args.answer.now in
    let is : IsAnswer a.plan a.origin a.out a.outcome = subst (λ (x : AnswerView). IsAnswer x.plan x.origin x.out x.outcome) c.answer.view_is c.answer.invariant in
    let given = c.whole_answers_are_evals.ensures a.plan a.origin a.out a.outcome is c.requires.whole in
    let events : a.out ≡ (elision a.plan).items = given.events ∙ ap (λ (o : Origin). (eval a.plan o).items) c.requires.main in
    let spanned = subst (λ (es : List Event). IsSpan es (walked_span es)) (sym events) (c.spans_are_walked.ensures a.plan) in
    subst (λ (n : ℕ). IsSpan a.out n) (sym (c.in_ok-longest_chain.ensures ∙ ap (λ (x : AnswerView). walked_span x.out) c.answer.view_is)) spanned
