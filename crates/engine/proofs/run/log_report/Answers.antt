use Rattle.std.proofs.Common.{◌≡◌, ◌∙◌, ◌++◌, ap, refl, subst}
use Rattle.serial_meaning.specs.Answer.{AnswerView, IsAnswer}
use Rattle.engine.specs.Report.{outcome_ending}
use Rattle.engine.proofs.ReportLemmas.{main_text, main_ending}
use Rattle.engine.proofs.run.log_report.Goals as goal

pub returns-clause-output : goal.returns-clause-output
returns-clause-output c =
    let a = c.args.answer in
    let is : IsAnswer a.plan a.origin a.out a.outcome = subst (λ (x : AnswerView). IsAnswer x.plan x.origin x.out x.outcome) c.answer.view_is c.answer.invariant in
    c.log.ensures ∙ ap (λ lines. c.args.text.items ++ lines) (main_text a a.plan c.whole_answers_are_evals.ensures is c.requires.whole refl c.requires.main)

pub returns-clause-ending : goal.returns-clause-ending
returns-clause-ending c =
    let a = c.args.answer in
    let is : IsAnswer a.plan a.origin a.out a.outcome = subst (λ (x : AnswerView). IsAnswer x.plan x.origin x.out x.outcome) c.answer.view_is c.answer.invariant in
    let ending : c.ending_for-ending.result ≡ outcome_ending a.outcome = c.ending_for-ending.ensures ∙ ap (λ (x : AnswerView). outcome_ending x.outcome) c.answer.view_is in
    ending ∙ main_ending a a.plan c.whole_answers_are_evals.ensures is c.requires.whole refl c.requires.main
