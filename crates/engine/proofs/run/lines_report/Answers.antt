use Rattle.std.proofs.Common.{◌≡◌, ◌∙◌, List, ℕ, ap, ap₂, refl, subst}
use Rattle.serial_meaning.specs.Answer.{AnswerView, IsAnswer}
use Rattle.engine.specs.declared.report.ReportEnd.{ReportEnd}
use Rattle.engine.specs.Report.{outcome_ending}
use Rattle.engine.proofs.ReportLemmas.{main_text, main_ending}
use Rattle.engine.proofs.run.lines_report.Goals as goal

pub returns : goal.returns
returns c =
    let a = c.args.answer in
    let is : IsAnswer a.plan a.origin a.out a.outcome = subst (λ (x : AnswerView). IsAnswer x.plan x.origin x.out x.outcome) c.answer.view_is c.answer.invariant in
    let evals = c.whole_answers_are_evals.ensures in
    let ending : c.ending_for-ending.result ≡ outcome_ending a.outcome = c.ending_for-ending.ensures ∙ ap (λ (x : AnswerView). outcome_ending x.outcome) c.answer.view_is in
    ap₂ (λ (o : List ℕ) (e : ReportEnd). record { output = o; ending = e }) (c.lines.ensures ∙ main_text a a.plan evals is c.requires.whole refl c.requires.main) (ending ∙ main_ending a a.plan evals is c.requires.whole refl c.requires.main)
