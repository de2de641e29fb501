use Rattle.std.proofs.Common.{rules, ◌≡◌, ◌∙◌, ◌++◌, ap, length, subst}
use Rattle.serial_meaning.specs.Answer.{AnswerView, IsAnswer}
use Rattle.serial_meaning.specs.Render.{end_line}
use Rattle.span_report.specs.Series.{IsSpan}
use Rattle.engine.specs.Report.{outcome_ending, span_lines}
use Rattle.engine.proofs.ReportLemmas.{span_reported}
use Rattle.engine.proofs.run.measure_report.Goals as goal

pub returns : goal.returns
returns c =
    let a = c.args.answer in
    let is : IsAnswer a.plan a.origin a.out a.outcome = subst (λ (x : AnswerView). IsAnswer x.plan x.origin x.out x.outcome) c.answer.view_is c.answer.invariant in
    let m = c.in_ok-measured.measured in
    let work : m.work ≡ length a.out = rw c.in_ok-measured.was at c.span-measured.ensures.work in
    let longest : IsSpan a.out m.span = rw c.in_ok-measured.was at c.span-measured.ensures.span in
    let output : c.extend_from_slice.new.self.items ≡ span_lines m.work m.span ++ end_line a.outcome = search rules in
    let ending : c.ending_for-ending.result ≡ outcome_ending a.outcome = c.ending_for-ending.ensures ∙ ap (λ (x : AnswerView). outcome_ending x.outcome) c.answer.view_is in
    span_reported a _ m.work m.span c.whole_answers_are_evals.ensures is c.requires.whole c.requires.main work longest (c.text.ensures ∙ output) ending
