use Rattle.std.proofs.Common.{◌≡◌, ◌∙◌, List, sym, ap, subst}
use Rattle.serial_runner.specs.declared.open_tasks.OpenTask.{OpenTask}
use Rattle.serial_runner.specs.Stacks.{AnswersLowest, AreBelow, IsAnswerOf, lowest_of, task_of_answer}
use Rattle.strand_machine.proofs.NextStops.Pausing.{ended-stop}
use Rattle.serial_runner.proofs.Advancing.{known_fault, answer_below, all_ended, ended}
use Rattle.serial_runner.proofs.advance.end_top.Goals as goal

pub end_all-requires-clause-known : goal.end_all-requires-clause-known
end_all-requires-clause-known g c =
    let a = c.into_answer-answer in
    known_fault c.requires.0 c.requires.1 a.result.0 a.result.1 (ended-stop _ c.args.ended _ c.requires.3 a.ensures)

pub end_all-requires-clause-below : goal.end_all-requires-clause-below
end_all-requires-clause-below g c =
    let a = c.into_answer-answer in
    subst (AreBelow (task_of_answer a.result.0)) c.requires.2 (answer_below c.requires.0 c.requires.1 a.result.0 a.result.1 (ended-stop _ c.args.ended _ c.requires.3 a.ensures))

pub returns-then-is_fault : goal.returns-then-is_fault
returns-then-is_fault g c = λ s is same has.
    let a = c.into_answer-answer in
    subst (AnswersLowest s) (sym c.in_ok-boxed.ensures)
    (all_ended s is a.result.0 a.result.1 (ended-stop _ c.args.ended _ has a.ensures) c.in_ok-last.last
    (subst (λ (fs : List (OpenTask _)). IsAnswerOf (lowest_of (task_of_answer a.result.0) fs) c.in_ok-last.last) (sym same) c.in_ok-last.ensures))

pub returns : goal.returns
returns g c = λ s is same has.
    let a = c.into_answer-answer in
    ended s is a.result.0 a.result.1 (ended-stop _ c.args.ended _ has a.ensures) c.answer_below.result (λ f fs e. c.answer_below.ensures.parent f fs (sym same ∙ e)) (λ e. c.answer_below.ensures.last (sym same ∙ e))
