use Rattle.std.proofs.Common.{sym, subst}
use Rattle.std.specs.Arc.{arc_value}
use Rattle.serial_meaning.specs.Answer.{AnswerView}
use Rattle.strand_meaning.specs.Cuts.{IsByFaultOf}
use Rattle.parallel_runner.proofs.steps.publish_fault.Goals as goal

pub publish-requires : goal.publish-requires
publish-requires g c =
    let known : IsByFaultOf (arc_value c.answer.inside.plan) c.answer.inside.outcome = subst (λ (a : AnswerView). IsByFaultOf a.plan a.outcome) (sym c.answer.view_is) c.requires in
    rw c.in-Fault.is at known
