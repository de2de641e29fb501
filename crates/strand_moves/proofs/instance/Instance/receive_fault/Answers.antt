use Rattle.std.proofs.Common.{Err, ap, ◌∙◌}
use Rattle.strand_meaning.specs.Task.{frame_with_answer, changed}
use Rattle.strand_moves.specs.declared.instance_parts.InstanceParts.{InstanceParts}
use Rattle.strand_moves.specs.InstanceParts.{machine_of}
use Rattle.strand_moves.proofs.instance.Instance.receive_fault.Goals as goal

pub returns-clause-machine : goal.returns-clause-machine
returns-clause-machine c = λ plan target.
    c.receive_fault.ensures.machine plan target ∙ ap (λ (r : InstanceParts). changed c.args.height (frame_with_answer target (Err c.args.fault)) (machine_of plan r)) c.deref_mut.ensures.value
