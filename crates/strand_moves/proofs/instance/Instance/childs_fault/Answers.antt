use Rattle.std.proofs.Common.{ap, ◌∙◌}
use Rattle.strand_moves.specs.declared.instance_parts.InstanceParts.{InstanceParts}
use Rattle.strand_moves.specs.InstanceParts.{machine_of}
use Rattle.strand_moves.proofs.instance.Instance.childs_fault.Goals as goal

pub returns : goal.returns
returns c = λ plan. c.childs_fault.ensures plan ∙ ap (λ (r : InstanceParts). (machine_of plan r).top.faulted) c.deref.ensures
