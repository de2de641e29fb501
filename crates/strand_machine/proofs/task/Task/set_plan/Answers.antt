use Rattle.std.proofs.Common.{sym, subst}
use Rattle.strand_machine.specs.declared.parts.Parts.{Parts}
use Rattle.strand_machine.specs.Tasks.{HoldsOfTask}
use Rattle.strand_machine.proofs.task.Task.set_plan.Goals as goal

pub invariant_of-self : goal.invariant_of-self
invariant_of-self g c = rw c.set_plan.ensures (subst (λ (p : Parts _). HoldsOfTask p.state p.remaining) (sym c.deref_mut.ensures.value) c.self.invariant)
