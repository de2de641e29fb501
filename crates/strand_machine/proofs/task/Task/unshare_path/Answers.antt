use Rattle.std.proofs.Common.{sym, ap, ◌∙◌, subst}
use Rattle.strand_machine.specs.Tasks.{HoldsOfTask, view_of}
use Rattle.strand_machine.specs.declared.parts.Parts.{Parts}
use Rattle.strand_machine.proofs.task.Task.unshare_path.Goals as goal

pub invariant_of-self : goal.invariant_of-self
invariant_of-self g c = subst (λ (p : Parts _). HoldsOfTask p.state p.remaining) (sym (c.unshare_path.ensures ∙ c.deref_mut.ensures.value)) c.self.invariant

pub returns : goal.returns
returns g c = ap (λ (p : Parts _). view_of p.state p.remaining) (c.unshare_path.ensures ∙ c.deref_mut.ensures.value) ∙ c.self.view_is
