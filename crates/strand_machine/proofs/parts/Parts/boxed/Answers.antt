use Rattle.std.proofs.Common.{sym, ap, subst}
use Rattle.strand_machine.specs.Tasks.{HoldsOfTask, view_of}
use Rattle.strand_machine.specs.declared.parts.Parts.{Parts}
use Rattle.strand_machine.proofs.parts.Parts.boxed.Goals as goal

pub invariant_of-result : goal.invariant_of-result
invariant_of-result g c = subst (λ (q : Parts _). HoldsOfTask q.state q.remaining) (sym c.in_ok-parts.ensures.boxed) c.requires

pub returns : goal.returns
returns g c = ap (λ (q : Parts _). view_of q.state q.remaining) c.in_ok-parts.ensures.boxed
