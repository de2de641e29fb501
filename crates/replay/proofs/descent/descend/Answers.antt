use Rattle.std.proofs.Common.{sym, ◌∙◌}
use Rattle.replay.proofs.Down.{is_blocked, is_own, is_reached, is_missing, leads_down, leads_nowhere}
use Rattle.replay.proofs.descent.descend.Goals as goal

pub returns-in_default-2 : goal.returns-in_default-2
returns-in_default-2 c = leads_nowhere _ _ _ c.requires c.in_ok-strand.field-0 c.in_ok-strand.ensures c.in-Some.child c.in-Some.is (sym c.in_ok-next.ensures.ok ∙ c.in_default-2.is)

pub returns-in-Some : goal.returns-in-Some
returns-in-Some c = leads_down _ _ _ c.requires c.in_ok-strand.field-0 c.in_ok-strand.ensures c.in-Some.child c.in-Some-2.next c.in-Some.is (sym c.in_ok-next.ensures.ok ∙ c.in-Some-2.is)

pub returns-in-Some-child_fault : goal.returns-in-Some-child_fault
returns-in-Some-child_fault c = is_blocked _ _ _ c.requires c.in_ok-strand.field-0 c.in_ok-strand.ensures c.in_default.is c.in-Some-child_fault.fault c.in-Some-child_fault.is

pub returns-in-Some-strand : goal.returns-in-Some-strand
returns-in-Some-strand c =
    let m = c.in_ok-strand.field-0 in
    (is_reached _ _ _ c.requires m c.in_ok-strand.ensures c.in_default.is c.in_default-child_fault.is c.in-Some-strand.strand c.in-Some-strand.is, is_own _ _ _ c.requires m c.in_ok-strand.ensures c.in_default.is c.in-Some-strand.strand c.in-Some-strand.is)

pub returns-in-None : goal.returns-in-None
returns-in-None c = is_missing _ _ _ c.requires c.in_ok-strand.field-0 c.in_ok-strand.ensures c.in_default.is c.in_default-child_fault.is c.in-None.is
