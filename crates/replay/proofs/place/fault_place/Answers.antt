use Rattle.std.proofs.Common.{◌≡◌, ◌∙◌, sym, subst}
use Rattle.std.specs.Arc.{arc_value}
use Rattle.serial_meaning.specs.Open.{node_of}
use Rattle.serial_meaning.specs.declared.origin.Origin.{Origin}
use Rattle.strand_meaning.specs.Observation.{own_fault_of}
use Rattle.strand_machine.specs.Placed.{fault_met}
use Rattle.serial_runner.specs.FaultWalks.{OriginMeets}
use Rattle.replay.proofs.Down.{begins_at_main, seen_from_main}
use Rattle.replay.proofs.FaultPlaces.{with_fault}
use Rattle.replay.proofs.place.fault_place.Goals as goal

pub loop-origin-init : goal.loop-origin-init
loop-origin-init c = record {
  on = begins_at_main _ _ _ _ c.at.inside.path c.at.inside.rank c.at.view_is c.deref.ensures c.in_ok-origin.ensures;
  same = seen_from_main _ _ _ _ c.at.inside.path c.at.inside.rank c.at.view_is c.deref.ensures c.in_ok-origin.ensures;
}

pub returns-then-has_fault : goal.returns-then-has_fault
returns-then-has_fault c =
    let plan = arc_value c.args.plan.now in
    let met = c.in_ok-meet_fault-in-Found in
    with_fault plan c.args.at.now c.loop-origin.origin c.loop-origin.invariant.on c.loop-origin.invariant.same c.in-Found.strand (rw c.in-Found.is at c.in_ok-strand.ensures) (sym c.has_fault.ensures ∙ c.if-has_fault.true) met.field-0
    (subst (λ (o : Origin). OriginMeets plan o met.field-0) c.in_ok-here.ensures met.ensures.meets)
    (subst (λ (o : Origin). own_fault_of (node_of plan o).ending ≡ fault_met met.field-0) c.in_ok-here.ensures met.ensures.fault)
