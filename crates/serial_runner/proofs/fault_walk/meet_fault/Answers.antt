use Rattle.std.proofs.Common.{subst}
use Rattle.std.specs.Arc.{arc_value}
use Rattle.serial_runner.specs.FaultWalks.{FaultWalksOn}
use Rattle.serial_runner.proofs.FaultEnds.{ends_by_what_it_met}
use Rattle.serial_runner.proofs.FaultWalking.{fault-walk-begins, of_own, walks_as}
use Rattle.serial_runner.proofs.fault_walk.meet_fault.Goals as goal

pub loop-next-init : goal.loop-next-init
loop-next-init c = fault-walk-begins _ _ c.in_ok-walk.ensures.sound _ c.in_ok-walk.ensures.walk

pub walk_on-requires : goal.walk_on-requires
walk_on-requires c = of_own _ _ _ c.loop-next.invariant

pub returns-in-Ends-clause-meets : goal.returns-in-Ends-clause-meets
returns-in-Ends-clause-meets c =
    let plan = arc_value c.args.plan.now in
    subst (FaultWalksOn plan c.args.origin c.loop-next.walk) c.in-Ends.is (walks_as plan c.args.origin c.loop-next.walk c.loop-next.invariant c.in_ok-next.field-0 c.in_ok-next.ensures)

pub returns-in-Ends-clause-fault : goal.returns-in-Ends-clause-fault
returns-in-Ends-clause-fault c =
    let plan = arc_value c.args.plan.now in
    let meets = subst (FaultWalksOn plan c.args.origin c.loop-next.walk) c.in-Ends.is (walks_as plan c.args.origin c.loop-next.walk c.loop-next.invariant c.in_ok-next.field-0 c.in_ok-next.ensures) in
    ends_by_what_it_met c.observation_goes_on.ensures c.answers_show_nothing.ensures c.observation_begins.ensures plan c.args.origin c.requires.instance c.in_ok-walk.ensures.sound _ meets
