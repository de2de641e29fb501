use Rattle.std.proofs.Common.{sym, subst}
use Rattle.std.specs.Arc.{arc_value}
use Rattle.serial_meaning.specs.Eval.{path_of}
use Rattle.serial_meaning.specs.declared.origin.Origin.{Origin}
use Rattle.serial_runner.specs.Nodes.{IsBelow}
use Rattle.serial_runner.specs.Observed.{WalksOn}
use Rattle.serial_runner.proofs.Walking.{walk_begins, walks_on_as}
use Rattle.serial_runner.proofs.walk.observe_instance.Goals as goal

pub loop-next-init : goal.loop-next-init
loop-next-init c = walk_begins c.observation_begins.ensures _ _ _ c.requires.instance c.in_ok-walk.ensures.sound _ c.in_ok-walk.ensures.walk

pub walk_on-requires-clause-below : goal.walk_on-requires-clause-below
walk_on-requires-clause-below c = subst (λ (o : Origin). IsBelow (path_of o) c.args.at.now) (sym c.loop-next.invariant.origin_is) c.requires.below

pub returns-in-Ends : goal.returns-in-Ends
returns-in-Ends c =
    let plan = arc_value c.args.plan.now in
    subst (WalksOn plan c.args.origin c.args.at.now c.loop-next.walk) c.in-Ends.is (walks_on_as plan c.args.origin c.args.at.now c.loop-next.walk c.loop-next.invariant c.in_ok-next.field-0 c.in_ok-next.ensures)
