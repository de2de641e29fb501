use Rattle.std.specs.Arc.{arc_value}
use Rattle.sched_core.proofs.KnownOfNodes.Beginning.{core-begun}
use Rattle.sched_core.proofs.cores.Core.new.Goals as goal

pub returns : goal.returns
returns c = core-begun (arc_value c.args.plan.now) c.args.workers c.in_ok-state.state c.in_ok-state.ensures.begun
