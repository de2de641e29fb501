use Rattle.std.proofs.Common.{refl}
use Rattle.strand_machine.proofs.Moves.Dispatch.{spawned-so}
use Rattle.strand_machine.proofs.leave.spawn_in_place.Goals as goal

pub returns-clause-made : goal.returns-clause-made
returns-clause-made g c =
    let p = c.args.parts.now in
    spawned-so p.state c.add_child_task.new.state c.args.child.origin c.args.destination p.remaining _ c.in_ok-task.task c.in_ok-task.ensures.child c.in_ok-task.ensures.joins c.in_ok-task.ensures.state refl
