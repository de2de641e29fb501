use Rattle.strand_machine.proofs.Moves.Dispatch.{spawned-so}
use Rattle.strand_machine.proofs.leave.spawn.Goals as goal

pub returns-in-Ok-clause-made : goal.returns-in-Ok-clause-made
returns-in-Ok-clause-made g c =
    spawned-so c.args.parts.now.state c.add_child_task.new.state c.args.child.origin c.args.destination c.args.remaining _ c.in-Ok.child c.in-Ok.ensures.child c.in-Ok.ensures.joins c.in-Ok.ensures.state c.set_remaining.ensures
