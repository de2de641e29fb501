use Rattle.strand_moves.proofs.Statements.BoxedSpawns.{boxed-acts, boxed-child}
use Rattle.strand_moves.proofs.instance_parts.InstanceParts.spawn_move.Goals as goal

pub returns-clause-shows : goal.returns-clause-shows
returns-clause-shows c = λ st.
    let boxed = rw c.in_ok-pedigree.ensures at c.spawn_as_move.ensures in
    boxed-acts c.args.plan.now st _ c.args.self.now c.spawn-done.new.self _ c.spawn-done.result c.spawn_as_move.result boxed (c.spawn-done.ensures.shows st)

pub returns-clause-child : goal.returns-clause-child
returns-clause-child c = boxed-child c.args.plan.now _ c.spawn-done.result c.spawn_as_move.result c.spawn_as_move.ensures c.spawn-done.ensures.child

pub returns-clause-named : goal.returns-clause-named
returns-clause-named c = c.spawn-done.ensures.named
