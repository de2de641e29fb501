use Rattle.strand_moves.proofs.Statements.WaitMoves.{wait-acts, wait-child}
use Rattle.strand_moves.proofs.instance_parts.InstanceParts.pfor_move.Goals as goal

pub returns-clause-shows : goal.returns-clause-shows
returns-clause-shows c = λ st var.
    let boxed = rw c.in_ok-pedigree.ensures at c.wait_as_move.ensures in
    wait-acts c.args.plan.now st _ c.args.self.now c.pfor-done.new.self _ c.pfor-done.result c.wait_as_move.result boxed (c.pfor-done.ensures.shows st var)

pub returns-clause-child : goal.returns-clause-child
returns-clause-child c = wait-child c.args.plan.now _ c.pfor-done.result c.wait_as_move.result c.wait_as_move.ensures c.pfor-done.ensures.child

pub returns-clause-named : goal.returns-clause-named
returns-clause-named c = c.pfor-done.ensures.named
