use Rattle.std.proofs.Common.{◌≡◌, ◌++◌, length}
use Rattle.std.specs.Vec.Iter.{into_iter_items, into_iter_len}
use Rattle.sched_core.specs.Nodes.{answers_in, missing}
use Rattle.sched_core.proofs.node.answers_of.Given as goal

-- the answers so far, and those of the children that are left
abbrev pub invariant-loop-child : goal.invariant-loop-child
invariant-loop-child l = record {
  left : into_iter_len l.child-iterator ≡ length (into_iter_items l.child-iterator);
  whole : missing (into_iter_items l.child-iterator) ≡ 0;
  so_far : answers_in l.fn.children ≡ l.answers.items ++ answers_in (into_iter_items l.child-iterator);
}
