use Rattle.std.proofs.Common.{◌≡◌, ◌≤◌, ◌⊎◌, [], ◌++◌, length, reverse}
use Rattle.parallel_runner.proofs.steps.put_all.Given as goal

-- those that are left come after all that were put
abbrev pub invariant-loop-task : goal.invariant-loop-task
invariant-loop-task g l = record {
  all : (l.deck.pushed ++ l.overflow) ++ reverse l.left.items ≡ reverse l.fn.tasks.items;
  refused : (l.overflow ≡ []) ⊎ (64 ≤ length l.deck.pushed);
  deck : l.deck ≡ record l.fn.deck { pushed = l.deck.pushed };
}

abbrev pub decreases-loop-task : goal.decreases-loop-task
decreases-loop-task g l = length l.left.items
