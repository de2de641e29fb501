use Rattle.std.proofs.Common.{◌≡◌, ℕ, ◌<◌, ◌≤◌, length, get_or}
use Rattle.steal_deck.specs.Ends.{ThiefEnd}
use Rattle.strand_machine.specs.Tasks.{TaskView}
use Rattle.parallel_runner.specs.Hands.{missed}
use Rattle.parallel_runner.proofs.steps.steal.Given as goal

abbrev pub invariant-loop-thief : goal.invariant-loop-thief
invariant-loop-thief g l = record {
  count : length l.thieves ≡ length l.fn.thieves;
  miss : (k : ℕ) (d : ThiefEnd TaskView) → k < l.thief-index → get_or l.thieves k d ≡ missed (get_or l.fn.thieves k d);
  same : (k : ℕ) (d : ThiefEnd TaskView) → l.thief-index ≤ k → get_or l.thieves k d ≡ get_or l.fn.thieves k d;
}
