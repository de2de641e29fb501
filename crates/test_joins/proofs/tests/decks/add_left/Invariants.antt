use Rattle.std.proofs.Common.{length}
use Rattle.test_joins.proofs.tests.decks.add_left.Given as goal

abbrev pub decreases-loop-number : goal.decreases-loop-number
decreases-loop-number l = length l.left
