use Rattle.std.proofs.Common.{◌≡◌}
use Rattle.test_joins.proofs.tests.decks.pushed.Given as goal

abbrev pub invariant-loop-number : goal.invariant-loop-number
invariant-loop-number l = (l.deck.deck ≡ l.initial.deck.deck) × (l.deck.made ≡ l.initial.deck.made) × (l.deck.came ≡ l.initial.deck.came)
