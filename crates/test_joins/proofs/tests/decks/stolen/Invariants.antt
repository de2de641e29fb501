use Rattle.std.proofs.Common.{◌≡◌, ◌<◌}
use Rattle.test_joins.proofs.tests.decks.stolen.Given as goal

abbrev pub invariant-loop : goal.invariant-loop
invariant-loop l = (l.thief.deck ≡ l.initial.thief.deck) × (l.idle < 1000)
