use Rattle.std.proofs.Common.{ap, arith}
use Rattle.steal_deck.proofs.Moves.{steals, finds_few}
use Rattle.steal_deck.proofs.thief.Thief.steal.Goals as goal

pub steal_as-requires-clause-takes : goal.steal_as-requires-clause-takes
steal_as-requires-clause-takes g c = steals _ _ (ap (λ u. u.is_thief) c.self.invariant.2)

pub steal_as-requires-clause-empty : goal.steal_as-requires-clause-empty
steal_as-requires-clause-empty g c = finds_few _ _ _ (ap (λ u. u.is_thief) c.self.invariant.2) (omega arith)
