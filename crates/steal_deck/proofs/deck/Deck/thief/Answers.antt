use Rattle.std.proofs.Common.{sym, subst, []}
use Rattle.crossbeam_deque.specs.Tasks.{Forks}
use Rattle.crossbeam_deque.specs.Handles.{worker_view}
use Rattle.steal_deck.specs.History.{HasHistory, with_thief, thief}
use Rattle.steal_deck.proofs.Moves.{forks}
use Rattle.steal_deck.proofs.deck.Deck.thief.Goals as goal

pub another-pass-requires : goal.another-pass-requires
another-pass-requires g c =
    let v = worker_view c.self.inside.worker in
    subst (λ p. Forks HasHistory p v (with_thief v) (thief [])) (sym c.self.invariant.0) (forks v)
