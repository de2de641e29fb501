use Rattle.std.proofs.Common.{sym, subst}
use Rattle.crossbeam_deque.specs.Tasks.{Learns}
use Rattle.crossbeam_deque.specs.Handles.{worker_view}
use Rattle.steal_deck.specs.History.{HasHistory}
use Rattle.steal_deck.specs.Steps.{Accounted}
use Rattle.steal_deck.proofs.Moves.{learns}
use Rattle.steal_deck.proofs.deck.Deck.close.Goals as goal

pub len_as-requires : goal.len_as-requires
len_as-requires g c =
    let v = worker_view c.self.inside.worker in
    subst (λ p. Learns HasHistory p v (λ items. Accounted v)) (sym c.self.invariant.0) (learns v)
