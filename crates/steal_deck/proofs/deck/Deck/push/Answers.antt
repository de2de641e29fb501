use Rattle.std.proofs.Common.{sym, subst, [], ◌∷◌}
use Rattle.crossbeam_deque.specs.Tasks.{Pushes}
use Rattle.crossbeam_deque.specs.Handles.{worker_view}
use Rattle.steal_deck.specs.History.{HasHistory}
use Rattle.steal_deck.specs.Steps.{Pushed}
use Rattle.steal_deck.proofs.Moves.{pushes}
use Rattle.steal_deck.proofs.deck.Deck.push.Goals as goal

pub push_as-requires-clause-pushes : goal.push_as-requires-clause-pushes
push_as-requires-clause-pushes g c =
    let v = worker_view c.self.inside.worker in
    subst (λ p. Pushes HasHistory p v (c.args.task ∷ []) (Pushed v c.args.task)) (sym c.self.invariant.0) (pushes v c.args.task)
