use Rattle.std.proofs.Common.{sym, subst}
use Rattle.crossbeam_deque.specs.Tasks.{Pops, Finds}
use Rattle.crossbeam_deque.specs.Handles.{worker_view}
use Rattle.steal_deck.specs.History.{HasHistory}
use Rattle.steal_deck.specs.Steps.{One, Popped, FoundNone}
use Rattle.steal_deck.proofs.Moves.{pops, finds}
use Rattle.steal_deck.proofs.deck.Deck.pop.Goals as goal

pub pop_as-task-requires-clause-lifo : goal.pop_as-task-requires-clause-lifo
pop_as-task-requires-clause-lifo g c = λ _.
    let v = worker_view c.self.inside.worker in
    subst (λ p. Pops HasHistory p v (λ xs w. One (λ x. Popped v x w) xs)) (sym c.self.invariant.0) (pops v)

pub pop_as-task-requires-clause-empty : goal.pop_as-task-requires-clause-empty
pop_as-task-requires-clause-empty g c =
    let v = worker_view c.self.inside.worker in
    subst (λ p. Finds HasHistory p v (FoundNone v)) (sym c.self.invariant.0) (finds v)
