use Rattle.std.proofs.Common.{sym, subst, ap}
use Rattle.crossbeam_deque.specs.Tasks.{Merges}
use Rattle.crossbeam_deque.specs.Handles.{worker_view, view}
use Rattle.steal_deck.specs.History.{HasHistory, with_back, retired}
use Rattle.steal_deck.proofs.Moves.{merges}
use Rattle.steal_deck.proofs.deck.Deck.rejoin.Goals as goal

pub absorb-requires-clause-rule : goal.absorb-requires-clause-rule
absorb-requires-clause-rule g c =
    let v = worker_view c.self.inside.worker in
    let pass = c.thief.inside.pass in
    subst (λ p. Merges HasHistory p v pass.id (view pass) (with_back v (view pass)) retired) (sym c.self.invariant.0)
    (merges v pass.id (view pass) (ap (λ u. u.is_thief) c.thief.invariant.2))
