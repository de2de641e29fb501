use Rattle.std.proofs.Common.{◌+◌, List, sym, subst}
use Rattle.parallel_runner.specs.Crews.{AreNew}
use Rattle.parallel_runner.specs.Hands.{HandView}
use Rattle.parallel_runner.proofs.Meeting.{one-more}
use Rattle.parallel_runner.proofs.setup.hands_with.Goals as goal

pub loop-preserved : goal.loop-preserved
loop-preserved g c =
    let l = c.loop in
    subst (λ (hs : List HandView). AreNew (l.counter + 1) hs) (sym c.in_ok-push.ensures.items)
    (one-more l.counter l.hands.items c.in_ok-one_more.field-0 l.invariant c.in_ok-one_more.ensures)
