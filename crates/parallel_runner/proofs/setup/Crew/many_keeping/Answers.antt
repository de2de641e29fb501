use Rattle.std.proofs.Common.{◌≤◌, refl, map, subst}
use Rattle.std.specs.Arc.{arc_value}
use Rattle.parallel_runner.specs.Crews.{IsDealt}
use Rattle.parallel_runner.specs.Hands.{HandView}
use Rattle.parallel_runner.proofs.Meeting.{first-has-none, is_dealt}
use Rattle.parallel_runner.proofs.setup.Crew.many_keeping.Goals as goal

pub take_on-requires-clause-overflow : goal.take_on-requires-clause-overflow
take_on-requires-clause-overflow g c = (first-has-none c.args.workers c.in_ok-hands.hands.items c.index_mut.result.now c.index_mut.result.now c.in_ok-hands.ensures.idle c.requires.workers.0 c.index_mut.ensures.value).0

pub take_on-requires-clause-pushed : goal.take_on-requires-clause-pushed
take_on-requires-clause-pushed g c = (first-has-none c.args.workers c.in_ok-hands.hands.items c.index_mut.result.now c.index_mut.result.now c.in_ok-hands.ensures.idle c.requires.workers.0 c.index_mut.ensures.value).1

pub returns : goal.returns
returns g c =
    let idle = c.in_ok-hands.hands.items in
    let tasks = c.in_ok-roots.tasks.items in
    let few : 1 ≤ c.args.workers = c.requires.workers.0 in
    let new = rw c.as_slice.ensures at c.in_ok-roots.ensures in
    is_dealt (map arc_value c.args.plans.now) c.args.workers tasks idle idle c.index_mut.result.now c.take_on.new.self c.in_ok-hands.ensures.idle refl few c.in_ok-roots.roots.items new
    (subst (λ (h : HandView). IsDealt tasks h c.take_on.new.self) c.index_mut.ensures.value c.in_ok-take_on.ensures)
