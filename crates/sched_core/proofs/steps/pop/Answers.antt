use Rattle.std.proofs.Common.{◌≡◌, ◌<◌, true, slice_get, slice_set, length, map, refl, arith}
use Rattle.sched_meaning.specs.Simulation.{is_free, has_ready}
use Rattle.sched_core.specs.Cores.{worker_of}
use Rattle.sched_core.specs.Moves.{PopsBack, SetsCurrent}
use Rattle.sched_core.proofs.Worked.Lists.{length-set}
use Rattle.sched_core.proofs.Worked.Placing.{change-at, first-true, is-below}
use Rattle.sched_core.proofs.Events.Taking.{both, pop-goes}
use Rattle.sched_core.proofs.steps.pop.Goals as goal

pub returns : goal.returns
returns c =
    let s = c.args.state.now in
    let w = c.args.w in
    let ws = s.workers.items in
    let j = c.pop_back-job.result in
    let mid = slice_set ws w c.pop_back-job.new.self in
    let free : is_free (slice_get (map worker_of ws) w) ≡ true = first-true (is_free (slice_get (map worker_of ws) w)) (has_ready (slice_get (map worker_of ws) w)) c.requires.lawful in
    let small : w < length ws = is-below is_free refl ws w free in
    let still : w < length mid = let l : length mid ≡ length ws = length-set ws w c.pop_back-job.new.self in omega arith in
    pop-goes s _ c.requires.consistent c.requires.root (record { plan = refl; nodes = refl; given = refl; root = refl; runs = refl }) w j free
    (both w (PopsBack j) (SetsCurrent j) ws mid _ (change-at w (PopsBack j) ws c.index_mut.result.now c.pop_back-job.new.self c.index_mut.ensures.value small c.pop_back-job.ensures)
    (change-at w (SetsCurrent j) mid c.index_mut-2.result.now c.set_current.new.self c.index_mut-2.ensures.value still c.set_current.ensures))
