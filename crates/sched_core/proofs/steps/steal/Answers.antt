use Rattle.std.proofs.Common.{◌≡◌, ◌<◌, ◌&&◌, not, nat_eq, true, slice_get, slice_set, length, map, refl, arith}
use Rattle.sched_meaning.specs.Simulation.{is_free, has_ready}
use Rattle.sched_core.specs.Cores.{worker_of}
use Rattle.sched_core.specs.Moves.{PopsFront, SetsCurrent}
use Rattle.sched_core.proofs.Worked.Lists.{length-set}
use Rattle.sched_core.proofs.Worked.Placing.{change-at, first-true, is-below, second-true, two-numbers}
use Rattle.sched_core.proofs.Events.Taking.{steal-goes}
use Rattle.sched_core.proofs.steps.steal.Goals as goal

pub returns : goal.returns
returns c =
    let s = c.args.state.now in
    let thief = c.args.thief in
    let victim = c.args.victim in
    let ws = s.workers.items in
    let j = c.pop_front-job.result in
    let mid = slice_set ws victim c.pop_front-job.new.self in
    let two : not (nat_eq thief victim) ≡ true = first-true (not (nat_eq thief victim)) (is_free (slice_get (map worker_of ws) thief) && has_ready (slice_get (map worker_of ws) victim)) c.requires.lawful in
    let rest : (is_free (slice_get (map worker_of ws) thief) && has_ready (slice_get (map worker_of ws) victim)) ≡ true = second-true (not (nat_eq thief victim)) (is_free (slice_get (map worker_of ws) thief) && has_ready (slice_get (map worker_of ws) victim)) c.requires.lawful in
    let free : is_free (slice_get (map worker_of ws) thief) ≡ true = first-true (is_free (slice_get (map worker_of ws) thief)) (has_ready (slice_get (map worker_of ws) victim)) rest in
    let has : has_ready (slice_get (map worker_of ws) victim) ≡ true = second-true (is_free (slice_get (map worker_of ws) thief)) (has_ready (slice_get (map worker_of ws) victim)) rest in
    let small : victim < length ws = is-below has_ready refl ws victim has in
    let still : thief < length mid = let l : length mid ≡ length ws = length-set ws victim c.pop_front-job.new.self in let k : thief < length ws = is-below is_free refl ws thief free in omega arith in
    steal-goes s _ c.requires.consistent c.requires.root (record { plan = refl; nodes = refl; given = refl; root = refl; runs = refl }) thief victim j mid (two-numbers thief victim two)
    (change-at victim (PopsFront j) ws c.index_mut.result.now c.pop_front-job.new.self c.index_mut.ensures.value small c.pop_front-job.ensures)
    (change-at thief (SetsCurrent j) mid c.index_mut-2.result.now c.set_current.new.self c.index_mut-2.ensures.value still c.set_current.ensures) free
