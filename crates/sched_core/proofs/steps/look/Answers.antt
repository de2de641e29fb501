use Rattle.std.proofs.Common.{◌≡◌, ◌<◌, true, false, Some, slice_get, slice_set, length, map, refl, sym, ◌∙◌, arith}
use Rattle.sched_meaning.specs.Simulation.{is_free}
use Rattle.sched_core.specs.Cores.{worker_of}
use Rattle.sched_core.specs.Lawful.{has_stalled}
use Rattle.sched_core.specs.Moves.{TakesStalled, Stalls, SetsCurrent, WorkerChanges}
use Rattle.sched_core.proofs.Worked.Lists.{length-set}
use Rattle.sched_core.proofs.Worked.Placing.{change-at, first-true, get-at, is-below, on-ok}
use Rattle.sched_core.proofs.Events.Resuming.{stalled-job}
use Rattle.std.proofs.lemmas.Option.{slice_get_within}
use Rattle.sched_core.proofs.Events.Waking.{can-resume, passes-on, wakes}
use Rattle.sched_core.proofs.steps.look.Goals as goal

pub index-requires : goal.index-requires
index-requires c =
    let s = c.args.state.now in
    let ws = s.workers.items in
    let w = c.args.w in
    let j = c.take_stalled-job.result in
    let mid = slice_set ws w c.take_stalled-job.new.self in
    let free : is_free (slice_get (map worker_of ws) w) ≡ true = first-true (is_free (slice_get (map worker_of ws) w)) (has_stalled c.args.place (slice_get (map worker_of ws) w)) c.requires.lawful in
    let leaves : WorkerChanges w (TakesStalled c.args.place j) ws mid = change-at w (TakesStalled c.args.place j) ws c.index_mut.result.now c.take_stalled-job.new.self c.index_mut.ensures.value (is-below is_free refl ws w free) c.take_stalled-job.ensures in
    let is = stalled-job s c.requires.consistent w c.args.place leaves.worker leaves.there j leaves.does.0 in
    let small : j.number < length s.nodes.items = slice_get_within s.nodes.items j.number is.node is.there in
    omega (arith, small, s.nodes.ok.0)

pub resume-requires : goal.resume-requires
resume-requires c =
    let s = c.args.state.now in
    let ws = s.workers.items in
    let w = c.args.w in
    let j = c.take_stalled-job.result in
    let mid = slice_set ws w c.take_stalled-job.new.self in
    let free : is_free (slice_get (map worker_of ws) w) ≡ true = first-true (is_free (slice_get (map worker_of ws) w)) (has_stalled c.args.place (slice_get (map worker_of ws) w)) c.requires.lawful in
    let leaves : WorkerChanges w (TakesStalled c.args.place j) ws mid = change-at w (TakesStalled c.args.place j) ws c.index_mut.result.now c.take_stalled-job.new.self c.index_mut.ensures.value (is-below is_free refl ws w free) c.take_stalled-job.ensures in
    let is = stalled-job s c.requires.consistent w c.args.place leaves.worker leaves.there j leaves.does.0 in
    let small : j.number < length s.nodes.items = slice_get_within s.nodes.items j.number is.node is.there in
    let node = c.index.result.now in
    let found : slice_get s.nodes.items j.number ≡ Some node = get-at s.nodes.items j.number node c.index.ensures small in
    can-resume s c.requires.consistent w c.args.place j mid leaves node found (c.is_ready.ensures.0 c.if-is_ready.true)

pub index_mut-requires-then-is_ready : goal.index_mut-requires-then-is_ready
index_mut-requires-then-is_ready c =
    let s = c.args.state.now in
    let ws = s.workers.items in
    let w = c.args.w in
    let free : is_free (slice_get (map worker_of ws) w) ≡ true = first-true (is_free (slice_get (map worker_of ws) w)) (has_stalled c.args.place (slice_get (map worker_of ws) w)) c.requires.lawful in
    let small : w < length ws = is-below is_free refl ws w free in
    omega (arith, small, s.workers.ok.0)

pub returns-then-is_ready : goal.returns-then-is_ready
returns-then-is_ready c =
    let s = c.args.state.now in
    let ws = s.workers.items in
    let w = c.args.w in
    let j = c.take_stalled-job.result in
    let mid = slice_set ws w c.take_stalled-job.new.self in
    let free : is_free (slice_get (map worker_of ws) w) ≡ true = first-true (is_free (slice_get (map worker_of ws) w)) (has_stalled c.args.place (slice_get (map worker_of ws) w)) c.requires.lawful in
    let leaves : WorkerChanges w (TakesStalled c.args.place j) ws mid = change-at w (TakesStalled c.args.place j) ws c.index_mut.result.now c.take_stalled-job.new.self c.index_mut.ensures.value (is-below is_free refl ws w free) c.take_stalled-job.ensures in
    let is = stalled-job s c.requires.consistent w c.args.place leaves.worker leaves.there j leaves.does.0 in
    let small : j.number < length s.nodes.items = slice_get_within s.nodes.items j.number is.node is.there in
    let node = c.index.result.now in
    let found : slice_get s.nodes.items j.number ≡ Some node = get-at s.nodes.items j.number node c.index.ensures small in
    let still : w < length mid = let l : length mid ≡ length ws = length-set ws w c.take_stalled-job.new.self in let k : w < length ws = is-below is_free refl ws w free in omega arith in
    wakes s c.requires.consistent w c.args.place j mid leaves node found c.requires.root free _ (c.is_ready.ensures.0 c.if-is_ready.true) c.in_ok-job.job c.in_ok-job.ensures
    (change-at w (SetsCurrent c.in_ok-job.job) mid c.index_mut-then-is_ready.result.now c.set_current.new.self c.index_mut-then-is_ready.ensures.value still c.set_current.ensures) refl refl refl refl

pub index_mut-requires-2 : goal.index_mut-requires-2
index_mut-requires-2 c =
    let s = c.args.state.now in
    let ws = s.workers.items in
    let w = c.args.w in
    let free : is_free (slice_get (map worker_of ws) w) ≡ true = first-true (is_free (slice_get (map worker_of ws) w)) (has_stalled c.args.place (slice_get (map worker_of ws) w)) c.requires.lawful in
    let small : w < length ws = is-below is_free refl ws w free in
    omega (arith, small, s.workers.ok.0)

pub returns : goal.returns
returns c =
    let s = c.args.state.now in
    let ws = s.workers.items in
    let w = c.args.w in
    let j = c.take_stalled-job.result in
    let mid = slice_set ws w c.take_stalled-job.new.self in
    let free : is_free (slice_get (map worker_of ws) w) ≡ true = first-true (is_free (slice_get (map worker_of ws) w)) (has_stalled c.args.place (slice_get (map worker_of ws) w)) c.requires.lawful in
    let leaves : WorkerChanges w (TakesStalled c.args.place j) ws mid = change-at w (TakesStalled c.args.place j) ws c.index_mut.result.now c.take_stalled-job.new.self c.index_mut.ensures.value (is-below is_free refl ws w free) c.take_stalled-job.ensures in
    let is = stalled-job s c.requires.consistent w c.args.place leaves.worker leaves.there j leaves.does.0 in
    let small : j.number < length s.nodes.items = slice_get_within s.nodes.items j.number is.node is.there in
    let node = c.index.result.now in
    let found : slice_get s.nodes.items j.number ≡ Some node = get-at s.nodes.items j.number node c.index.ensures small in
    let still : w < length mid = let l : length mid ≡ length ws = length-set ws w c.take_stalled-job.new.self in let k : w < length ws = is-below is_free refl ws w free in omega arith in
    on-ok c.stall.result
    (λ h. passes-on s c.requires.consistent w c.args.place j mid leaves node found c.requires.root free _ (λ z. (let both : false ≡ true = sym c.if-is_ready.false ∙ c.is_ready.ensures.1 z in absurd (cc)))
    (change-at w (Stalls j) mid c.index_mut-2.result.now c.stall.new.self c.index_mut-2.ensures.value still h) (record { plan = refl; nodes = refl; given = refl; root = refl; runs = refl }))
    c.stall.ensures
