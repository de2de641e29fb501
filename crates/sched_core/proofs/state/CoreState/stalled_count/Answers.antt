use Rattle.std.proofs.Common.{◌≡◌, Some, None, map, slice_get, sym, ◌∙◌}
use Rattle.sched_core.specs.Cores.{task_in, worker_of}
use Rattle.sched_core.proofs.Choices.Listing.{places-none, places-of}
use Rattle.sched_core.proofs.Worked.Lists.{get-map, get-map-none, length-map}
use Rattle.sched_core.proofs.Worked.Placing.{seen-at, seen-past}
use Rattle.sched_core.proofs.state.CoreState.stalled_count.Goals as goal

pub returns-in-Some : goal.returns-in-Some
returns-in-Some c =
    let ws = c.args.self.now.workers.items in
    let v = c.in-Some.worker.now in
    let found = c.in-Some.ensures.lookup in
    let there : slice_get ws c.args.w ≡ Some v = seen-at ws c.deref.result.now c.args.w v c.deref.ensures.value found.3.0 found.1 in
    c.stalled_count.ensures ∙ sym (length-map task_in v.stalled) ∙ sym (places-of (slice_get (map worker_of ws) c.args.w) (worker_of v) (get-map worker_of ws c.args.w v there))

pub returns-in-None : goal.returns-in-None
returns-in-None c =
    let ws = c.args.self.now.workers.items in
    let none : slice_get ws c.args.w ≡ None = seen-past ws c.deref.result.now c.args.w c.deref.ensures.value c.in-None.ensures.lookup.3 in
    places-none (slice_get (map worker_of ws) c.args.w) (get-map-none worker_of ws c.args.w none)
