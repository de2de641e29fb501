use Rattle.std.proofs.Common.{◌≡◌, ◌<◌, Some, None, length, slice_get, ap, ◌∙◌, arith}
use Rattle.sched_core.proofs.Worked.Looking.{WaitsAt, none-consistent, none-waits, ready-is, waits-consistent}
use Rattle.sched_core.proofs.Worked.Placing.{get-at, seen-at}
use Rattle.sched_core.proofs.state.CoreState.is_ready.Goals as goal

pub index-requires : goal.index-requires
index-requires c =
    let s = c.args.self.now in
    let v = c.in-Some.worker.now in
    let found = c.in-Some.ensures.lookup in
    let there : slice_get s.workers.items c.args.w ≡ Some v = seen-at s.workers.items c.deref.result.now c.args.w v c.deref.ensures.value found.3.0 found.1 in
    let waits : WaitsAt s v c.args.place c.in-Some-stalled_number.number = waits-consistent s c.requires.consistent c.args.w c.args.place v there c.stalled_number.result c.in-Some-stalled_number.number c.stalled_number.ensures.some c.stalled_number.ensures.none c.in-Some-stalled_number.is in
    let small : c.in-Some-stalled_number.number < length s.nodes.items = waits.small in
    omega (arith, small, s.nodes.ok.0)

pub returns-in-Some-stalled_number : goal.returns-in-Some-stalled_number
returns-in-Some-stalled_number c =
    let s = c.args.self.now in
    let v = c.in-Some.worker.now in
    let found = c.in-Some.ensures.lookup in
    let node = c.index.result.now in
    let there : slice_get s.workers.items c.args.w ≡ Some v = seen-at s.workers.items c.deref.result.now c.args.w v c.deref.ensures.value found.3.0 found.1 in
    let waits : WaitsAt s v c.args.place c.in-Some-stalled_number.number = waits-consistent s c.requires.consistent c.args.w c.args.place v there c.stalled_number.result c.in-Some-stalled_number.number c.stalled_number.ensures.some c.stalled_number.ensures.none c.in-Some-stalled_number.is in
    let at_number : slice_get s.nodes.items c.in-Some-stalled_number.number ≡ Some node = get-at s.nodes.items c.in-Some-stalled_number.number node c.index.ensures waits.small in
    ready-is s c.requires.consistent c.args.w c.args.place v there waits.job waits.at node (ap (slice_get s.nodes.items) waits.number_is ∙ at_number) c.is_ready.result c.is_ready.ensures

pub returns-in-None : goal.returns-in-None
returns-in-None c =
    let s = c.args.self.now in
    let v = c.in-Some.worker.now in
    let found = c.in-Some.ensures.lookup in
    let there : slice_get s.workers.items c.args.w ≡ Some v = seen-at s.workers.items c.deref.result.now c.args.w v c.deref.ensures.value found.3.0 found.1 in
    let none : slice_get v.stalled c.args.place ≡ None = none-consistent (slice_get v.stalled c.args.place) c.stalled_number.result c.stalled_number.ensures.some c.in-None.is in
    none-waits s c.args.w c.args.place v there none
