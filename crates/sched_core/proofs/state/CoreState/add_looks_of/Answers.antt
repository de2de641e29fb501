use Rattle.std.proofs.Common.{◌≡◌, ℕ, List, false, ◌++◌, length, map, slice_get, subst, arith}
use Rattle.std.specs.List.{range_with_len}
use Rattle.sched_meaning.specs.Simulation.{stalled_places}
use Rattle.sched_meaning.specs.declared.event.CoreEvent.TheVariants.{Look}
use Rattle.sched_core.specs.Chosen.{looks_at}
use Rattle.sched_core.specs.Cores.{core_of, worker_of}
use Rattle.sched_core.proofs.Choices.Listing.{add-one, places-range}
use Rattle.sched_core.proofs.state.CoreState.add_looks_of.Goals as goal

pub loop-place-preserved : goal.loop-place-preserved
loop-place-preserved c = add-one (core_of false c.args.self.now) (λ place. Look c.args.worker place) c.args.events.now.items c.loop-place.events.items _ c.loop-place.place c.may_resume.result c.loop-place.invariant c.may_resume.ensures c.in_ok-add_choice_if.ensures

pub returns : goal.returns
returns c =
    let o = slice_get (map worker_of c.args.self.now.workers.items) c.args.worker in
    let end : c.loop-place.place ≡ length (stalled_places o) = let l = c.stalled_count-place-end.ensures in let t = c.loop-place-test.false in let k = c.loop-place.auto.place-end in omega (arith, l, t, k) in
    subst (λ (places : List ℕ). c.loop-place.events.items ≡ c.args.events.now.items ++ looks_at (core_of false c.args.self.now) c.args.worker places) (places-range o)
    (subst (λ (n : ℕ). c.loop-place.events.items ≡ c.args.events.now.items ++ looks_at (core_of false c.args.self.now) c.args.worker (range_with_len 0 n)) end c.loop-place.invariant)
