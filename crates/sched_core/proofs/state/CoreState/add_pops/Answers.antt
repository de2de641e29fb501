use Rattle.std.proofs.Common.{◌≡◌, ℕ, false, ◌++◌, length, map, subst, arith}
use Rattle.std.specs.List.{range_with_len}
use Rattle.sched_meaning.specs.declared.event.CoreEvent.TheVariants.{Pop}
use Rattle.sched_core.specs.Chosen.{pops}
use Rattle.sched_core.specs.Cores.{core_of, worker_of}
use Rattle.sched_core.proofs.Choices.Listing.{add-one}
use Rattle.sched_core.proofs.Worked.Lists.{length-map}
use Rattle.sched_core.proofs.state.CoreState.add_pops.Goals as goal

pub loop-w-preserved : goal.loop-w-preserved
loop-w-preserved c = add-one (core_of false c.args.self.now) (λ w. Pop w) c.args.events.now.items c.loop-w.events.items _ c.loop-w.w c.may_pop.result c.loop-w.invariant c.may_pop.ensures c.in_ok-add_choice_if.ensures

pub returns : goal.returns
returns c =
    let ws = c.args.self.now.workers.items in
    let end : c.loop-w.w ≡ length (map worker_of ws) = let l = c.count-w-end.ensures in let t = c.loop-w-test.false in let k = c.loop-w.auto.w-end in let m : length (map worker_of ws) ≡ length ws = length-map worker_of ws in omega (arith, l, t, k) in
    subst (λ (n : ℕ). c.loop-w.events.items ≡ c.args.events.now.items ++ pops (core_of false c.args.self.now) (range_with_len 0 n)) end c.loop-w.invariant
