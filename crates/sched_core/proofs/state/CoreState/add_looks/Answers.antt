use Rattle.std.proofs.Common.{◌≡◌, ℕ, false, ◌++◌, length, map, subst, arith}
use Rattle.std.specs.List.{range_with_len}
use Rattle.sched_core.specs.Chosen.{looks, looks_by}
use Rattle.sched_core.specs.Cores.{core_of, worker_of}
use Rattle.sched_core.proofs.Choices.Listing.{add-many}
use Rattle.sched_core.proofs.Worked.Lists.{length-map}
use Rattle.sched_core.proofs.state.CoreState.add_looks.Goals as goal

pub loop-worker-preserved : goal.loop-worker-preserved
loop-worker-preserved c = add-many (looks_by (core_of false c.args.self.now)) c.args.events.now.items c.loop-worker.events.items _ c.loop-worker.worker c.loop-worker.invariant c.in_ok-add_looks_of.ensures

pub returns : goal.returns
returns c =
    let ws = c.args.self.now.workers.items in
    let end : c.loop-worker.worker ≡ length (map worker_of ws) = let l = c.count-worker-end.ensures in let t = c.loop-worker-test.false in let k = c.loop-worker.auto.worker-end in let m : length (map worker_of ws) ≡ length ws = length-map worker_of ws in omega (arith, l, t, k) in
    subst (λ (n : ℕ). c.loop-worker.events.items ≡ c.args.events.now.items ++ looks (core_of false c.args.self.now) (range_with_len 0 n)) end c.loop-worker.invariant
