use Rattle.std.proofs.Common.{◌≡◌, ℕ, false, ◌++◌, length, map, subst, arith}
use Rattle.std.specs.List.{range_with_len}
use Rattle.sched_core.specs.Chosen.{steals, steals_by}
use Rattle.sched_core.specs.Cores.{core_of, worker_of}
use Rattle.sched_core.proofs.Choices.Listing.{add-many}
use Rattle.sched_core.proofs.Worked.Lists.{length-map}
use Rattle.sched_core.proofs.state.CoreState.add_steals.Goals as goal

pub loop-thief-preserved : goal.loop-thief-preserved
loop-thief-preserved c = add-many (steals_by (core_of false c.args.self.now)) c.args.events.now.items c.loop-thief.events.items _ c.loop-thief.thief c.loop-thief.invariant c.in_ok-add_steals_of.ensures

pub returns : goal.returns
returns c =
    let ws = c.args.self.now.workers.items in
    let end : c.loop-thief.thief ≡ length (map worker_of ws) = let l = c.count-thief-end.ensures in let t = c.loop-thief-test.false in let k = c.loop-thief.auto.thief-end in let m : length (map worker_of ws) ≡ length ws = length-map worker_of ws in omega (arith, l, t, k) in
    subst (λ (n : ℕ). c.loop-thief.events.items ≡ c.args.events.now.items ++ steals (core_of false c.args.self.now) (range_with_len 0 n)) end c.loop-thief.invariant
