use Rattle.std.proofs.Common.{◌≡◌, ℕ, false, ◌++◌, length, map, subst, arith}
use Rattle.std.specs.List.{range_with_len}
use Rattle.sched_meaning.specs.declared.event.CoreEvent.TheVariants.{Steal}
use Rattle.sched_core.specs.Chosen.{progressing}
use Rattle.sched_core.specs.Cores.{core_of, worker_of}
use Rattle.sched_core.proofs.Choices.Listing.{add-one}
use Rattle.sched_core.proofs.Worked.Lists.{length-map}
use Rattle.sched_core.proofs.state.CoreState.add_steals_of.Goals as goal

pub loop-victim-preserved : goal.loop-victim-preserved
loop-victim-preserved c = add-one (core_of false c.args.self.now) (λ victim. Steal c.args.thief victim) c.args.events.now.items c.loop-victim.events.items _ c.loop-victim.victim c.may_steal.result c.loop-victim.invariant c.may_steal.ensures c.in_ok-add_choice_if.ensures

pub returns : goal.returns
returns c =
    let ws = c.args.self.now.workers.items in
    let end : c.loop-victim.victim ≡ length (map worker_of ws) = let l = c.count-victim-end.ensures in let t = c.loop-victim-test.false in let k = c.loop-victim.auto.victim-end in let m : length (map worker_of ws) ≡ length ws = length-map worker_of ws in omega (arith, l, t, k) in
    subst (λ (n : ℕ). c.loop-victim.events.items ≡ c.args.events.now.items ++ progressing (core_of false c.args.self.now) (map (λ victim. Steal c.args.thief victim) (range_with_len 0 n))) end c.loop-victim.invariant
