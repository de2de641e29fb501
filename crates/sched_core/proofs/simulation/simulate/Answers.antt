use Rattle.std.specs.Arc.{arc_value}
use Rattle.std.proofs.Common.{◌<◌, ◌^◌, arith}
use Rattle.sched_core.proofs.Choices.PickedSteps.{less-left, mains-are, after-next-word, starts, worker-is}
use Rattle.sched_core.proofs.simulation.simulate.Goals as goal

pub loop-next-init : goal.loop-next-init
loop-next-init c =
    let small : c.args.number < 2 ^ 64 = omega (arith, c.ranges.number) in
    starts (arc_value c.args.plan.now) c.args.workers c.args.number c.seed_from_u64-words.result c.in_ok-state.state c.in_ok-state.ensures.begun c.in_ok-state.ensures.consistent c.requires.0 c.requires.1 small c.seed_from_u64-words.ensures.same

pub take_step-requires-clause-consistent : goal.take_step-requires-clause-consistent
take_step-requires-clause-consistent c = c.loop-next.invariant.consistent

pub take_step-requires-clause-few : goal.take_step-requires-clause-few
take_step-requires-clause-few c = c.loop-next.invariant.few

pub take_step-requires-clause-root : goal.take_step-requires-clause-root
take_step-requires-clause-root c = c.loop-next.invariant.root

pub loop-next-preserved : goal.loop-next-preserved
loop-next-preserved c =
    let l = c.loop-next in
    after-next-word (arc_value c.args.plan.now) c.args.workers c.args.number l.words l.state l.invariant c.next_word-word.result c.next_word-word.new.self c.next_word-word.ensures c.in-Unfinished.next (rw c.in-Unfinished.is at c.in_ok-next.ensures)

pub loop-next-smaller : goal.loop-next-smaller
loop-next-smaller c =
    let l = c.loop-next in
    less-left (arc_value c.args.plan.now) c.args.workers c.args.number l.words l.state l.invariant c.next_word-word.result c.next_word-word.new.self c.next_word-word.ensures c.in-Unfinished.next (rw c.in-Unfinished.is at c.in_ok-next.ensures)

pub returns-in-Finished-clause-plan : goal.returns-in-Finished-clause-plan
returns-in-Finished-clause-plan c =
    let l = c.loop-next in
    (mains-are (arc_value c.args.plan.now) c.args.workers c.args.number l.words l.state l.invariant c.next_word-word.result c.next_word-word.new.self c.next_word-word.ensures c.in-Finished.simulated (rw c.in-Finished.is at c.in_ok-next.ensures)).plan_is

pub returns-in-Finished-clause-origin : goal.returns-in-Finished-clause-origin
returns-in-Finished-clause-origin c =
    let l = c.loop-next in
    (mains-are (arc_value c.args.plan.now) c.args.workers c.args.number l.words l.state l.invariant c.next_word-word.result c.next_word-word.new.self c.next_word-word.ensures c.in-Finished.simulated (rw c.in-Finished.is at c.in_ok-next.ensures)).origin

pub returns-in-Finished-clause-fault : goal.returns-in-Finished-clause-fault
returns-in-Finished-clause-fault c =
    let l = c.loop-next in
    (mains-are (arc_value c.args.plan.now) c.args.workers c.args.number l.words l.state l.invariant c.next_word-word.result c.next_word-word.new.self c.next_word-word.ensures c.in-Finished.simulated (rw c.in-Finished.is at c.in_ok-next.ensures)).fault

pub returns-in-Finished-clause-worker : goal.returns-in-Finished-clause-worker
returns-in-Finished-clause-worker c =
    let l = c.loop-next in
    worker-is (arc_value c.args.plan.now) c.args.workers c.args.number l.words l.state l.invariant c.next_word-word.result c.next_word-word.new.self c.next_word-word.ensures c.in-Finished.simulated (rw c.in-Finished.is at c.in_ok-next.ensures)
