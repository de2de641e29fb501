use Rattle.std.proofs.Common.{rules, ◌≡◌, IfErr}
use Rattle.strand_machine.proofs.NextStops.Advancing.{goes-on-uncut}
use Rattle.strand_machine.proofs.NextStops.Pausing.{ended-short, spawns-so, waits-so}
use Rattle.strand_machine.specs.declared.stop.Stop.TheVariants as stop
use Rattle.parallel_runner.proofs.Keeping.{child_goes_on, child_plan, child_unended, known_too, rest_plan, wait_goes_on, wait_plan, wait_unended}
use Rattle.parallel_runner.proofs.Stopping.{end_advances, put_advances, put-for, put_on_err, unended_of, waits_there}
use Rattle.parallel_runner.proofs.steps.advance.Goals as goal

pub returns-then-has_outcome-clause-ok : goal.returns-then-has_outcome-clause-ok
returns-then-has_outcome-clause-ok g c = put_advances c.args.task _ _ c.requires.none c.end.ensures.state c.end.result c.end.ensures.turn c.end.ensures.put

pub returns-then-has_outcome-clause-put : goal.returns-then-has_outcome-clause-put
returns-then-has_outcome-clause-put g c = put_on_err c.end.result c.args.task c.args.state.now.answered c.end.new.state.answered c.end.ensures.put

pub run_to_stop-requires : goal.run_to_stop-requires
run_to_stop-requires g c = goes-on-uncut _ _ c.has_outcome.ensures c.if-has_outcome.false

pub returns-in_ok-switch_to_child-in-Spawn-clause-ok : goal.returns-in_ok-switch_to_child-in-Spawn-clause-ok
returns-in_ok-switch_to_child-in-Spawn-clause-ok g c = (
  stop.Spawn c.in-Spawn.child c.in-Spawn.rest,
  spawns-so c.args.task _ c.in_ok-paused.ensures.ok c.in-Spawn.child c.in-Spawn.rest (goes-on-uncut _ _ c.has_outcome.ensures c.if-has_outcome.false) c.in-Spawn.is,
  c.in_ok-switch_to_child-in-Spawn.ensures.ok,
)

pub switch_to_child-requires-clause-childs : goal.switch_to_child-requires-clause-childs
switch_to_child-requires-clause-childs g c = known_too _ _ _ _ c.requires.known (child_plan c.args.task c.in-Spawn.child c.in-Spawn.rest (rw c.in-Spawn.is at c.in_ok-paused.ensures.ok))

pub switch_to_child-requires-clause-rests : goal.switch_to_child-requires-clause-rests
switch_to_child-requires-clause-rests g c = known_too _ _ _ _ c.requires.known (rest_plan c.args.task c.in-Spawn.child c.in-Spawn.rest (rw c.in-Spawn.is at c.in_ok-paused.ensures.ok))

pub wait-requires-clause-known : goal.wait-requires-clause-known
wait-requires-clause-known g c = known_too _ _ _ _ c.requires.known (wait_plan c.args.task c.in-Wait.rest (rw c.in-Wait.is at c.in_ok-paused.ensures.ok))

pub wait-requires-clause-waits : goal.wait-requires-clause-waits
wait-requires-clause-waits g c =
    waits_there c.args.task c.in-Wait.rest (waits-so c.args.task _ c.in_ok-paused.ensures.ok c.in-Wait.rest (goes-on-uncut _ _ c.has_outcome.ensures c.if-has_outcome.false) c.in-Wait.is)

pub returns-in_ok-wait-in-Wait-clause-ok : goal.returns-in_ok-wait-in-Wait-clause-ok
returns-in_ok-wait-in-Wait-clause-ok g c = (
  stop.Wait c.in-Wait.rest,
  waits-so c.args.task _ c.in_ok-paused.ensures.ok c.in-Wait.rest (goes-on-uncut _ _ c.has_outcome.ensures c.if-has_outcome.false) c.in-Wait.is,
  search rules,
)

pub end-requires-in-Ended : goal.end-requires-in-Ended
end-requires-in-Ended g c = ended-short c.args.task _ c.in_ok-paused.ensures.ok c.in-Ended.rest c.in-Ended.is

pub returns-in-Ended-clause-ok : goal.returns-in-Ended-clause-ok
returns-in-Ended-clause-ok g c =
    end_advances c.args.task _ _ c.requires.none c.end-in-Ended.ensures.state c.in-Ended.rest c.end-in-Ended.result (goes-on-uncut _ _ c.has_outcome.ensures c.if-has_outcome.false)
    (rw c.in-Ended.is at c.in_ok-paused.ensures.ok) c.end-in-Ended.ensures.turn c.end-in-Ended.ensures.put

pub returns-in-Ended-clause-put : goal.returns-in-Ended-clause-put
returns-in-Ended-clause-put g c =
    put_on_err c.end-in-Ended.result c.args.task c.args.state.now.answered c.end-in-Ended.new.state.answered
    (put-for g.row.K.Denot c.args.task c.in-Ended.rest c.args.state.now.answered c.end-in-Ended.new.state.answered
    (goes-on-uncut _ _ c.has_outcome.ensures c.if-has_outcome.false) (rw c.in-Ended.is at c.in_ok-paused.ensures.ok) c.end-in-Ended.ensures.put)

pub switch_to_child-requires-clause-goes_on : goal.switch_to_child-requires-clause-goes_on
switch_to_child-requires-clause-goes_on g c = child_goes_on c.args.task c.in-Spawn.child c.in-Spawn.rest (rw c.in-Spawn.is at c.in_ok-paused.ensures.ok)

pub wait-requires-clause-goes_on : goal.wait-requires-clause-goes_on
wait-requires-clause-goes_on g c = wait_goes_on c.args.task c.in-Wait.rest (rw c.in-Wait.is at c.in_ok-paused.ensures.ok)

pub returns-in_err-switch_to_child-in-Spawn-clause-unended : goal.returns-in_err-switch_to_child-in-Spawn-clause-unended
returns-in_err-switch_to_child-in-Spawn-clause-unended g c =
    let same : IfErr c.from_residual-in_err-switch_to_child-in-Spawn.result (λ left. left ≡ c.in-Spawn.rest) = search rules in
    unended_of c.from_residual-in_err-switch_to_child-in-Spawn.result c.args.task c.in-Spawn.rest same
    (child_unended c.args.task c.in-Spawn.child c.in-Spawn.rest (goes-on-uncut _ _ c.has_outcome.ensures c.if-has_outcome.false) (rw c.in-Spawn.is at c.in_ok-paused.ensures.ok))

pub returns-in_err-wait-in-Wait-clause-unended : goal.returns-in_err-wait-in-Wait-clause-unended
returns-in_err-wait-in-Wait-clause-unended g c =
    let same : IfErr c.from_residual-in_err-wait-in-Wait.result (λ left. left ≡ c.in-Wait.rest) = search rules in
    unended_of c.from_residual-in_err-wait-in-Wait.result c.args.task c.in-Wait.rest same
    (wait_unended c.args.task c.in-Wait.rest (goes-on-uncut _ _ c.has_outcome.ensures c.if-has_outcome.false) (rw c.in-Wait.is at c.in_ok-paused.ensures.ok))
