use Rattle.std.proofs.Common.{refl}
use Rattle.sched_meaning.specs.Simulation.{may_run}
use Rattle.sched_core.specs.Moves.{TakesCurrent}
use Rattle.sched_core.proofs.Worked.Placing.{change-at, is-below}
use Rattle.sched_core.proofs.Events.Stopping.{can-stop, run-goes}
use Rattle.sched_core.proofs.steps.run.Goals as goal

pub stop-requires : goal.stop-requires
stop-requires c =
    let s = c.args.state.now in
    let ws = s.workers.items in
    let w = c.args.w in
    let j = c.take_current-task.result in
    can-stop s _ c.requires.consistent w j
    (change-at w (TakesCurrent j) ws c.index_mut.result.now c.take_current-task.new.self c.index_mut.ensures.value (is-below may_run refl ws w c.requires.lawful) c.take_current-task.ensures)
    (record { plan = refl; nodes = refl; given = refl; root = refl; runs = refl })

pub returns : goal.returns
returns c =
    let s = c.args.state.now in
    let ws = s.workers.items in
    let w = c.args.w in
    let j = c.take_current-task.result in
    run-goes s _ c.requires.consistent w j
    (change-at w (TakesCurrent j) ws c.index_mut.result.now c.take_current-task.new.self c.index_mut.ensures.value (is-below may_run refl ws w c.requires.lawful) c.take_current-task.ensures)
    (record { plan = refl; nodes = refl; given = refl; root = refl; runs = refl }) c.requires.root c.stop.new.state _ refl refl refl refl refl refl c.in_ok-stopped.stopped c.in_ok-stopped.ensures c.in_ok-stop.ensures
