use Rattle.std.proofs.Common.{◌≡◌, ◌∙◌, refl, arith}
use Rattle.strand_meaning.specs.Task.{child_in, stops_at}
use Rattle.strand_moves.specs.Moves.{effects_of}
use Rattle.strand_moves.specs.declared.effects.Effects.TheVariants as effect
use Rattle.strand_moves.specs.declared.effects.MoveResult.TheVariants as move_result
use Rattle.strand_machine.specs.Effects.{task_after_effects}
use Rattle.strand_machine.specs.Made.{IsRun, IsSpawn, made}
use Rattle.strand_machine.specs.Stops.{KeepsLinksInStep, step_of}
use Rattle.strand_machine.specs.Tasks.{gone, view_of}
use Rattle.strand_machine.specs.declared.destination.Destination.TheVariants as destination
use Rattle.strand_machine.specs.MoveOrStop.{MoveOrStop}
use Rattle.strand_machine.specs.declared.remaining.Stage.TheVariants as stage
use Rattle.strand_machine.specs.declared.remaining.Remaining.TheVariants as remaining
use Rattle.strand_machine.proofs.NextStops.Advancing.{leads-start}
use Rattle.strand_machine.proofs.Moves.Making.{made-ok}
use Rattle.strand_machine.proofs.Moves.Moving.{came-has, came-sound, comes-heard, one-more, spawned-known, spawned-trail, spawned-sound, spawned-step, looped-known, looped-trail, looped-sound, looped-step, spawns-keep, moved-sound, moved-is, returned-sound, faulted-sound, syncs-sound, syncs-run, gives-run, faults-run, still-on, still-falls, emits-on, emits-falls, run-is-ok, runs-on, with_trace}
use Rattle.strand_machine.proofs.run.go.Goals as goal

pub loop-next-init : goal.loop-next-init
loop-next-init g c = record { sound = c.requires; leads = leads-start (view_of c.args.parts.now.state (remaining.Runs (stage.Running c.args.instance))) refl }

pub straight_run-requires : goal.straight_run-requires
straight_run-requires g c = rw c.plan-plan.ensures c.loop-next.invariant.sound.of_plan.sound

-- a spawn

pub spawn_next-requires-clause-sound : goal.spawn_next-requires-clause-sound
spawn_next-requires-clause-sound g c =
    came-sound c.steps_are_sound.ensures c.moves_fall.ensures c.plan-plan.result.now _ c.loop-next.parts.state c.loop-next.instance c.plan-plan.ensures c.loop-next.invariant c.straight_run.new.self c.straight_run.new.sink _ c.in-Ok.ensures c.straight_run.new.self refl

pub spawn_next-requires-clause-passed : goal.spawn_next-requires-clause-passed
spawn_next-requires-clause-passed g c =
    came-has c.steps_are_sound.ensures c.moves_fall.ensures c.plan-plan.result.now _ c.loop-next.parts.state c.loop-next.instance c.plan-plan.ensures c.loop-next.invariant c.straight_run.new.self c.straight_run.new.sink _ c.in-Ok.ensures c.straight_run.new.self refl _ refl

pub begin_spawned-requires-clause-known : goal.begin_spawned-requires-clause-known
begin_spawned-requires-clause-known g c =
    let l = c.loop-next in
    let o = c.in-Ok-Some.spawned in
    let given = c.in-Ok-Some.ensures in
    let did = rw c.in-Ok-Some.field-0-is at given.did in
    let shows = effect.Spawned did.0 o in
    let m = move_result.Moved shows in
    let b = gone (with_trace l.parts.state c.straight_run.new.sink) in
    let k = one-more c.steps_are_sound.ensures c.moves_fall.ensures c.plan-plan.result.now _ l.parts.state l.instance c.plan-plan.ensures l.invariant c.straight_run.new.self c.straight_run.new.sink _ c.in-Ok.ensures c.straight_run.new.self refl _ refl c.spawn_next.new.instance m did.2 given.path given.sound in
    let sound = moved-sound b k.before c.spawn_next.new.instance _ m c.plan-plan.ensures k.last k.runs.sound c.steps_are_sound.ensures shows refl k.path k.sound (rw c.in-Ok-Some.field-0-is at given.child) in
    spawned-known b c.spawn_next.new.instance shows did.0 o refl sound

pub begin_spawned-requires-clause-trail : goal.begin_spawned-requires-clause-trail
begin_spawned-requires-clause-trail g c =
    let l = c.loop-next in
    let o = c.in-Ok-Some.spawned in
    let given = c.in-Ok-Some.ensures in
    let did = rw c.in-Ok-Some.field-0-is at given.did in
    let shows = effect.Spawned did.0 o in
    let m = move_result.Moved shows in
    let b = gone (with_trace l.parts.state c.straight_run.new.sink) in
    let k = one-more c.steps_are_sound.ensures c.moves_fall.ensures c.plan-plan.result.now _ l.parts.state l.instance c.plan-plan.ensures l.invariant c.straight_run.new.self c.straight_run.new.sink _ c.in-Ok.ensures c.straight_run.new.self refl _ refl c.spawn_next.new.instance m did.2 given.path given.sound in
    let sound = moved-sound b k.before c.spawn_next.new.instance _ m c.plan-plan.ensures k.last k.runs.sound c.steps_are_sound.ensures shows refl k.path k.sound (rw c.in-Ok-Some.field-0-is at given.child) in
    spawned-trail b c.spawn_next.new.instance shows did.0 o refl sound

pub begin_spawned-requires-clause-sound : goal.begin_spawned-requires-clause-sound
begin_spawned-requires-clause-sound g c =
    let l = c.loop-next in
    let o = c.in-Ok-Some.spawned in
    let given = c.in-Ok-Some.ensures in
    let did = rw c.in-Ok-Some.field-0-is at given.did in
    let shows = effect.Spawned did.0 o in
    let m = move_result.Moved shows in
    let b = gone (with_trace l.parts.state c.straight_run.new.sink) in
    let k = one-more c.steps_are_sound.ensures c.moves_fall.ensures c.plan-plan.result.now _ l.parts.state l.instance c.plan-plan.ensures l.invariant c.straight_run.new.self c.straight_run.new.sink _ c.in-Ok.ensures c.straight_run.new.self refl _ refl c.spawn_next.new.instance m did.2 given.path given.sound in
    let sound = moved-sound b k.before c.spawn_next.new.instance _ m c.plan-plan.ensures k.last k.runs.sound c.steps_are_sound.ensures shows refl k.path k.sound (rw c.in-Ok-Some.field-0-is at given.child) in
    spawned-sound b c.spawn_next.new.instance shows did.0 o c.spawn_next.new.trace refl did.1 sound

pub returns-in-Ok-Some-clause-step : goal.returns-in-Ok-Some-clause-step
returns-in-Ok-Some-clause-step g c =
    let l = c.loop-next in
    let o = c.in-Ok-Some.spawned in
    let given = c.in-Ok-Some.ensures in
    let did = rw c.in-Ok-Some.field-0-is at given.did in
    let shows = effect.Spawned did.0 o in
    let m = move_result.Moved shows in
    let b = gone (with_trace l.parts.state c.straight_run.new.sink) in
    let k = one-more c.steps_are_sound.ensures c.moves_fall.ensures c.plan-plan.result.now _ l.parts.state l.instance c.plan-plan.ensures l.invariant c.straight_run.new.self c.straight_run.new.sink _ c.in-Ok.ensures c.straight_run.new.self refl _ refl c.spawn_next.new.instance m did.2 given.path given.sound in
    let i = c.spawn_next.new.instance in
    let p = c.spawn_next.new.trace in
    let w = remaining.Runs (stage.Running i) in
    let at = destination.Spawned o.height o.target in
    let steps = made-ok c.begin_spawned.new.parts c.begin_spawned.result (IsSpawn (with_trace b p) o.child.origin at w) (λ (r : MoveOrStop _). step_of r ≡ stops_at (child_in (effects_of shows)) (task_after_effects b i shows))
    (λ r h. spawned-step b i shows did.0 o p r refl did.1 h) c.begin_spawned.ensures.made in
    let keeps = made-ok c.begin_spawned.new.parts c.begin_spawned.result (IsSpawn (with_trace b p) o.child.origin at w) (KeepsLinksInStep (view_of b w)) (λ r h. spawns-keep b p w w o.child.origin at r refl h) c.begin_spawned.ensures.made in
    run-is-ok _ b k.before k.runs (made c.begin_spawned.new.parts) c.begin_spawned.result
    (moved-is b k.before i _ m c.plan-plan.ensures k.last k.runs.sound (made c.begin_spawned.new.parts) shows c.begin_spawned.result refl steps keeps)

-- a sync or a loop

pub wait_next-requires-clause-sound : goal.wait_next-requires-clause-sound
wait_next-requires-clause-sound g c =
    let did = rw c.in-Ok-None.field-0-is at c.in-Ok-None.ensures.did in
    came-sound c.steps_are_sound.ensures c.moves_fall.ensures c.plan-plan.result.now _ c.loop-next.parts.state c.loop-next.instance c.plan-plan.ensures c.loop-next.invariant c.straight_run.new.self c.straight_run.new.sink _ c.in-Ok.ensures c.spawn_next.new.instance did.0

pub wait_next-requires-clause-passed : goal.wait_next-requires-clause-passed
wait_next-requires-clause-passed g c =
    let did = rw c.in-Ok-None.field-0-is at c.in-Ok-None.ensures.did in
    came-has c.steps_are_sound.ensures c.moves_fall.ensures c.plan-plan.result.now _ c.loop-next.parts.state c.loop-next.instance c.plan-plan.ensures c.loop-next.invariant c.straight_run.new.self c.straight_run.new.sink _ c.in-Ok.ensures c.spawn_next.new.instance did.0 _ refl

pub loop-next-smaller-in-Nothing : goal.loop-next-smaller-in-Nothing
loop-next-smaller-in-Nothing g c =
    let did = rw c.in-Ok-None.field-0-is at c.in-Ok-None.ensures.did in
    let given = c.in-Ok-Some-wait_next.ensures in
    let moved = rw (c.in-Ok-Some-wait_next.field-0-is, c.in-Nothing.is) at given.did in
    let shows = effect.Emitted moved.0 in
    let m = move_result.Moved shows in
    let b = gone (with_trace c.loop-next.parts.state c.spawn_next.new.trace) in
    let came = comes-heard c.plan-plan.result.now c.loop-next.instance c.loop-next.parts.state.trace c.straight_run.new.self c.straight_run.new.sink c.spawn_next.new.trace _ did.1 c.in-Ok.ensures in
    let k = one-more c.steps_are_sound.ensures c.moves_fall.ensures c.plan-plan.result.now _ c.loop-next.parts.state c.loop-next.instance c.plan-plan.ensures c.loop-next.invariant c.straight_run.new.self c.spawn_next.new.trace _ came c.spawn_next.new.instance did.0 _ refl c.wait_next.new.instance m moved.2 given.path given.sound in
    let falls = emits-falls b k.before c.wait_next.new.instance _ m c.plan-plan.ensures k.last k.runs.sound c.moves_fall.ensures shows moved.0 c.wait_next.new.trace refl refl moved.1 in
    omega (arith, falls, k.fewer)

pub loop-next-preserved-in-Nothing : goal.loop-next-preserved-in-Nothing
loop-next-preserved-in-Nothing g c =
    let did = rw c.in-Ok-None.field-0-is at c.in-Ok-None.ensures.did in
    let given = c.in-Ok-Some-wait_next.ensures in
    let moved = rw (c.in-Ok-Some-wait_next.field-0-is, c.in-Nothing.is) at given.did in
    let shows = effect.Emitted moved.0 in
    let m = move_result.Moved shows in
    let b = gone (with_trace c.loop-next.parts.state c.spawn_next.new.trace) in
    let came = comes-heard c.plan-plan.result.now c.loop-next.instance c.loop-next.parts.state.trace c.straight_run.new.self c.straight_run.new.sink c.spawn_next.new.trace _ did.1 c.in-Ok.ensures in
    let k = one-more c.steps_are_sound.ensures c.moves_fall.ensures c.plan-plan.result.now _ c.loop-next.parts.state c.loop-next.instance c.plan-plan.ensures c.loop-next.invariant c.straight_run.new.self c.spawn_next.new.trace _ came c.spawn_next.new.instance did.0 _ refl c.wait_next.new.instance m moved.2 given.path given.sound in
    emits-on b k.before c.wait_next.new.instance _ m c.plan-plan.ensures k.last k.runs.sound c.steps_are_sound.ensures c.moves_fall.ensures _ k.runs.leads shows moved.0 c.wait_next.new.trace refl refl moved.1 k.path k.sound ((rw (c.in-Ok-Some-wait_next.field-0-is, c.in-Nothing.is) at given.child) moved.0)

pub wait-requires : goal.wait-requires
wait-requires g c =
    let did = rw c.in-Ok-None.field-0-is at c.in-Ok-None.ensures.did in
    let given = c.in-Ok-Some-wait_next.ensures in
    let moved = rw (c.in-Ok-Some-wait_next.field-0-is, c.in-ForChildren.is) at given.did in
    let shows = effect.Synced moved.0 in
    let m = move_result.Moved shows in
    let b = gone (with_trace c.loop-next.parts.state c.spawn_next.new.trace) in
    let came = comes-heard c.plan-plan.result.now c.loop-next.instance c.loop-next.parts.state.trace c.straight_run.new.self c.straight_run.new.sink c.spawn_next.new.trace _ did.1 c.in-Ok.ensures in
    let k = one-more c.steps_are_sound.ensures c.moves_fall.ensures c.plan-plan.result.now _ c.loop-next.parts.state c.loop-next.instance c.plan-plan.ensures c.loop-next.invariant c.straight_run.new.self c.spawn_next.new.trace _ came c.spawn_next.new.instance did.0 _ refl c.wait_next.new.instance m moved.2 given.path given.sound in
    syncs-sound b k.before c.wait_next.new.instance _ m c.plan-plan.ensures k.last k.runs.sound c.steps_are_sound.ensures shows moved.0 c.wait_next.new.trace refl refl moved.1 k.path k.sound ((rw (c.in-Ok-Some-wait_next.field-0-is, c.in-ForChildren.is) at given.child) moved.0)

pub returns-in-ForChildren-clause-step : goal.returns-in-ForChildren-clause-step
returns-in-ForChildren-clause-step g c =
    let did = rw c.in-Ok-None.field-0-is at c.in-Ok-None.ensures.did in
    let given = c.in-Ok-Some-wait_next.ensures in
    let moved = rw (c.in-Ok-Some-wait_next.field-0-is, c.in-ForChildren.is) at given.did in
    let shows = effect.Synced moved.0 in
    let m = move_result.Moved shows in
    let b = gone (with_trace c.loop-next.parts.state c.spawn_next.new.trace) in
    let came = comes-heard c.plan-plan.result.now c.loop-next.instance c.loop-next.parts.state.trace c.straight_run.new.self c.straight_run.new.sink c.spawn_next.new.trace _ did.1 c.in-Ok.ensures in
    let k = one-more c.steps_are_sound.ensures c.moves_fall.ensures c.plan-plan.result.now _ c.loop-next.parts.state c.loop-next.instance c.plan-plan.ensures c.loop-next.invariant c.straight_run.new.self c.spawn_next.new.trace _ came c.spawn_next.new.instance did.0 _ refl c.wait_next.new.instance m moved.2 given.path given.sound in
    syncs-run b k.before c.wait_next.new.instance _ m c.plan-plan.ensures k.last k.runs.sound c.moves_fall.ensures _ k.runs.leads shows moved.0 c.wait_next.new.trace refl refl moved.1
    (runs-on b k.before c.wait_next.new.instance _ m c.plan-plan.ensures k.last k.runs.sound k.path k.sound) _ c.wait.ensures.made

pub begin_looped-requires-clause-known : goal.begin_looped-requires-clause-known
begin_looped-requires-clause-known g c =
    let o = c.in-ForLoop.looped in
    let is = c.in-ForLoop.is in
    let did = rw c.in-Ok-None.field-0-is at c.in-Ok-None.ensures.did in
    let given = c.in-Ok-Some-wait_next.ensures in
    let moved = rw (c.in-Ok-Some-wait_next.field-0-is, is) at given.did in
    let shows = effect.Looped moved.0 o in
    let m = move_result.Moved shows in
    let b = gone (with_trace c.loop-next.parts.state c.spawn_next.new.trace) in
    let came = comes-heard c.plan-plan.result.now c.loop-next.instance c.loop-next.parts.state.trace c.straight_run.new.self c.straight_run.new.sink c.spawn_next.new.trace _ did.1 c.in-Ok.ensures in
    let k = one-more c.steps_are_sound.ensures c.moves_fall.ensures c.plan-plan.result.now _ c.loop-next.parts.state c.loop-next.instance c.plan-plan.ensures c.loop-next.invariant c.straight_run.new.self c.spawn_next.new.trace _ came c.spawn_next.new.instance did.0 _ refl c.wait_next.new.instance m moved.2 given.path given.sound in
    let sound = moved-sound b k.before c.wait_next.new.instance _ m c.plan-plan.ensures k.last k.runs.sound c.steps_are_sound.ensures shows refl k.path k.sound ((rw (c.in-Ok-Some-wait_next.field-0-is, is) at given.child) moved.0) in
    looped-known b c.wait_next.new.instance shows moved.0 o refl sound

pub begin_looped-requires-clause-trail : goal.begin_looped-requires-clause-trail
begin_looped-requires-clause-trail g c =
    let o = c.in-ForLoop.looped in
    let is = c.in-ForLoop.is in
    let did = rw c.in-Ok-None.field-0-is at c.in-Ok-None.ensures.did in
    let given = c.in-Ok-Some-wait_next.ensures in
    let moved = rw (c.in-Ok-Some-wait_next.field-0-is, is) at given.did in
    let shows = effect.Looped moved.0 o in
    let m = move_result.Moved shows in
    let b = gone (with_trace c.loop-next.parts.state c.spawn_next.new.trace) in
    let came = comes-heard c.plan-plan.result.now c.loop-next.instance c.loop-next.parts.state.trace c.straight_run.new.self c.straight_run.new.sink c.spawn_next.new.trace _ did.1 c.in-Ok.ensures in
    let k = one-more c.steps_are_sound.ensures c.moves_fall.ensures c.plan-plan.result.now _ c.loop-next.parts.state c.loop-next.instance c.plan-plan.ensures c.loop-next.invariant c.straight_run.new.self c.spawn_next.new.trace _ came c.spawn_next.new.instance did.0 _ refl c.wait_next.new.instance m moved.2 given.path given.sound in
    let sound = moved-sound b k.before c.wait_next.new.instance _ m c.plan-plan.ensures k.last k.runs.sound c.steps_are_sound.ensures shows refl k.path k.sound ((rw (c.in-Ok-Some-wait_next.field-0-is, is) at given.child) moved.0) in
    looped-trail b c.wait_next.new.instance shows moved.0 o refl sound

pub begin_looped-requires-clause-sound : goal.begin_looped-requires-clause-sound
begin_looped-requires-clause-sound g c =
    let o = c.in-ForLoop.looped in
    let is = c.in-ForLoop.is in
    let did = rw c.in-Ok-None.field-0-is at c.in-Ok-None.ensures.did in
    let given = c.in-Ok-Some-wait_next.ensures in
    let moved = rw (c.in-Ok-Some-wait_next.field-0-is, is) at given.did in
    let shows = effect.Looped moved.0 o in
    let m = move_result.Moved shows in
    let b = gone (with_trace c.loop-next.parts.state c.spawn_next.new.trace) in
    let came = comes-heard c.plan-plan.result.now c.loop-next.instance c.loop-next.parts.state.trace c.straight_run.new.self c.straight_run.new.sink c.spawn_next.new.trace _ did.1 c.in-Ok.ensures in
    let k = one-more c.steps_are_sound.ensures c.moves_fall.ensures c.plan-plan.result.now _ c.loop-next.parts.state c.loop-next.instance c.plan-plan.ensures c.loop-next.invariant c.straight_run.new.self c.spawn_next.new.trace _ came c.spawn_next.new.instance did.0 _ refl c.wait_next.new.instance m moved.2 given.path given.sound in
    let sound = moved-sound b k.before c.wait_next.new.instance _ m c.plan-plan.ensures k.last k.runs.sound c.steps_are_sound.ensures shows refl k.path k.sound ((rw (c.in-Ok-Some-wait_next.field-0-is, is) at given.child) moved.0) in
    looped-sound b c.wait_next.new.instance shows moved.0 o c.wait_next.new.trace refl moved.1 sound

pub returns-in-ForLoop-clause-step : goal.returns-in-ForLoop-clause-step
returns-in-ForLoop-clause-step g c =
    let o = c.in-ForLoop.looped in
    let is = c.in-ForLoop.is in
    let did = rw c.in-Ok-None.field-0-is at c.in-Ok-None.ensures.did in
    let given = c.in-Ok-Some-wait_next.ensures in
    let moved = rw (c.in-Ok-Some-wait_next.field-0-is, is) at given.did in
    let shows = effect.Looped moved.0 o in
    let m = move_result.Moved shows in
    let b = gone (with_trace c.loop-next.parts.state c.spawn_next.new.trace) in
    let came = comes-heard c.plan-plan.result.now c.loop-next.instance c.loop-next.parts.state.trace c.straight_run.new.self c.straight_run.new.sink c.spawn_next.new.trace _ did.1 c.in-Ok.ensures in
    let k = one-more c.steps_are_sound.ensures c.moves_fall.ensures c.plan-plan.result.now _ c.loop-next.parts.state c.loop-next.instance c.plan-plan.ensures c.loop-next.invariant c.straight_run.new.self c.spawn_next.new.trace _ came c.spawn_next.new.instance did.0 _ refl c.wait_next.new.instance m moved.2 given.path given.sound in
    let i = c.wait_next.new.instance in
    let p = c.wait_next.new.trace in
    let from = remaining.Runs (stage.Running i) in
    let to = remaining.Runs (stage.AtLoop i) in
    let at = destination.Looped o.target in
    let steps = made-ok c.begin_looped.new.parts c.begin_looped.result (IsSpawn (with_trace b p) o.child.origin at to) (λ (r : MoveOrStop _). step_of r ≡ stops_at (child_in (effects_of shows)) (task_after_effects b i shows))
    (λ r h. looped-step b i shows moved.0 o p r refl moved.1 h) c.begin_looped.ensures.made in
    let keeps = made-ok c.begin_looped.new.parts c.begin_looped.result (IsSpawn (with_trace b p) o.child.origin at to) (KeepsLinksInStep (view_of b from)) (λ r h. spawns-keep b p from to o.child.origin at r refl h) c.begin_looped.ensures.made in
    run-is-ok _ b k.before k.runs (made c.begin_looped.new.parts) c.begin_looped.result
    (moved-is b k.before i _ m c.plan-plan.ensures k.last k.runs.sound (made c.begin_looped.new.parts) shows c.begin_looped.result refl steps keeps)

-- an end by a value

pub last_value-requires-clause-sound : goal.last_value-requires-clause-sound
last_value-requires-clause-sound g c =
    let did = rw c.in-Ok-None.field-0-is at c.in-Ok-None.ensures.did in
    let also = rw c.in-Ok-None-wait_next.field-0-is at c.in-Ok-None-wait_next.ensures.did in
    came-sound c.steps_are_sound.ensures c.moves_fall.ensures c.plan-plan.result.now _ c.loop-next.parts.state c.loop-next.instance c.plan-plan.ensures c.loop-next.invariant c.straight_run.new.self c.straight_run.new.sink _ c.in-Ok.ensures c.wait_next.new.instance (also.0 ∙ did.0)

pub last_value-requires-clause-passed : goal.last_value-requires-clause-passed
last_value-requires-clause-passed g c =
    let did = rw c.in-Ok-None.field-0-is at c.in-Ok-None.ensures.did in
    let also = rw c.in-Ok-None-wait_next.field-0-is at c.in-Ok-None-wait_next.ensures.did in
    came-has c.steps_are_sound.ensures c.moves_fall.ensures c.plan-plan.result.now _ c.loop-next.parts.state c.loop-next.instance c.plan-plan.ensures c.loop-next.invariant c.straight_run.new.self c.straight_run.new.sink _ c.in-Ok.ensures c.wait_next.new.instance (also.0 ∙ did.0) _ refl

pub end_by_value-requires : goal.end_by_value-requires
end_by_value-requires g c =
    let did = rw c.in-Ok-None.field-0-is at c.in-Ok-None.ensures.did in
    let also = rw c.in-Ok-None-wait_next.field-0-is at c.in-Ok-None-wait_next.ensures.did in
    let came = comes-heard c.plan-plan.result.now c.loop-next.instance c.loop-next.parts.state.trace c.straight_run.new.self c.straight_run.new.sink c.wait_next.new.trace _ (also.1 ∙ did.1) c.in-Ok.ensures in
    let sound = came-sound c.steps_are_sound.ensures c.moves_fall.ensures c.plan-plan.result.now _ c.loop-next.parts.state c.loop-next.instance c.plan-plan.ensures c.loop-next.invariant c.straight_run.new.self c.straight_run.new.sink _ c.in-Ok.ensures c.wait_next.new.instance (also.0 ∙ did.0) in
    let given = c.in-Ok-Some-last_value in
    let m = move_result.Returned given.value in
    let k = one-more c.steps_are_sound.ensures c.moves_fall.ensures c.plan-plan.result.now _ c.loop-next.parts.state c.loop-next.instance c.plan-plan.ensures c.loop-next.invariant c.straight_run.new.self c.wait_next.new.trace _ came c.wait_next.new.instance (also.0 ∙ did.0) _ refl c.wait_next.new.instance m (rw given.field-0-is at given.ensures) refl sound in
    returned-sound (gone (with_trace c.loop-next.parts.state c.wait_next.new.trace)) k.before c.wait_next.new.instance _ m c.plan-plan.ensures k.last k.runs.sound c.steps_are_sound.ensures given.value refl

pub returns-in-Ok-Some-last_value-clause-step : goal.returns-in-Ok-Some-last_value-clause-step
returns-in-Ok-Some-last_value-clause-step g c =
    let did = rw c.in-Ok-None.field-0-is at c.in-Ok-None.ensures.did in
    let also = rw c.in-Ok-None-wait_next.field-0-is at c.in-Ok-None-wait_next.ensures.did in
    let came = comes-heard c.plan-plan.result.now c.loop-next.instance c.loop-next.parts.state.trace c.straight_run.new.self c.straight_run.new.sink c.wait_next.new.trace _ (also.1 ∙ did.1) c.in-Ok.ensures in
    let sound = came-sound c.steps_are_sound.ensures c.moves_fall.ensures c.plan-plan.result.now _ c.loop-next.parts.state c.loop-next.instance c.plan-plan.ensures c.loop-next.invariant c.straight_run.new.self c.straight_run.new.sink _ c.in-Ok.ensures c.wait_next.new.instance (also.0 ∙ did.0) in
    let given = c.in-Ok-Some-last_value in
    let m = move_result.Returned given.value in
    let k = one-more c.steps_are_sound.ensures c.moves_fall.ensures c.plan-plan.result.now _ c.loop-next.parts.state c.loop-next.instance c.plan-plan.ensures c.loop-next.invariant c.straight_run.new.self c.wait_next.new.trace _ came c.wait_next.new.instance (also.0 ∙ did.0) _ refl c.wait_next.new.instance m (rw given.field-0-is at given.ensures) refl sound in
    let b = gone (with_trace c.loop-next.parts.state c.wait_next.new.trace) in
    made-ok c.end_by_value.new.parts c.end_by_value.result (IsRun (view_of (gone b) (remaining.Runs (stage.Returned given.value)))) (IsRun _)
    (λ s h. gives-run b k.before c.wait_next.new.instance _ m c.plan-plan.ensures k.last k.runs.sound c.moves_fall.ensures _ k.runs.leads given.value refl s h)
    c.end_by_value.ensures.step

-- another move

pub make-requires-clause-sound : goal.make-requires-clause-sound
make-requires-clause-sound g c =
    let did = rw c.in-Ok-None.field-0-is at c.in-Ok-None.ensures.did in
    let also = rw c.in-Ok-None-wait_next.field-0-is at c.in-Ok-None-wait_next.ensures.did in
    came-sound c.steps_are_sound.ensures c.moves_fall.ensures c.plan-plan.result.now _ c.loop-next.parts.state c.loop-next.instance c.plan-plan.ensures c.loop-next.invariant c.straight_run.new.self c.straight_run.new.sink _ c.in-Ok.ensures c.wait_next.new.instance (also.0 ∙ did.0)

pub make-requires-clause-passed : goal.make-requires-clause-passed
make-requires-clause-passed g c =
    let did = rw c.in-Ok-None.field-0-is at c.in-Ok-None.ensures.did in
    let also = rw c.in-Ok-None-wait_next.field-0-is at c.in-Ok-None-wait_next.ensures.did in
    came-has c.steps_are_sound.ensures c.moves_fall.ensures c.plan-plan.result.now _ c.loop-next.parts.state c.loop-next.instance c.plan-plan.ensures c.loop-next.invariant c.straight_run.new.self c.straight_run.new.sink _ c.in-Ok.ensures c.wait_next.new.instance (also.0 ∙ did.0) _ refl

pub apply_effects-requires : goal.apply_effects-requires
apply_effects-requires g c =
    let m = c.in-Ok-Moved.ensures in
    let did = rw c.in-Ok-None.field-0-is at c.in-Ok-None.ensures.did in
    let also = rw c.in-Ok-None-wait_next.field-0-is at c.in-Ok-None-wait_next.ensures.did in
    let came = comes-heard c.plan-plan.result.now c.loop-next.instance c.loop-next.parts.state.trace c.straight_run.new.self c.straight_run.new.sink c.wait_next.new.trace _ (also.1 ∙ did.1) c.in-Ok.ensures in
    let k = one-more c.steps_are_sound.ensures c.moves_fall.ensures c.plan-plan.result.now _ c.loop-next.parts.state c.loop-next.instance c.plan-plan.ensures c.loop-next.invariant c.straight_run.new.self c.wait_next.new.trace _ came c.wait_next.new.instance (also.0 ∙ did.0) _ refl c.make.new.self _ m.moves m.path m.sound in
    moved-sound (gone (with_trace c.loop-next.parts.state c.wait_next.new.trace)) k.before c.make.new.self _ _ c.plan-plan.ensures k.last k.runs.sound c.steps_are_sound.ensures c.in-Ok-Moved.effects c.in-Ok-Moved.field-0-is k.path k.sound m.child

pub end_by_value-requires-in-Ok-Returned : goal.end_by_value-requires-in-Ok-Returned
end_by_value-requires-in-Ok-Returned g c =
    let m = c.in-Ok-Returned.ensures in
    let did = rw c.in-Ok-None.field-0-is at c.in-Ok-None.ensures.did in
    let also = rw c.in-Ok-None-wait_next.field-0-is at c.in-Ok-None-wait_next.ensures.did in
    let came = comes-heard c.plan-plan.result.now c.loop-next.instance c.loop-next.parts.state.trace c.straight_run.new.self c.straight_run.new.sink c.wait_next.new.trace _ (also.1 ∙ did.1) c.in-Ok.ensures in
    let k = one-more c.steps_are_sound.ensures c.moves_fall.ensures c.plan-plan.result.now _ c.loop-next.parts.state c.loop-next.instance c.plan-plan.ensures c.loop-next.invariant c.straight_run.new.self c.wait_next.new.trace _ came c.wait_next.new.instance (also.0 ∙ did.0) _ refl c.make.new.self _ m.moves m.path m.sound in
    returned-sound (gone (with_trace c.loop-next.parts.state c.wait_next.new.trace)) k.before c.make.new.self _ _ c.plan-plan.ensures k.last k.runs.sound c.steps_are_sound.ensures c.in-Ok-Returned.value c.in-Ok-Returned.field-0-is

pub faulted-requires : goal.faulted-requires
faulted-requires g c =
    let m = c.in-Ok-Faulted.ensures in
    let did = rw c.in-Ok-None.field-0-is at c.in-Ok-None.ensures.did in
    let also = rw c.in-Ok-None-wait_next.field-0-is at c.in-Ok-None-wait_next.ensures.did in
    let came = comes-heard c.plan-plan.result.now c.loop-next.instance c.loop-next.parts.state.trace c.straight_run.new.self c.straight_run.new.sink c.wait_next.new.trace _ (also.1 ∙ did.1) c.in-Ok.ensures in
    let k = one-more c.steps_are_sound.ensures c.moves_fall.ensures c.plan-plan.result.now _ c.loop-next.parts.state c.loop-next.instance c.plan-plan.ensures c.loop-next.invariant c.straight_run.new.self c.wait_next.new.trace _ came c.wait_next.new.instance (also.0 ∙ did.0) _ refl c.make.new.self _ m.moves m.path m.sound in
    faulted-sound (gone (with_trace c.loop-next.parts.state c.wait_next.new.trace)) k.before c.make.new.self _ _ c.plan-plan.ensures k.last k.runs.sound c.steps_are_sound.ensures c.in-Ok-Faulted.own c.in-Ok-Faulted.field-0-is

pub returns-in-Ok-Moved-clause-step : goal.returns-in-Ok-Moved-clause-step
returns-in-Ok-Moved-clause-step g c =
    let m = c.in-Ok-Moved.ensures in
    let did = rw c.in-Ok-None.field-0-is at c.in-Ok-None.ensures.did in
    let also = rw c.in-Ok-None-wait_next.field-0-is at c.in-Ok-None-wait_next.ensures.did in
    let came = comes-heard c.plan-plan.result.now c.loop-next.instance c.loop-next.parts.state.trace c.straight_run.new.self c.straight_run.new.sink c.wait_next.new.trace _ (also.1 ∙ did.1) c.in-Ok.ensures in
    let k = one-more c.steps_are_sound.ensures c.moves_fall.ensures c.plan-plan.result.now _ c.loop-next.parts.state c.loop-next.instance c.plan-plan.ensures c.loop-next.invariant c.straight_run.new.self c.wait_next.new.trace _ came c.wait_next.new.instance (also.0 ∙ did.0) _ refl c.make.new.self _ m.moves m.path m.sound in
    let b = gone (with_trace c.loop-next.parts.state c.wait_next.new.trace) in
    run-is-ok _ b k.before k.runs (made c.apply_effects.new.parts) c.apply_effects.result
    (moved-is b k.before c.make.new.self _ _ c.plan-plan.ensures k.last k.runs.sound (made c.apply_effects.new.parts) c.in-Ok-Moved.effects c.apply_effects.result c.in-Ok-Moved.field-0-is c.apply_effects.ensures.step c.apply_effects.ensures.keeps)

pub returns-in-Ok-Returned-clause-step : goal.returns-in-Ok-Returned-clause-step
returns-in-Ok-Returned-clause-step g c =
    let m = c.in-Ok-Returned.ensures in
    let did = rw c.in-Ok-None.field-0-is at c.in-Ok-None.ensures.did in
    let also = rw c.in-Ok-None-wait_next.field-0-is at c.in-Ok-None-wait_next.ensures.did in
    let came = comes-heard c.plan-plan.result.now c.loop-next.instance c.loop-next.parts.state.trace c.straight_run.new.self c.straight_run.new.sink c.wait_next.new.trace _ (also.1 ∙ did.1) c.in-Ok.ensures in
    let k = one-more c.steps_are_sound.ensures c.moves_fall.ensures c.plan-plan.result.now _ c.loop-next.parts.state c.loop-next.instance c.plan-plan.ensures c.loop-next.invariant c.straight_run.new.self c.wait_next.new.trace _ came c.wait_next.new.instance (also.0 ∙ did.0) _ refl c.make.new.self _ m.moves m.path m.sound in
    let b = gone (with_trace c.loop-next.parts.state c.wait_next.new.trace) in
    made-ok c.end_by_value-in-Ok-Returned.new.parts c.end_by_value-in-Ok-Returned.result (IsRun (view_of (gone b) (remaining.Runs (stage.Returned c.in-Ok-Returned.value)))) (IsRun _)
    (λ s h. gives-run b k.before c.make.new.self _ _ c.plan-plan.ensures k.last k.runs.sound c.moves_fall.ensures _ k.runs.leads c.in-Ok-Returned.value c.in-Ok-Returned.field-0-is s h)
    c.end_by_value-in-Ok-Returned.ensures.step

pub returns-in-Ok-Faulted-clause-step : goal.returns-in-Ok-Faulted-clause-step
returns-in-Ok-Faulted-clause-step g c =
    let m = c.in-Ok-Faulted.ensures in
    let did = rw c.in-Ok-None.field-0-is at c.in-Ok-None.ensures.did in
    let also = rw c.in-Ok-None-wait_next.field-0-is at c.in-Ok-None-wait_next.ensures.did in
    let came = comes-heard c.plan-plan.result.now c.loop-next.instance c.loop-next.parts.state.trace c.straight_run.new.self c.straight_run.new.sink c.wait_next.new.trace _ (also.1 ∙ did.1) c.in-Ok.ensures in
    let k = one-more c.steps_are_sound.ensures c.moves_fall.ensures c.plan-plan.result.now _ c.loop-next.parts.state c.loop-next.instance c.plan-plan.ensures c.loop-next.invariant c.straight_run.new.self c.wait_next.new.trace _ came c.wait_next.new.instance (also.0 ∙ did.0) _ refl c.make.new.self _ m.moves m.path m.sound in
    faults-run (gone (with_trace c.loop-next.parts.state c.wait_next.new.trace)) k.before c.make.new.self _ _ c.plan-plan.ensures k.last k.runs.sound c.moves_fall.ensures _ k.runs.leads c.in-Ok-Faulted.own c.in-Ok-Faulted.field-0-is _ c.faulted.ensures.step

-- the moves before it: nothing

pub loop-next-smaller : goal.loop-next-smaller
loop-next-smaller g c =
    let m = c.in-Ok-Moved-Nothing.ensures in
    let did = rw c.in-Ok-None.field-0-is at c.in-Ok-None.ensures.did in
    let also = rw c.in-Ok-None-wait_next.field-0-is at c.in-Ok-None-wait_next.ensures.did in
    let came = comes-heard c.plan-plan.result.now c.loop-next.instance c.loop-next.parts.state.trace c.straight_run.new.self c.straight_run.new.sink c.wait_next.new.trace _ (also.1 ∙ did.1) c.in-Ok.ensures in
    let k = one-more c.steps_are_sound.ensures c.moves_fall.ensures c.plan-plan.result.now _ c.loop-next.parts.state c.loop-next.instance c.plan-plan.ensures c.loop-next.invariant c.straight_run.new.self c.wait_next.new.trace _ came c.wait_next.new.instance (also.0 ∙ did.0) _ refl c.make.new.self _ m.moves m.path m.sound in
    let s = c.in-Ok-Moved-Nothing in
    let falls = still-falls (gone (with_trace c.loop-next.parts.state c.wait_next.new.trace)) k.before c.make.new.self _ _ c.plan-plan.ensures k.last k.runs.sound c.moves_fall.ensures s.field-0-0 s.field-0-is s.field-0-0-is in
    omega (arith, falls, k.fewer)

pub loop-next-preserved : goal.loop-next-preserved
loop-next-preserved g c =
    let m = c.in-Ok-Moved-Nothing.ensures in
    let did = rw c.in-Ok-None.field-0-is at c.in-Ok-None.ensures.did in
    let also = rw c.in-Ok-None-wait_next.field-0-is at c.in-Ok-None-wait_next.ensures.did in
    let came = comes-heard c.plan-plan.result.now c.loop-next.instance c.loop-next.parts.state.trace c.straight_run.new.self c.straight_run.new.sink c.wait_next.new.trace _ (also.1 ∙ did.1) c.in-Ok.ensures in
    let k = one-more c.steps_are_sound.ensures c.moves_fall.ensures c.plan-plan.result.now _ c.loop-next.parts.state c.loop-next.instance c.plan-plan.ensures c.loop-next.invariant c.straight_run.new.self c.wait_next.new.trace _ came c.wait_next.new.instance (also.0 ∙ did.0) _ refl c.make.new.self _ m.moves m.path m.sound in
    let s = c.in-Ok-Moved-Nothing in
    still-on (gone (with_trace c.loop-next.parts.state c.wait_next.new.trace)) k.before c.make.new.self _ _ c.plan-plan.ensures k.last k.runs.sound c.steps_are_sound.ensures c.moves_fall.ensures _ k.runs.leads s.field-0-0 s.field-0-is s.field-0-0-is k.path k.sound m.child
