use Rattle.std.proofs.Common.{◌≡◌, ◌∙◌, ap, refl, sym}
use Rattle.strand_meaning.specs.Task.{stops_at, child_in}
use Rattle.strand_moves.specs.Moves.{effects_of}
use Rattle.strand_moves.specs.declared.effects.Effects.TheVariants as effect
use Rattle.strand_moves.specs.declared.effects.SpawnedChild.{SpawnedChild}
use Rattle.strand_machine.specs.Effects.{task_after_effects}
use Rattle.strand_machine.specs.Made.{IsSpawn, made}
use Rattle.strand_machine.specs.Stops.{KeepsLinksInStep, step_of}
use Rattle.strand_machine.specs.Tasks.{view_of}
use Rattle.strand_machine.specs.declared.destination.Destination.TheVariants as destination
use Rattle.strand_machine.specs.MoveOrStop.{MoveOrStop}
use Rattle.strand_machine.specs.declared.remaining.Stage.TheVariants as stage
use Rattle.strand_machine.specs.declared.remaining.Remaining.TheVariants as remaining
use Rattle.strand_machine.proofs.Moves.Making.{made-ok}
use Rattle.strand_machine.proofs.Moves.Moving.{silent-sound, silent-step, emitted-sound, emitted-step, synced-sound, synced-step, spawned-known, spawned-trail, spawned-sound, spawned-step, looped-known, looped-trail, looped-sound, looped-step, passes-keep, spawns-keep, with_trace}
use Rattle.strand_machine.proofs.run.apply_effects.Goals as goal

-- nothing, or where a scope begins or has ended

pub pass-requires : goal.pass-requires
pass-requires g c = silent-sound c.args.parts.now.state c.args.instance c.args.effects c.in-Nothing.is c.requires

pub returns-in-Nothing-clause-step : goal.returns-in-Nothing-clause-step
returns-in-Nothing-clause-step g c = silent-step c.args.parts.now.state c.args.instance c.args.effects _ c.in-Nothing.is c.pass.ensures.made

pub returns-in-Nothing-clause-keeps : goal.returns-in-Nothing-clause-keeps
returns-in-Nothing-clause-keeps g c =
    let w = remaining.Runs (stage.Running c.args.instance) in
    passes-keep c.args.parts.now.state c.args.parts.now.state.trace w w _ refl c.pass.ensures.made

-- an event

pub pass-requires-in-Emitted : goal.pass-requires-in-Emitted
pass-requires-in-Emitted g c = emitted-sound c.args.parts.now.state c.args.instance c.args.effects c.in-Emitted.event c.emit.new.self c.in-Emitted.is c.in_ok-emit-in-Emitted.ensures c.requires

pub returns-in-Emitted-clause-step : goal.returns-in-Emitted-clause-step
returns-in-Emitted-clause-step g c =
    emitted-step c.args.parts.now.state c.args.instance c.args.effects c.in-Emitted.event c.emit.new.self _ c.in-Emitted.is c.in_ok-emit-in-Emitted.ensures c.pass-in-Emitted.ensures.made

pub returns-in-Emitted-clause-keeps : goal.returns-in-Emitted-clause-keeps
returns-in-Emitted-clause-keeps g c =
    let w = remaining.Runs (stage.Running c.args.instance) in
    passes-keep c.args.parts.now.state c.emit.new.self w w _ refl c.pass-in-Emitted.ensures.made

-- a sync

pub pass-requires-in-Synced : goal.pass-requires-in-Synced
pass-requires-in-Synced g c = synced-sound c.args.parts.now.state c.args.instance c.args.effects c.in-Synced.event c.emit-in-Synced.new.self c.in-Synced.is c.in_ok-emit-in-Synced.ensures c.requires

pub returns-in-Synced-clause-step : goal.returns-in-Synced-clause-step
returns-in-Synced-clause-step g c =
    synced-step c.args.parts.now.state c.args.instance c.args.effects c.in-Synced.event c.emit-in-Synced.new.self _ c.in-Synced.is c.in_ok-emit-in-Synced.ensures c.pass-in-Synced.ensures.made

pub returns-in-Synced-clause-keeps : goal.returns-in-Synced-clause-keeps
returns-in-Synced-clause-keeps g c =
    let i = c.args.instance in
    passes-keep c.args.parts.now.state c.emit-in-Synced.new.self (remaining.Runs (stage.Running i)) (remaining.Runs (stage.AtSync i)) _ refl c.pass-in-Synced.ensures.made

-- a child

pub begin_spawned-requires-clause-known : goal.begin_spawned-requires-clause-known
begin_spawned-requires-clause-known g c =
    spawned-known c.args.parts.now.state c.args.instance c.args.effects c.in-Spawned.event c.unboxed.result (c.in-Spawned.is ∙ ap (λ (o : SpawnedChild). effect.Spawned c.in-Spawned.event o) (sym c.unboxed.ensures)) c.requires

pub begin_spawned-requires-clause-trail : goal.begin_spawned-requires-clause-trail
begin_spawned-requires-clause-trail g c =
    spawned-trail c.args.parts.now.state c.args.instance c.args.effects c.in-Spawned.event c.unboxed.result (c.in-Spawned.is ∙ ap (λ (o : SpawnedChild). effect.Spawned c.in-Spawned.event o) (sym c.unboxed.ensures)) c.requires

pub begin_spawned-requires-clause-sound : goal.begin_spawned-requires-clause-sound
begin_spawned-requires-clause-sound g c =
    spawned-sound c.args.parts.now.state c.args.instance c.args.effects c.in-Spawned.event c.unboxed.result c.emit-in-Spawned.new.self (c.in-Spawned.is ∙ ap (λ (o : SpawnedChild). effect.Spawned c.in-Spawned.event o) (sym c.unboxed.ensures)) c.in_ok-emit-in-Spawned.ensures c.requires

pub returns-in-Spawned-clause-step : goal.returns-in-Spawned-clause-step
returns-in-Spawned-clause-step g c =
    let b = c.args.parts.now.state in
    let i = c.args.instance in
    let o = c.unboxed.result in
    let p = c.emit-in-Spawned.new.self in
    let is = c.in-Spawned.is ∙ ap (λ (o : SpawnedChild). effect.Spawned c.in-Spawned.event o) (sym c.unboxed.ensures) in
    made-ok c.begin_spawned.new.parts c.begin_spawned.result
    (IsSpawn (with_trace b p) o.child.origin (destination.Spawned o.height o.target) (remaining.Runs (stage.Running i)))
    (λ (r : MoveOrStop _). step_of r ≡ stops_at (child_in (effects_of c.args.effects)) (task_after_effects b i c.args.effects))
    (λ r h. spawned-step b i c.args.effects c.in-Spawned.event o p r is c.in_ok-emit-in-Spawned.ensures h) c.begin_spawned.ensures.made

pub returns-in-Spawned-clause-keeps : goal.returns-in-Spawned-clause-keeps
returns-in-Spawned-clause-keeps g c =
    let b = c.args.parts.now.state in
    let w = remaining.Runs (stage.Running c.args.instance) in
    let o = c.unboxed.result in
    let p = c.emit-in-Spawned.new.self in
    let at = destination.Spawned o.height o.target in
    made-ok c.begin_spawned.new.parts c.begin_spawned.result
    (IsSpawn (with_trace b p) o.child.origin at w)
    (KeepsLinksInStep (view_of b w)) (λ r h. spawns-keep b p w w o.child.origin at r refl h) c.begin_spawned.ensures.made

-- a loop

pub begin_looped-requires-clause-known : goal.begin_looped-requires-clause-known
begin_looped-requires-clause-known g c =
    looped-known c.args.parts.now.state c.args.instance c.args.effects c.in-Looped.event c.in-Looped.looped c.in-Looped.is c.requires

pub begin_looped-requires-clause-trail : goal.begin_looped-requires-clause-trail
begin_looped-requires-clause-trail g c =
    looped-trail c.args.parts.now.state c.args.instance c.args.effects c.in-Looped.event c.in-Looped.looped c.in-Looped.is c.requires

pub begin_looped-requires-clause-sound : goal.begin_looped-requires-clause-sound
begin_looped-requires-clause-sound g c =
    looped-sound c.args.parts.now.state c.args.instance c.args.effects c.in-Looped.event c.in-Looped.looped c.emit-in-Looped.new.self c.in-Looped.is c.in_ok-emit-in-Looped.ensures c.requires

pub returns-clause-step : goal.returns-clause-step
returns-clause-step g c =
    let b = c.args.parts.now.state in
    let i = c.args.instance in
    let o = c.in-Looped.looped in
    let p = c.emit-in-Looped.new.self in
    made-ok c.begin_looped.new.parts c.begin_looped.result
    (IsSpawn (with_trace b p) o.child.origin (destination.Looped o.target) (remaining.Runs (stage.AtLoop i)))
    (λ (r : MoveOrStop _). step_of r ≡ stops_at (child_in (effects_of c.args.effects)) (task_after_effects b i c.args.effects))
    (λ r h. looped-step b i c.args.effects c.in-Looped.event o p r c.in-Looped.is c.in_ok-emit-in-Looped.ensures h) c.begin_looped.ensures.made

pub returns-clause-keeps : goal.returns-clause-keeps
returns-clause-keeps g c =
    let b = c.args.parts.now.state in
    let i = c.args.instance in
    let o = c.in-Looped.looped in
    let p = c.emit-in-Looped.new.self in
    let at = destination.Looped o.target in
    made-ok c.begin_looped.new.parts c.begin_looped.result
    (IsSpawn (with_trace b p) o.child.origin at (remaining.Runs (stage.AtLoop i)))
    (KeepsLinksInStep (view_of b (remaining.Runs (stage.Running i)))) (λ r h. spawns-keep b p (remaining.Runs (stage.Running i)) (remaining.Runs (stage.AtLoop i)) o.child.origin at r refl h) c.begin_looped.ensures.made
