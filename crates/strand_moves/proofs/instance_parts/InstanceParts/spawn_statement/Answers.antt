use Rattle.std.proofs.Common.{◌≡◌, ◌+◌, ◌-◌, [], ◌∷◌, ◌++◌, refl, sym, ap, subst, ◌∙◌, arith}
use Rattle.std.specs.Option.{option_copied}
use Rattle.dotmix.specs.declared.trail.Trail.{Trail}
use Rattle.script_check.specs.Slots.{finds_callee, has_slot}
use Rattle.serial_meaning.specs.Plan.{functions_of}
use Rattle.serial_meaning.specs.declared.event.Event.TheVariants as event
use Rattle.strand_moves.specs.declared.instance_parts.InstanceParts.{InstanceParts}
use Rattle.strand_moves.specs.InstanceParts.{IsInstance}
use Rattle.strand_moves.proofs.Cursors.FoundStatements.{next-found}
use Rattle.strand_moves.proofs.SpawnedChildren.ChildLemmas.{strand_at}
use Rattle.strand_moves.proofs.SpawnedChildren.Spawning.{spawn-did, spawn-kept, spawn-undone}
use Rattle.strand_moves.proofs.instance_parts.InstanceParts.spawn_statement.Goals as goal

pub returns-in_ok-emit_at-in-Ok-clause-did : goal.returns-in_ok-emit_at-in-Ok-clause-did
returns-in_ok-emit_at-in-Ok-clause-did g c =
    let i = c.args.self.now in
    let st = c.args.statement.now in
    let less : i.steps - 1 + 1 ≡ i.steps = omega arith in
    let shown = event.Spawn (strand_at i) in
    let sent = c.in_ok-emit_at-in-Ok.ensures ∙ ap (λ (t : Trail). g.S.EventSink.after (event.Spawn (t.path ++ i.rank ∷ [])) c.args.sink.now) c.spawn.ensures.stays.trail in
    (shown, sent, spawn-did i (i.steps - 1) less c.args.plan.now c.requires.sound st c.requires.passed c.spawn.new.self (option_copied c.in-Some.text.0) c.in-Some.text.1.now c.in-Some.ensures.does shown c.spawn.result c.in-Ok.spawned c.in-Ok.is (c.spawn.ensures.shows st))

pub returns-in_ok-emit_at-in-Ok-clause-path : goal.returns-in_ok-emit_at-in-Ok-clause-path
returns-in_ok-emit_at-in-Ok-clause-path g c =
    let i = c.args.self.now in
    let less : i.steps - 1 + 1 ≡ i.steps = omega arith in
    let kept = spawn-kept i (i.steps - 1) less c.args.plan.now c.requires.sound c.args.statement.now c.requires.passed c.spawn.new.self (c.spawn.ensures.named c.args.plan.now) c.spawn.ensures.stays c.spawn.ensures.few in
    kept.path

pub returns-in_ok-emit_at-in-Ok-clause-sound : goal.returns-in_ok-emit_at-in-Ok-clause-sound
returns-in_ok-emit_at-in-Ok-clause-sound g c =
    let i = c.args.self.now in
    let less : i.steps - 1 + 1 ≡ i.steps = omega arith in
    let kept = spawn-kept i (i.steps - 1) less c.args.plan.now c.requires.sound c.args.statement.now c.requires.passed c.spawn.new.self (c.spawn.ensures.named c.args.plan.now) c.spawn.ensures.stays c.spawn.ensures.few in
    kept.instance

pub returns-in-Err-Fault-clause-did : goal.returns-in-Err-Fault-clause-did
returns-in-Err-Fault-clause-did g c =
    let i = c.args.self.now in
    let less : i.steps - 1 + 1 ≡ i.steps = omega arith in
    (spawn-undone i (i.steps - 1) less c.spawn.new.self (c.spawn.ensures.same c.in-Err-Fault.field-0-0 (rw c.in-Err-Fault.field-0-is at c.in-Err-Fault.is)), refl)

pub returns-in-Err-Fault-clause-sound : goal.returns-in-Err-Fault-clause-sound
returns-in-Err-Fault-clause-sound g c =
    let i = c.args.self.now in
    let less : i.steps - 1 + 1 ≡ i.steps = omega arith in
    let undone = spawn-undone i (i.steps - 1) less c.spawn.new.self (c.spawn.ensures.same c.in-Err-Fault.field-0-0 (rw c.in-Err-Fault.field-0-is at c.in-Err-Fault.is)) in
    subst (IsInstance c.args.plan.now) (sym undone) c.requires.sound

pub overflow_add-self : goal.overflow_add-self
overflow_add-self g c =
    let paid = ap (λ (x : InstanceParts). x.steps) (c.spawn.ensures.same c.in-Err-Fault.field-0-0 (rw c.in-Err-Fault.field-0-is at c.in-Err-Fault.is)) in
    omega (arith, paid)

pub spawn-requires-clause-finds : goal.spawn-requires-clause-finds
spawn-requires-clause-finds g c =
    let i = c.args.self.now in
    let slots = c.slots.result.now in
    let found = next-found c.args.plan.now slots i (record { table = c.slots.ensures.table; found = c.slots.ensures.found }) c.requires.sound.named c.args.statement.now c.requires.passed.1 in
    c.in-Some.ensures.every (has_slot slots i.top.env.names) (finds_callee (functions_of c.args.plan.now)) found
