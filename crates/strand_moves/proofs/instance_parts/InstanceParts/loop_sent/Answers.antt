use Rattle.std.proofs.Common.{◌≡◌, ◌+◌, ◌-◌, [], ◌∷◌, ◌++◌, refl, sym, ap, subst, ◌∙◌, arith}
use Rattle.dotmix.specs.declared.trail.Trail.{Trail}
use Rattle.script_check.specs.Slots.{finds_callee, has_slot}
use Rattle.script_grammar.specs.declared.tree.Act.TheOpen as act
use Rattle.script_grammar.specs.declared.tree.Act.TheVariants as variant
use Rattle.serial_meaning.specs.Plan.{functions_of}
use Rattle.serial_meaning.specs.declared.event.Event.TheVariants as event
use Rattle.strand_moves.specs.declared.instance_parts.InstanceParts.{InstanceParts}
use Rattle.strand_moves.specs.InstanceParts.{IsInstance}
use Rattle.strand_moves.proofs.Cursors.FoundStatements.{next-found}
use Rattle.strand_moves.proofs.SpawnedChildren.ChildLemmas.{strand_at}
use Rattle.strand_moves.proofs.SpawnedChildren.Spawning.{spawn-kept, spawn-undone}
use Rattle.strand_moves.proofs.SpawnedChildren.Waiting.{wait-did}
use Rattle.strand_moves.proofs.Statements.FoundParts.{in_pfor}
use Rattle.strand_moves.proofs.Statements.Paying.{act-is}
use Rattle.strand_moves.proofs.instance_parts.InstanceParts.loop_sent.Goals as goal

pub returns-in_ok-emit_at-in-Ok-clause-did : goal.returns-in_ok-emit_at-in-Ok-clause-did
returns-in_ok-emit_at-in-Ok-clause-did g c =
    let i = c.args.self.now in
    let st = c.args.statement.now in
    let less : i.steps - 1 + 1 ≡ i.steps = omega arith in
    let shown = event.Loop (strand_at i) in
    let sent = c.in_ok-emit_at-in-Ok.ensures ∙ ap (λ (t : Trail). g.S.EventSink.after (event.Loop (t.path ++ i.rank ∷ [])) c.args.sink.now) c.pfor.ensures.stays.trail in
    let is = act-is (act.Pfor c.in-Pfor.var c.in-Pfor.lo c.in-Pfor.hi c.in-Pfor.target c.in-Pfor.call) st.act (variant.Pfor c.in-Pfor.var c.in-Pfor.lo c.in-Pfor.hi c.in-Pfor.target c.in-Pfor.call) c.in-Pfor.is (variant.rolls-Pfor c.in-Pfor.var c.in-Pfor.lo c.in-Pfor.hi c.in-Pfor.target c.in-Pfor.call) in
    (shown, sent, wait-did i (i.steps - 1) less c.args.plan.now c.requires.sound st c.pfor.new.self (act.Pfor c.in-Pfor.var c.in-Pfor.lo c.in-Pfor.hi c.in-Pfor.target c.in-Pfor.call) is shown c.pfor.result c.in-Ok.waits c.in-Ok.is (c.pfor.ensures.shows st c.in-Pfor.var))

pub returns-in_ok-emit_at-in-Ok-clause-path : goal.returns-in_ok-emit_at-in-Ok-clause-path
returns-in_ok-emit_at-in-Ok-clause-path g c =
    let i = c.args.self.now in
    let less : i.steps - 1 + 1 ≡ i.steps = omega arith in
    let e = c.pfor.ensures in
    let kept = spawn-kept i (i.steps - 1) less c.args.plan.now c.requires.sound c.args.statement.now c.requires.passed c.pfor.new.self (e.named c.args.plan.now) e.stays e.few in
    kept.path

pub returns-in_ok-emit_at-in-Ok-clause-sound : goal.returns-in_ok-emit_at-in-Ok-clause-sound
returns-in_ok-emit_at-in-Ok-clause-sound g c =
    let i = c.args.self.now in
    let less : i.steps - 1 + 1 ≡ i.steps = omega arith in
    let e = c.pfor.ensures in
    let kept = spawn-kept i (i.steps - 1) less c.args.plan.now c.requires.sound c.args.statement.now c.requires.passed c.pfor.new.self (e.named c.args.plan.now) e.stays e.few in
    kept.instance

pub returns-in-Err-Fault-clause-did : goal.returns-in-Err-Fault-clause-did
returns-in-Err-Fault-clause-did g c =
    let i = c.args.self.now in
    let less : i.steps - 1 + 1 ≡ i.steps = omega arith in
    (spawn-undone i (i.steps - 1) less c.pfor.new.self (c.pfor.ensures.same c.in-Err-Fault.field-0-0 (rw c.in-Err-Fault.field-0-is at c.in-Err-Fault.is)), refl)

pub returns-in-Err-Fault-clause-sound : goal.returns-in-Err-Fault-clause-sound
returns-in-Err-Fault-clause-sound g c =
    let i = c.args.self.now in
    let less : i.steps - 1 + 1 ≡ i.steps = omega arith in
    let undone = spawn-undone i (i.steps - 1) less c.pfor.new.self (c.pfor.ensures.same c.in-Err-Fault.field-0-0 (rw c.in-Err-Fault.field-0-is at c.in-Err-Fault.is)) in
    subst (IsInstance c.args.plan.now) (sym undone) c.requires.sound

pub overflow_add-self : goal.overflow_add-self
overflow_add-self g c =
    let paid = ap (λ (x : InstanceParts). x.steps) (c.pfor.ensures.same c.in-Err-Fault.field-0-0 (rw c.in-Err-Fault.field-0-is at c.in-Err-Fault.is)) in
    omega (arith, paid)

pub pfor-requires-clause-finds : goal.pfor-requires-clause-finds
pfor-requires-clause-finds g c =
    let i = c.args.self.now in
    let st = c.args.statement.now in
    let slots = c.slots.result.now in
    let is = act-is (act.Pfor c.in-Pfor.var c.in-Pfor.lo c.in-Pfor.hi c.in-Pfor.target c.in-Pfor.call) st.act (variant.Pfor c.in-Pfor.var c.in-Pfor.lo c.in-Pfor.hi c.in-Pfor.target c.in-Pfor.call) c.in-Pfor.is (variant.rolls-Pfor c.in-Pfor.var c.in-Pfor.lo c.in-Pfor.hi c.in-Pfor.target c.in-Pfor.call) in
    let found = next-found c.args.plan.now slots i (record { table = c.slots.ensures.table; found = c.slots.ensures.found }) c.requires.sound.named st c.requires.passed.1 in
    let parts = in_pfor (has_slot slots i.top.env.names) (finds_callee (functions_of c.args.plan.now)) st found c.in-Pfor.var c.in-Pfor.lo c.in-Pfor.hi c.in-Pfor.target c.in-Pfor.call is in
    record { first = parts.0; end = parts.1.0; target = parts.1.1.0; called = parts.1.1.1.0; args = parts.1.1.1.1 }
