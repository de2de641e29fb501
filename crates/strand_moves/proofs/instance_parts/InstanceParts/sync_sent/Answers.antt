use Rattle.std.proofs.Common.{◌≡◌, ◌+◌, ◌-◌, Ok, refl, arith}
use Rattle.script_grammar.specs.declared.tree.Act.TheOpen as act
use Rattle.serial_meaning.specs.declared.event.Event.TheVariants as event
use Rattle.strand_moves.proofs.SpawnedChildren.ChildLemmas.{strand_at}
use Rattle.strand_moves.proofs.SpawnedChildren.EndSyncs.{synced-kept}
use Rattle.strand_moves.proofs.SpawnedChildren.Waiting.{sync-shows, wait-did}
use Rattle.strand_moves.proofs.instance_parts.InstanceParts.sync_sent.Goals as goal

pub returns-clause-did : goal.returns-clause-did
returns-clause-did g c =
    let i = c.args.self.now in
    let plan = c.args.plan.now in
    let st = c.args.statement.now in
    let less : i.steps - 1 + 1 ≡ i.steps = omega arith in
    let shown = event.Sync (strand_at i) in
    let w = c.in_ok-emit_sync.field-0 in
    let e = c.in_ok-emit_sync.ensures in
    (shown, e.sent, wait-did i (i.steps - 1) less plan c.requires.sound st c.emit_sync.new.self act.Sync c.requires.is shown (Ok w) w refl (sync-shows plan st _ c.emit_sync.new.self w e.waits e.passed))

pub returns-clause-path : goal.returns-clause-path
returns-clause-path g c =
    let i = c.args.self.now in
    let less : i.steps - 1 + 1 ≡ i.steps = omega arith in
    let kept = synced-kept c.args.plan.now i c.requires.sound c.requires.passed.0 (i.steps - 1) less i.top.returning c.emit_sync.new.self c.in_ok-emit_sync.ensures.passed in
    kept.path

pub returns-clause-sound : goal.returns-clause-sound
returns-clause-sound g c =
    let i = c.args.self.now in
    let less : i.steps - 1 + 1 ≡ i.steps = omega arith in
    let kept = synced-kept c.args.plan.now i c.requires.sound c.requires.passed.0 (i.steps - 1) less i.top.returning c.emit_sync.new.self c.in_ok-emit_sync.ensures.passed in
    kept.instance
