use Rattle.std.proofs.Common.{length, refl}
use Rattle.strand_moves.proofs.Cursors.CursorLemmas.{something-in}
use Rattle.strand_moves.proofs.SpawnedChildren.EndSyncs.{scope-kept, scope-waited}
use Rattle.strand_moves.proofs.instance_parts.InstanceParts.wait_end.Goals as goal

pub returns-clause-did : goal.returns-clause-did
returns-clause-did g c =
    let i = c.args.self.now in
    let levels = i.top.levels.items in
    let some = something-in levels (length levels) refl c.is_empty.result (rw c.as_slice.ensures.value at c.is_empty.ensures) c.if-is_empty.false in
    let e = c.in_ok-emit_sync.ensures in
    scope-waited c.args.plan.now i c.requires.sound c.if-self.false c.requires.passed some c.emit_sync.new.self e.passed g.S.EventSink.after c.args.sink.now c.emit_sync.new.sink c.in_ok-emit_sync.field-0 e.sent e.waits

pub returns-clause-sound : goal.returns-clause-sound
returns-clause-sound g c =
    let i = c.args.self.now in
    let levels = i.top.levels.items in
    let some = something-in levels (length levels) refl c.is_empty.result (rw c.as_slice.ensures.value at c.is_empty.ensures) c.if-is_empty.false in
    let kept = scope-kept c.args.plan.now i c.requires.sound c.if-self.false c.requires.passed some c.emit_sync.new.self c.in_ok-emit_sync.ensures.passed in
    kept.instance
