use Rattle.std.proofs.Common.{◌≡◌, ◌+◌, ◌-◌, true, sym, ◌∙◌, arith}
use Rattle.strand_moves.proofs.SpawnedChildren.EndSyncs.{return-waited, synced-kept}
use Rattle.strand_moves.proofs.instance_parts.InstanceParts.return_sent.Goals as goal

pub returns-clause-did : goal.returns-clause-did
returns-clause-did g c =
    let i = c.args.self.now in
    let less : i.steps - 1 + 1 ≡ i.steps = omega arith in
    let e = c.in_ok-emit_sync.ensures in
    return-waited c.args.plan.now i c.requires.sound c.requires.goes_on c.requires.passed c.requires.outside c.requires.first (i.steps - 1) less c.emit_sync.new.self e.passed (sym c.has_spawns.ensures ∙ c.if-not-has_spawns.false)
    g.S.EventSink.after c.args.sink.now c.emit_sync.new.sink c.in_ok-emit_sync.field-0 e.sent e.waits

pub returns-clause-sound : goal.returns-clause-sound
returns-clause-sound g c =
    let i = c.args.self.now in
    let less : i.steps - 1 + 1 ≡ i.steps = omega arith in
    let kept = synced-kept c.args.plan.now i c.requires.sound c.requires.goes_on (i.steps - 1) less true c.emit_sync.new.self c.in_ok-emit_sync.ensures.passed in
    kept.instance
