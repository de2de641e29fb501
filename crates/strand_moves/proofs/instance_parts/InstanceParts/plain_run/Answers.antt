use Rattle.std.proofs.Common.{◌+◌, refl, ap, subst, arith}
use Rattle.strand_moves.specs.declared.instance_parts.InstanceParts.{InstanceParts}
use Rattle.strand_moves.specs.StraightRuns.{GoesOnInBlock, Still}
use Rattle.strand_moves.proofs.Cursors.Loops.{did-send, in-block, over-block, stands-in-block, still-block, still-in-loop}
use Rattle.strand_moves.proofs.instance_parts.InstanceParts.plain_run.Goals as goal

pub loop-self-init : goal.loop-self-init
loop-self-init g c = record { straight_run = Still c.args.self.now c.args.sink.now refl refl; path = refl; sound = c.requires.instance; stays = stands-in-block c.args.self.now }

pub loop-self-preserved-then-plain_move : goal.loop-self-preserved-then-plain_move
loop-self-preserved-then-plain_move g c =
    let moved = c.if-plain_move.ensures in
    in-block g.S.EventSink.after c.args.plan.now c.args.self.now c.args.sink.now c.loop-self.self c.loop-self.sink c.loop-self.invariant c.plain_move.new.self moved.0 moved.1

pub loop-self-preserved : goal.loop-self-preserved
loop-self-preserved g c =
    let sink = c.loop-self.sink in
    let new = c.drawing_move.new in
    let sent = did-send g.S.EventSink.after c.args.plan.now c.plain_move.new.self sink new.self new.sink _ c.if-not-branch.false c.in_ok-drawing_move.ensures in
    over-block g.S.EventSink.after c.args.plan.now c.args.self.now c.args.sink.now c.loop-self.self sink c.loop-self.invariant new.self new.sink
    (subst (λ (x : InstanceParts). GoesOnInBlock g.S.EventSink.after c.args.plan.now x sink new.self new.sink) c.if-plain_move.ensures sent.0)

pub loop-self-smaller : goal.loop-self-smaller
loop-self-smaller g c =
    let new = c.drawing_move.new in
    let sent = did-send g.S.EventSink.after c.args.plan.now c.plain_move.new.self c.loop-self.sink new.self new.sink _ c.if-not-branch.false c.in_ok-drawing_move.ensures in
    let paid = sent.1 in
    let same = ap (λ (x : InstanceParts). x.steps) c.if-plain_move.ensures in
    omega (arith, paid, same)

pub plain_move-requires-clause-in_loop : goal.plain_move-requires-clause-in_loop
plain_move-requires-clause-in_loop g c =
    still-in-loop c.args.plan.now c.args.self.now c.loop-self.self c.args.condition.now c.loop-self.invariant.stays c.requires.in_loop

pub plain_move-requires-clause-block : goal.plain_move-requires-clause-block
plain_move-requires-clause-block g c = still-block c.args.plan.now c.args.self.now c.loop-self.self c.args.block.now c.loop-self.invariant.stays c.requires.block
