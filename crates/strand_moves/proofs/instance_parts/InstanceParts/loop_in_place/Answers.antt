use Rattle.std.proofs.Common.{refl}
use Rattle.strand_moves.specs.StraightRuns.{Still}
use Rattle.strand_moves.proofs.Cursors.Loops.{stands-in-block, still-in-loop}
use Rattle.strand_moves.proofs.instance_parts.InstanceParts.loop_in_place.Goals as goal

pub returns-in_default-clause-moved : goal.returns-in_default-clause-moved
returns-in_default-clause-moved g c = record { straight_run = Still c.args.self.now c.args.sink.now refl refl; path = refl; sound = c.requires.instance; stays = stands-in-block c.args.self.now }

pub returns-then-self-block-clause-left : goal.returns-then-self-block-clause-left
returns-then-self-block-clause-left g c =
    let around = rw c.in-Some.is at c.requires.around in
    (still-in-loop c.args.plan.now c.args.self.now c.plain_run.new.self c.in-Some.condition.now c.in_ok-plain_run.ensures.stays around, c.if-self-block.true)
