use Rattle.std.proofs.Common.{◌≡◌, ◌+◌, ◌*◌, length}
use Rattle.std.specs.Option.{option_copied}
use Rattle.strand_moves.specs.Cursors.{IsAround, block_of}
use Rattle.strand_moves.specs.StraightRuns.{StraightRun}
use Rattle.strand_moves.specs.InstanceParts.{IsInstance, path_of, statements_of}
use Rattle.strand_moves.proofs.instance_parts.InstanceParts.straight_run.Given as goal

abbrev pub invariant-loop-around : goal.invariant-loop-around
invariant-loop-around g l = record {
  straight_run : StraightRun g.S.EventSink.after l.plan l.initial.self l.initial.sink l.self l.sink;
  sound : IsInstance l.plan l.self;
  path : path_of l.self ≡ path_of l.initial.self;
  text : l.text ≡ statements_of l.plan l.self.top;
  block : l.block ≡ block_of l.text l.self.top.cursor.entered.items;
  around : IsAround l.text l.self.top.cursor (option_copied l.around);
}

abbrev pub decreases-loop-around : goal.decreases-loop-around
decreases-loop-around g l = 2 * l.self.steps + length l.self.below.items
