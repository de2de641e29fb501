use Rattle.std.proofs.Common.{◌≡◌, ◌<◌, ◌^◌, length}
use Rattle.strand_moves.specs.Cursors.{block_of, statements_left}
use Rattle.strand_moves.proofs.cursor.Cursor.pass_out.Given as goal

abbrev pub invariant-loop-statement : goal.invariant-loop-statement
invariant-loop-statement l = record {
  left : statements_left l.body l.self ≡ statements_left l.body l.initial.self;
  block : l.block ≡ block_of l.body l.self.entered.items;
  fits : length l.block < 2 ^ 63;
}

abbrev pub decreases-loop-statement : goal.decreases-loop-statement
decreases-loop-statement l = length l.self.entered.items
