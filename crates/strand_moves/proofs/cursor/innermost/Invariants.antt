use Rattle.std.proofs.Common.{◌≡◌, drop}
use Rattle.strand_moves.specs.Cursors.{block_of}
use Rattle.strand_moves.proofs.cursor.innermost.Given as goal

abbrev pub invariant-loop-e : goal.invariant-loop-e
invariant-loop-e l = block_of l.body l.entered ≡ block_of l.block (drop l.e-index l.entered)
