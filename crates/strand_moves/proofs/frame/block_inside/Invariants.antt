use Rattle.std.proofs.Common.{◌≡◌, drop, reverse}
use Rattle.strand_moves.specs.InstanceParts.{block_inside}
use Rattle.strand_moves.proofs.OpenScopes.Blocks.{block_from}
use Rattle.strand_moves.proofs.frame.block_inside.Given as goal

abbrev pub invariant-loop-level : goal.invariant-loop-level
invariant-loop-level l = block_inside l.body (reverse l.levels) ≡ block_from l.block (drop l.level-index l.levels)
