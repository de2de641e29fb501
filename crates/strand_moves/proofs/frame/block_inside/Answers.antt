use Rattle.std.proofs.Common.{sym}
use Rattle.strand_moves.proofs.OpenScopes.Blocks.{from-outermost}
use Rattle.strand_moves.proofs.frame.block_inside.Goals as goal

pub loop-level-init : goal.loop-level-init
loop-level-init c = sym (from-outermost c.args.body.now c.args.levels.now)
