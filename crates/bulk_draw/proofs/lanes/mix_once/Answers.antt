use Rattle.std.proofs.Common.{arith}
use Rattle.dotmix.specs.Draws.{round}
use Rattle.bulk_draw.proofs.LaneLemmas.{number_mapped}
use Rattle.bulk_draw.proofs.lanes.mix_once.Goals as goal

pub loop-number-preserved : goal.loop-number-preserved
loop-number-preserved c =
    rw c.mixed_once.ensures (number_mapped round c.args.z.now c.loop-number.z c.loop-number.number-index (omega arith) (omega arith) c.loop-number.invariant)
