use Rattle.std.proofs.Common.{◌%◌, arith}
use Rattle.bulk_draw.proofs.LaneLemmas.{number_mapped}
use Rattle.bulk_draw.proofs.reduction.reduce.Goals as goal

pub loop-number-preserved : goal.loop-number-preserved
loop-number-preserved c =
    number_mapped (λ n. n % c.args.below) c.args.z.now c.loop-number.z c.loop-number.number-index (omega arith) (omega arith) c.loop-number.invariant
