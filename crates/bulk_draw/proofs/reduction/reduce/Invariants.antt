use Rattle.std.proofs.Common.{◌≡◌, ◌%◌, ◌++◌, map, take, drop}
use Rattle.bulk_draw.proofs.reduction.reduce.Given as goal

abbrev pub invariant-loop-number : goal.invariant-loop-number
invariant-loop-number l = l.z ≡ map (λ n. n % l.below) (take l.number-index l.fn.z) ++ drop l.number-index l.fn.z
