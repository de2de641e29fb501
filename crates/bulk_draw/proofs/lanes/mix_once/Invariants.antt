use Rattle.std.proofs.Common.{◌≡◌, ◌++◌, map, take, drop}
use Rattle.dotmix.specs.Draws.{round}
use Rattle.bulk_draw.proofs.lanes.mix_once.Given as goal

abbrev pub invariant-loop-number : goal.invariant-loop-number
invariant-loop-number l = l.z ≡ map round (take l.number-index l.fn.z) ++ drop l.number-index l.fn.z
