use Rattle.std.proofs.Common.{◌≡◌, ◌*◌, ◌++◌, map, take, drop}
use Rattle.dotmix.specs.Draws.{mix}
use Rattle.bulk_draw.proofs.lanes.mix_lanes.Given as goal

abbrev pub invariant-loop-block : goal.invariant-loop-block
invariant-loop-block l = l.z ≡ map (λ n. mix n l.rounds) (take (l.block * 8) l.fn.z) ++ drop (l.block * 8) l.fn.z
