use Rattle.std.proofs.Common.{◌≡◌, map}
use Rattle.dotmix.specs.Draws.{mix}
use Rattle.bulk_draw.proofs.lanes.mix_each.Given as goal

abbrev pub invariant-loop-i : goal.invariant-loop-i
invariant-loop-i l = l.z ≡ map (λ n. mix n l._i) l.fn.z
