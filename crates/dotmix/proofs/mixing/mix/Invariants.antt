use Rattle.std.proofs.Common.{◌≡◌}
use Rattle.dotmix.specs.Draws.{mix}
use Rattle.dotmix.proofs.mixing.mix.Given as goal

abbrev pub invariant-loop-i : goal.invariant-loop-i
invariant-loop-i l = l.mixed ≡ mix l.z l._i
