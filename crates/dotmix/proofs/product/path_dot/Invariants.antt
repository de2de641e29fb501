use Rattle.std.proofs.Common.{◌≡◌, take}
use Rattle.dotmix.specs.Draws.{dot, IsResidue}
use Rattle.dotmix.proofs.product.path_dot.Given as goal

abbrev pub invariant-loop-i : goal.invariant-loop-i
invariant-loop-i l = record {
  so_far : l.sum ≡ dot l.gamma (take l.i l.path);
  small : IsResidue l.sum;
}
