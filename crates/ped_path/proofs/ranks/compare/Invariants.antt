use Rattle.std.proofs.Common.{◌≡◌, drop}
use Rattle.std.specs.Cmp.Lexicographic.{slice_cmp}
use Rattle.std.specs.Ordering.{nat_cmp}
use Rattle.ped_path.proofs.ranks.compare.Given as goal

abbrev pub invariant-loop-i : goal.invariant-loop-i
invariant-loop-i g l = slice_cmp nat_cmp (drop l.i (g.A.Ranks.ranks l.left)) (drop l.i (g.B.Ranks.ranks l.right)) ≡ slice_cmp nat_cmp (g.A.Ranks.ranks l.left) (g.B.Ranks.ranks l.right)
