use Rattle.std.proofs.Common.{◌≡◌, [], ◌∷◌, ◌++◌, drop}
use Rattle.std.specs.Cmp.Lexicographic.{slice_cmp}
use Rattle.std.specs.Ordering.{nat_cmp}
use Rattle.strand_family.proofs.start.compare_iteration.Given as goal

abbrev pub invariant-loop-i : goal.invariant-loop-i
invariant-loop-i l = slice_cmp nat_cmp (drop l.i l.at) (drop l.i (l.path ++ l.k ∷ [])) ≡ slice_cmp nat_cmp l.at (l.path ++ l.k ∷ [])
