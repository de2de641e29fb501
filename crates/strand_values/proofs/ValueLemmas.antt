-- Objects in their order, and parameters without arguments.
use Rattle.std.proofs.Common.{◌≡◌, ℕ, false, List, [], ◌∷◌, refl}
use Rattle.std.specs.Ordering.{nat_cmp, is_lt}
use Rattle.std.specs.Cmp.Lexicographic.{slice_cmp}
use Rattle.script_grammar.specs.declared.tree.Param.{Param}
use Rattle.serial_meaning.specs.Exec.{bound}

pub before_none : (xs : List ℕ) → false ≡ is_lt (slice_cmp nat_cmp xs [])
before_none [] = refl
before_none (x ∷ xs) = refl

pub bound_to_none : (ps : List Param) → bound ps [] ≡ []
bound_to_none [] = refl
bound_to_none (p ∷ ps) = refl
