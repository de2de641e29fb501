-- Violated conditions, and the first of them.
use Rattle.std.specs.Prelude.{ℕ, Bool, true, false, ◌||◌, ◌&&◌, nat_eq, nat_lt, List, [], ◌∷◌, Option, Some, None, if◌then◌else◌}
use Rattle.script_check.specs.declared.findings.Violation.{Violation}

abbrev pub violation : ℕ → ℕ → Violation
violation number at = record { at = at; number = number }

-- a rule's violation, where the rule is broken
abbrev pub violation_if : Bool → ℕ → ℕ → List Violation
violation_if true number at = violation number at ∷ []
violation_if false number at = []

-- whether u comes before v: at a smaller offset, or at the same one with a smaller number
abbrev pub is_before : Violation → Violation → Bool
is_before u v = nat_lt u.at v.at || (nat_eq u.at v.at && nat_lt u.number v.number)

abbrev pub earlier : Option Violation → Violation → Option Violation
earlier None v = Some v
earlier (Some u) v = Some (if is_before v u then v else u)

-- the first of what was found and of more violations
abbrev pub earliest : Option Violation → List Violation → Option Violation
earliest found [] = found
earliest found (v ∷ vs) = earliest (earlier found v) vs
