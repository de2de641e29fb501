-- The earliest of violations in a row.
use Rattle.std.proofs.Common.{◌≡◌, List, [], ◌∷◌, ◌++◌, Option, refl, sym, ap, ◌∙◌}
use Rattle.script_check.specs.declared.findings.Violation.{Violation}
use Rattle.script_check.specs.Violations.{earlier, earliest}

pub earliest_append : (found : Option Violation) (xs ys : List Violation) → earliest found (xs ++ ys) ≡ earliest (earliest found xs) ys
earliest_append found [] ys = refl
earliest_append found (x ∷ xs) ys = earliest_append (earlier found x) xs ys

-- two lots in a row
pub after_two : (found first second : Option Violation) (xs ys zs : List Violation) → first ≡ earliest found xs → second ≡ earliest first ys → zs ≡ xs ++ ys → second ≡ earliest found zs
after_two found first second xs ys zs a b e = b ∙ ap (λ o. earliest o ys) a ∙ sym (earliest_append found xs ys) ∙ ap (earliest found) (sym e)

-- three lots in a row
pub after_three : (found first second third : Option Violation) (xs ys zs all : List Violation) → first ≡ earliest found xs → second ≡ earliest first ys → third ≡ earliest second zs →
    all ≡ (xs ++ ys) ++ zs → third ≡ earliest found all
after_three found first second third xs ys zs all a b c e = after_two found second third (xs ++ ys) zs all (after_two found first second xs ys (xs ++ ys) a b refl) c e
