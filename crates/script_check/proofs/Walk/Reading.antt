-- Parts of a sum or product, one after another.
use Rattle.std.proofs.Common.{◌≡◌, ℕ, ◌+◌, ◌<◌, List, ◌∷◌, Option, length, map, drop, get_or, sym, ap, ◌∙◌}
use Rattle.std.proofs.lemmas.List.{at_drop_more}
use Rattle.script_grammar.specs.declared.tree.Kind.TheVariants.{Int}
use Rattle.script_check.specs.declared.findings.Violation.{Violation}
use Rattle.script_check.specs.Violations.{earliest}
use Rattle.script_check.specs.Names.{NameSet}
use Rattle.script_check.specs.Rules.{Declared}
use Rattle.script_check.specs.Expressions.{Reading, wanted, all_wanted}
use Rattle.script_check.proofs.LeastViolation.Earliest.{earliest_append}

-- what is left of a list at an index
pub at_index : {A : Type 0} (xs : List A) (i : ℕ) (x : A) → i < length xs → x ≡ get_or xs i x → drop i xs ≡ x ∷ drop (i + 1) xs
at_index xs i x h e = at_drop_more (λ l. l) xs i x h ∙ ap (λ y. y ∷ drop (i + 1) xs) (sym e)

pub one_part : {A : Type 0} (see : A → Reading) (k : Declared) (p : NameSet) (xs : List A) (i : ℕ) (x : A) (before now : Option Violation) → i < length xs → x ≡ get_or xs i x →
    now ≡ earliest before (wanted Int (see x) k p) →
    earliest now (all_wanted Int (map see (drop (i + 1) xs)) k p) ≡ earliest before (all_wanted Int (map see (drop i xs)) k p)
one_part see k p xs i x before now h e n =
    ap (λ o. earliest o (all_wanted Int (map see (drop (i + 1) xs)) k p)) n
    ∙ sym (earliest_append before (wanted Int (see x) k p) (all_wanted Int (map see (drop (i + 1) xs)) k p))
    ∙ ap (λ l. earliest before (all_wanted Int (map see l) k p)) (sym (at_index xs i x h e))
