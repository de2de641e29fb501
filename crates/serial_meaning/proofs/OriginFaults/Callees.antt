-- The number of a function by its name, in the words of checked scripts.
use Rattle.std.proofs.Common.{◌≡◌, ℕ, suc, Bool, true, false, cond, List, [], ◌∷◌, Option, Some, None, length, refl, ap, ◌∙◌}
use Rattle.std.specs.Prelude.{option_map}
use Rattle.std.specs.Str.{bytes_eq}
use Rattle.script_grammar.specs.declared.tree.Function.{Function}
use Rattle.script_check.specs.Functions.{first_named}
use Rattle.serial_meaning.specs.Functions.{function_number}

-- the place, or the number of functions where there is none
abbrev number_or : ℕ → Option ℕ → ℕ
number_or n None = n
number_or n (Some i) = i

number_is : (fs : List Function) (name : List ℕ) → function_number fs name ≡ number_or (length fs) (first_named fs name)
number_is [] name = refl
number_is (f ∷ fs) name = pick (bytes_eq f.name.bytes name) (first_named fs name) (number_is fs name)
  where
    pick : (b : Bool) (o : Option ℕ) → function_number fs name ≡ number_or (length fs) o → cond b 0 (suc (function_number fs name)) ≡ number_or (length (f ∷ fs)) (cond b (Some 0) (option_map suc o))
    pick true o h = refl
    pick false None h = ap suc h
    pick false (Some i) h = ap suc h

pub number_found : (fs : List Function) (name : List ℕ) (i : ℕ) → first_named fs name ≡ Some i → function_number fs name ≡ i
number_found fs name i e = number_is fs name ∙ ap (number_or (length fs)) e
