-- The index of functions, one function after another.
use Rattle.std.proofs.Common.{◌≡◌, ℕ, suc, ◌+◌, ◌<◌, ◌≤◌, Bool, true, false, cond, List, [], ◌∷◌, ◌++◌, length, take, drop, get_or, Option, Some, None, refl, sym, ap, subst, ◌∙◌, ⊎_elim, arith}
use Rattle.std.specs.Prelude.{is_some, option_map, unwrap_or, IfSome, if◌then◌else◌}
use Rattle.std.specs.Str.{bytes_eq}
use Rattle.std.specs.Cmp.Lexicographic.{bytes_decides}
use Rattle.std.proofs.lemmas.Bool.{cases_Bool, cond-true, cond-false}
use Rattle.std.proofs.lemmas.Bool.{true≢false}
use Rattle.std.proofs.lemmas.List.{take_more, length-take-le}
use Rattle.script_grammar.specs.declared.tree.Function.{Function}
use Rattle.script_grammar.specs.declared.tree.Script.{Script}
use Rattle.script_check.proofs.FewerPending.Fewer.{nothing_left, nothing_right}
use Rattle.script_check.specs.declared.findings.Violation.{Violation}
use Rattle.script_check.specs.Tables.{Table, with_first}
use Rattle.script_check.specs.Functions.{first_named, function_at, function_named, main_name}
use Rattle.script_check.specs.Violations.{violation_if, earliest}
use Rattle.script_check.specs.Valid.{functions_twice, main_violations, all_function_violations, violations}
use Rattle.script_check.specs.Walk.{IsIndex}
use Rattle.script_check.proofs.LeastViolation.Earliest.{earliest_append}
use Rattle.script_check.proofs.Walk.Reading.{at_index}

abbrev pub or_else : Option ℕ → Option ℕ → Option ℕ
or_else None o = o
or_else (Some k) o = Some k

-- the first of a name where one function stands after the others
pub snoc : (fs : List Function) (f : Function) (q : List ℕ) → first_named (fs ++ f ∷ []) q ≡ or_else (first_named fs q) (if bytes_eq f.name.bytes q then Some (length fs) else None)
snoc [] f q = alone (bytes_eq f.name.bytes q)
  where
    alone : (b : Bool) → cond b (Some 0) (option_map suc (first_named [] q)) ≡ or_else None (cond b (Some 0) None)
    alone true = refl
    alone false = refl
snoc (g ∷ fs) f q = after (bytes_eq g.name.bytes q) (snoc fs f q)
  where
    later : (o : Option ℕ) (b : Bool) → option_map suc (or_else o (cond b (Some (length fs)) None)) ≡ or_else (option_map suc o) (cond b (Some (length (g ∷ fs))) None)
    later None true = refl
    later None false = refl
    later (Some k) b = refl

    after : (b : Bool) → first_named (fs ++ f ∷ []) q ≡ or_else (first_named fs q) (if bytes_eq f.name.bytes q then Some (length fs) else None) →
        cond b (Some 0) (option_map suc (first_named (fs ++ f ∷ []) q)) ≡ or_else (cond b (Some 0) (option_map suc (first_named fs q))) (cond (bytes_eq f.name.bytes q) (Some (length (g ∷ fs))) None)
    after true h = refl
    after false h = ap (option_map suc) h ∙ later (first_named fs q) (bytes_eq f.name.bytes q)

indexed : (fs : List Function) (f : Function) (table : Table ℕ) → IsIndex fs table → IsIndex (fs ++ f ∷ []) (with_first table f.name.bytes (length fs))
indexed fs f table h q =
    ⊎_elim
    (λ s. ap (λ (t : Table ℕ). t.what q) (cond-true (is_some (table.what x)) table _ s) ∙ h q ∙ known (first_named fs q) refl s ∙ sym (snoc fs f q))
    (λ n. ap (λ (t : Table ℕ). t.what q) (cond-false (is_some (table.what x)) table _ n) ∙ ap (λ o. cond (bytes_eq x q) (Some (length fs)) o) (h q) ∙ new (bytes_eq x q) (first_named fs q) (at_new n) ∙ sym (snoc fs f q))
    (cases_Bool (is_some (table.what x)))
  where
    x : List ℕ
    x = f.name.bytes

    at_new : is_some (table.what f.name.bytes) ≡ false → bytes_eq f.name.bytes q ≡ true → is_some (first_named fs q) ≡ false
    at_new n e = ap (λ (o : Option ℕ). is_some o) (sym (h q) ∙ ap table.what (sym ((bytes_decides f.name.bytes q).0 e))) ∙ n

    new : (b : Bool) (o : Option ℕ) → (b ≡ true → is_some o ≡ false) → cond b (Some (length fs)) o ≡ or_else o (cond b (Some (length fs)) None)
    new b None h = refl
    new false (Some k) h = refl
    new true (Some k) h = absurd (true≢false (h refl))

    known : (o : Option ℕ) → first_named fs q ≡ o → is_some (table.what f.name.bytes) ≡ true → o ≡ or_else o (if bytes_eq f.name.bytes q then Some (length fs) else None)
    known (Some k) e s = refl
    known None e s =
        ⊎_elim
        (λ b. absurd (clash (ap (λ (o : Option ℕ). is_some o) (ap table.what ((bytes_decides f.name.bytes q).0 b) ∙ h q ∙ e)) s))
        (λ b. sym (cond-false (bytes_eq f.name.bytes q) (Some (length fs)) None b))
        (cases_Bool (bytes_eq f.name.bytes q))
      where
        clash : is_some (table.what f.name.bytes) ≡ false → is_some (table.what f.name.bytes) ≡ true → ⊥
        clash a b = true≢false (sym b ∙ a)

pub one_indexed : (fs : List Function) (i : ℕ) (f : Function) (table next : Table ℕ) → i < length fs → f ≡ get_or fs i f → IsIndex (take i fs) table →
    next ≡ with_first table f.name.bytes i → IsIndex (take (i + 1) fs) next
one_indexed fs i f table next h e was is q =
    ap (λ (t : Table ℕ). t.what q) (is ∙ ap (with_first table f.name.bytes) (sym (length-take-le i fs (omega arith))))
    ∙ indexed (take i fs) f table was q
    ∙ ap (λ l. first_named l q) (sym (take_more fs i f h ∙ ap (λ g. take i fs ++ g ∷ []) (sym e)))

pub one_twice : (fs : List Function) (i : ℕ) (f : Function) (before now : Option Violation) → i < length fs → f ≡ get_or fs i f →
    now ≡ earliest before (violation_if (is_some (first_named (take i fs) f.name.bytes)) 3 f.name.at) →
    earliest now (functions_twice (take (i + 1) fs) (drop (i + 1) fs)) ≡ earliest before (functions_twice (take i fs) (drop i fs))
one_twice fs i f before now h e n =
    ap (λ o. earliest o (functions_twice (take (i + 1) fs) (drop (i + 1) fs))) n
    ∙ ap (λ l. earliest (earliest before (violation_if (is_some (first_named (take i fs) f.name.bytes)) 3 f.name.at)) (functions_twice l (drop (i + 1) fs))) (take_more fs i f h ∙ ap (λ g. take i fs ++ g ∷ []) (sym e))
    ∙ sym (earliest_append before (violation_if (is_some (first_named (take i fs) f.name.bytes)) 3 f.name.at) (functions_twice (take i fs ++ f ∷ []) (drop (i + 1) fs)))
    ∙ ap (λ l. earliest before (functions_twice (take i fs) l)) (sym (at_index fs i f h e))

-- an index is within the functions
abbrev Below : ℕ → Option ℕ → Type 0
Below n None = Unit {0}
Below n (Some i) = i < n

below : (fs : List Function) (q : List ℕ) → Below (length fs) (first_named fs q)
below [] q = tt
below (f ∷ fs) q = pick (bytes_eq f.name.bytes q) (first_named fs q) (below fs q)
  where
    pick : (b : Bool) (o : Option ℕ) → Below (length fs) o → Below (length (f ∷ fs)) (cond b (Some 0) (option_map suc o))
    pick true o h = omega arith
    pick false None h = tt
    pick false (Some i) h = omega (arith, h)

pub named_within : (fs : List Function) (q : List ℕ) (o : Option ℕ) → o ≡ first_named fs q → IfSome o (λ i. i < length fs)
named_within fs q o e = shown o (subst (Below (length fs)) (sym e) (below fs q))
  where
    shown : (o : Option ℕ) → Below (length fs) o → IfSome o (λ i. i < length fs)
    shown None h = h
    shown (Some i) h = h

-- where there is none it counts as the first
pub number_within : (fs : List Function) (q : List ℕ) (n : ℕ) → n ≡ unwrap_or (first_named fs q) 0 → n ≤ length fs
number_within fs q n e = shown (first_named fs q) (below fs q) e
  where
    shown : (o : Option ℕ) → Below (length fs) o → n ≡ unwrap_or o 0 → n ≤ length fs
    shown None h e = omega (arith, e)
    shown (Some i) h e = omega (arith, h, e)

-- a script without violations has a main
pub has_main : (script : Script) (o : Option ℕ) (n : ℕ) → violations script ≡ [] → o ≡ first_named script.functions main_name → n ≡ unwrap_or o 0 → Some n ≡ first_named script.functions main_name
has_main script o n h e u =
    found o n
    (subst (λ (m : Option ℕ). main_violations (function_at script.functions m) ≡ []) (sym e)
    (nothing_left (main_violations (function_named script.functions main_name)) (all_function_violations script.functions script.functions)
    (nothing_right (functions_twice [] script.functions) (main_violations (function_named script.functions main_name) ++ all_function_violations script.functions script.functions) h)))
    u ∙ e
  where
    found : (o : Option ℕ) (n : ℕ) → main_violations (function_at script.functions o) ≡ [] → n ≡ unwrap_or o 0 → Some n ≡ o
    found None n h u = cc
    found (Some i) n h u = ap (λ (m : ℕ). Some m) u

pub main_within : (fs : List Function) (n : ℕ) → Some n ≡ first_named fs main_name → n < length fs
main_within fs n e = subst (Below (length fs)) (sym e) (below fs main_name)
