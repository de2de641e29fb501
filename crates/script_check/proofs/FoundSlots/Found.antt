-- The tables that are made of a valid script's text have the slot of each variable that it names, and the number of each function that it calls.
use Rattle.std.proofs.Common.{◌≡◌, ℕ, true, ◌&&◌, List, [], ◌∷◌, ◌++◌, length, map, refl, sym, ap, subst, ◌∙◌, append_assoc, append-nil}
use Rattle.script_grammar.specs.declared.tree.Function.{Function}
use Rattle.script_check.specs.Laws.{SlotsAreFound}
use Rattle.script_check.specs.Functions.{function_named, main_name}
use Rattle.script_check.specs.Slots.{all_true, called_in, called_in_block, every_in, every_in_block, finds_callee, finds_in, function_names, has_slot, joined, named_in_function, stand_from, variable_names, with_functions, with_entries}
use Rattle.script_check.specs.Valid.{all_function_violations, function_violations, functions_twice, main_violations}
use Rattle.script_check.proofs.FewerPending.Fewer.{nothing_left, nothing_right}
use Rattle.script_check.proofs.FoundSlots.Callees.{call-functions}
use Rattle.script_check.proofs.FoundSlots.Every.{function-every}
use Rattle.script_check.proofs.FoundSlots.Known.{all-known, function-stands}
use Rattle.script_check.proofs.FoundSlots.Named.{each_is, each-parts, true-both}
use Rattle.script_check.proofs.FoundSlots.Filled.{found, found-append, longer, rises-after, rises-front}
use Rattle.script_check.proofs.FoundSlots.Rising.{Rises, calls-rise, script-rises}

-- later functions only add to the table
all-longer : (table : List ℕ) (fs : List Function) → (more : List ℕ) × (with_functions table fs ≡ table ++ more)
all-longer table [] = ([], sym (append-nil table))
all-longer table (f ∷ fs) =
    let k = longer (variable_names f) table (named_in_function f) in
    let l = all-longer (with_entries (variable_names f) table (named_in_function f)) fs in
    (k.0 ++ l.0, l.1 ∙ ap (λ t. t ++ l.0) k.1 ∙ append_assoc table k.0 l.0)

one-found : (functions : List Function) (f : Function) (table : List ℕ) → stand_from 0 (variable_names f) f.params ≡ true → each_is (has_slot table (variable_names f)) (named_in_function f) ≡ true →
    each_is (finds_callee functions) (called_in_block f.body) ≡ true → finds_in table functions f ≡ true
one-found functions f table stands each calls =
    let has = has_slot table (variable_names f) in
    let finds = finds_callee functions in
    true-both (stand_from 0 (variable_names f) f.params) (every_in_block has finds f.body && every_in has f.result) stands (function-every has finds f each calls)

all-found : (functions : List Function) (table : List ℕ) (fs : List Function) → Rises (length table) (joined (map named_in_function fs)) → all_function_violations functions fs ≡ [] →
    each_is (finds_callee functions) (called_in fs) ≡ true → all_true (map (finds_in (with_functions table fs) functions) fs) ≡ true
all-found functions table [] r h calls = refl
all-found functions table (f ∷ fs) r h calls =
    let names = variable_names f in
    let xs = named_in_function f in
    let ys = joined (map named_in_function fs) in
    let next = with_entries names table xs in
    let k = all-longer next fs in
    let called = each-parts (finds_callee functions) (called_in_block f.body) (called_in fs) calls in
    let here = found names table xs (rises-front (length table) xs ys r) (all-known (map (λ q. q.name.bytes) f.params) xs) in
    let later : each_is (has_slot (with_functions next fs) names) xs ≡ true =
    subst (λ t. each_is (has_slot t names) xs ≡ true) (sym k.1) (found-append names next k.0 xs here) in
    true-both (finds_in (with_functions next fs) functions f) (all_true (map (finds_in (with_functions next fs) functions) fs))
    (one-found functions f (with_functions next fs) (function-stands functions f (nothing_left (function_violations functions f) (all_function_violations functions fs) h)) later called.0)
    (all-found functions next fs (rises-after names table xs ys r) (nothing_right (function_violations functions f) (all_function_violations functions fs) h) called.1)

pub slots_are_found : SlotsAreFound
slots_are_found script is valid =
    let functions = script.functions in
    let none : all_function_violations functions functions ≡ [] =
    nothing_right (main_violations (function_named functions main_name)) (all_function_violations functions functions)
    (nothing_right (functions_twice [] functions) (main_violations (function_named functions main_name) ++ all_function_violations functions functions) valid) in
    all-found functions [] functions (script-rises script is) none (found (function_names functions) [] (called_in functions) (calls-rise script is) (call-functions functions functions none))
