use Rattle.std.proofs.Common.{◌≡◌, ℕ, ◌+◌, ◌<◌, ◌≤◌, List, [], ◌∷◌, ◌++◌, length, drop, get_or, sym, ap, subst, ◌∙◌, append_assoc, rules}
use Rattle.std.proofs.lemmas.List.Elements.{All-get_or}
use Rattle.script_grammar.specs.declared.tree.Function.{Function}
use Rattle.script_check.specs.Slots.{each_names, named_in_function, variable_names, with_functions, with_entries}
use Rattle.script_check.specs.Rules.{most_variables}
use Rattle.script_check.proofs.Walk.Reading.{at_index}
use Rattle.script_check.proofs.slots.slots.Goals as goal

one_named : (all : List (List (List ℕ))) (fs : List Function) (i : ℕ) (f : Function) (each next : List (List (List ℕ))) → i < length fs → f ≡ get_or fs i f →
    next ≡ each ++ variable_names f ∷ [] → all ≡ each ++ each_names (drop i fs) → all ≡ next ++ each_names (drop (i + 1) fs)
one_named all fs i f each next h e is was =
    was ∙ ap (λ l. each ++ each_names l) (at_index fs i f h e)
    ∙ sym (append_assoc each (variable_names f ∷ []) (each_names (drop (i + 1) fs)))
    ∙ ap (λ l. l ++ each_names (drop (i + 1) fs)) (sym is)

one_placed : (all : List ℕ) (fs : List Function) (i : ℕ) (f : Function) (table next : List ℕ) → i < length fs → f ≡ get_or fs i f →
    next ≡ with_entries (variable_names f) table (named_in_function f) → all ≡ with_functions table (drop i fs) → all ≡ with_functions next (drop (i + 1) fs)
one_placed all fs i f table next h e is was =
    was ∙ ap (with_functions table) (at_index fs i f h e) ∙ ap (λ t. with_functions t (drop (i + 1) fs)) (sym is)

pub variables_of-requires : goal.variables_of-requires
variables_of-requires c =
    let fs = c.args.functions.now in
    let f = c.f-item.result in
    let named : c.as_slice.result.now ≡ named_in_function f = search rules in
    let few : length (variable_names f) ≤ most_variables =
    subst (λ (g : Function). length (variable_names g) ≤ most_variables) (sym c.f-item.is) (All-get_or (λ (g : Function). length (variable_names g) ≤ most_variables) fs c.loop-f.f-index f c.loop-f-test.true c.requires) in
    record { named = named; few = few }

pub loop-f-preserved : goal.loop-f-preserved
loop-f-preserved c =
    let fs = c.args.functions.now in
    let f = c.f-item.result in
    let i = c.loop-f.f-index in
    let each : c.push.new.self.items ≡ c.loop-f.each.items ++ variable_names f ∷ [] = search rules in
    let table : c.put_each.new.table.items ≡ with_entries (variable_names f) c.loop-f.table.items (named_in_function f) = search rules in
    record {
      names = one_named (each_names fs) fs i f c.loop-f.each.items c.push.new.self.items c.loop-f-test.true c.f-item.is each c.loop-f.invariant.names;
      slots = one_placed (with_functions [] fs) fs i f c.loop-f.table.items c.put_each.new.table.items c.loop-f-test.true c.f-item.is table c.loop-f.invariant.slots;
    }
