use Rattle.std.proofs.Common.{◌≡◌, ℕ, ◌+◌, ◌<◌, ◌≤◌, List, [], ◌∷◌, ◌++◌, length, map, drop, get_or, sym, ap, subst, ◌∙◌, append_assoc, append-nil}
use Rattle.std.proofs.lemmas.List.{drop_all}
use Rattle.script_grammar.specs.declared.tree.Name.{Name}
use Rattle.script_grammar.specs.declared.tree.Param.{Param}
use Rattle.script_check.specs.Slots.{named_in_function, variable_names, with_new_name, with_new_names}
use Rattle.script_check.proofs.FoundSlots.Known.{room-for, room-new}
use Rattle.script_check.proofs.Walk.Reading.{at_index}
use Rattle.script_check.proofs.slots.variables_of.Goals as goal

abbrev names : List Param → List (List ℕ)
names = map (λ (q : Param). q.name.bytes)

one_param : (params : List Param) (i : ℕ) (q : Param) (before next : List (List ℕ)) → i < length params → q ≡ get_or params i q → next ≡ before ++ q.name.bytes ∷ [] →
    names params ≡ before ++ names (drop i params) → names params ≡ next ++ names (drop (i + 1) params)
one_param params i q before next h e is was =
    was ∙ ap (λ l. before ++ names l) (at_index params i q h e)
    ∙ sym (append_assoc before (q.name.bytes ∷ []) (names (drop (i + 1) params)))
    ∙ ap (λ l. l ++ names (drop (i + 1) params)) (sym is)

one_name : (all : List (List ℕ)) (xs : List Name) (i : ℕ) (x : Name) (before next : List (List ℕ)) → i < length xs → x ≡ get_or xs i x → next ≡ with_new_name before x.bytes →
    all ≡ with_new_names before (drop i xs) → all ≡ with_new_names next (drop (i + 1) xs)
one_name all xs i x before next h e is was =
    was ∙ ap (with_new_names before) (at_index xs i x h e) ∙ ap (λ l. with_new_names l (drop (i + 1) xs)) (sym is)

pub with-requires : goal.with-requires
with-requires c =
    let f = c.args.f.now in
    let same : c.as_slice-param-items.result.now ≡ f.params = c.as_slice-param-items.ensures in
    room-for f.params (named_in_function f) c.loop-param.variables c.loop-param.param-index c.loop-param.invariant (subst (λ (l : List Param). c.loop-param.param-index < length l) same c.loop-param-test.true)
    c.requires.few

pub loop-param-preserved : goal.loop-param-preserved
loop-param-preserved c =
    let params = c.args.f.now.params in
    let i = c.loop-param.param-index in
    let q = c.param-item.result in
    let same : c.as_slice-param-items.result.now ≡ params = c.as_slice-param-items.ensures in
    let within : i < length params = subst (λ (l : List Param). i < length l) same c.loop-param-test.true in
    let there : q ≡ get_or params i q = subst (λ (l : List Param). q ≡ get_or l i q) same c.param-item.is in
    one_param params i q c.loop-param.variables c.in_ok-variables.variables within there c.in_ok-variables.ensures c.loop-param.invariant

pub loop-name-init : goal.loop-name-init
loop-name-init c =
    let f = c.args.f.now in
    let same : c.as_slice-param-items.result.now ≡ f.params = c.as_slice-param-items.ensures in
    let past : length f.params ≤ c.loop-param.param-index = subst (λ (l : List Param). length l ≤ c.loop-param.param-index) same c.loop-param-test.false in
    let all : names f.params ≡ c.loop-param.variables =
    c.loop-param.invariant ∙ ap (λ l. c.loop-param.variables ++ names l) (drop_all c.loop-param.param-index f.params past) ∙ append-nil c.loop-param.variables in
    ap (λ l. with_new_names l (named_in_function f)) all ∙ ap (with_new_names c.loop-param.variables) (sym c.requires.named)

pub with_new-requires : goal.with_new-requires
with_new-requires c =
    room-new (variable_names c.args.f.now) c.loop-name.variables c.args.named.now c.loop-name.name-index c.name-item.result c.loop-name-test.true c.name-item.is c.loop-name.invariant c.requires.few

pub loop-name-preserved : goal.loop-name-preserved
loop-name-preserved c =
    one_name (variable_names c.args.f.now) c.args.named.now c.loop-name.name-index c.name-item.result c.loop-name.variables c.in_ok-variables-2.variables c.loop-name-test.true c.name-item.is c.in_ok-variables-2.ensures
    c.loop-name.invariant
