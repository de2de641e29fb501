-- Each name by which a valid script calls a function is a function's.
use Rattle.std.proofs.Common.{◌≡◌, ℕ, suc, Bool, true, false, List, [], ◌∷◌, ◌++◌, get_or, Option, Some, None, refl, sym, ap, ◌∙◌}
use Rattle.std.specs.Prelude.{is_some, option_map, slice_get, if◌then◌else◌}
use Rattle.std.specs.Str.{bytes_eq}
use Rattle.std.proofs.lemmas.Bool.{eqb-true, true≢false}
use Rattle.std.proofs.lemmas.Option.{get_or_from_slice_get}
use Rattle.script_grammar.specs.declared.tree.Kind.TheVariants.{Int}
use Rattle.script_grammar.specs.declared.tree.Name.{Name}
use Rattle.script_grammar.specs.declared.tree.CallText.{CallText}
use Rattle.script_grammar.specs.declared.tree.Function.{Function}
use Rattle.script_grammar.specs.declared.tree.Right.{Right}
use Rattle.script_grammar.specs.declared.tree.Right.TheVariants as right
use Rattle.script_grammar.specs.declared.tree.Stmt.{Stmt}
use Rattle.script_grammar.specs.declared.tree.Act.{Act, map-Act}
use Rattle.script_grammar.specs.declared.tree.Act.TheOpen as act
use Rattle.script_grammar.specs.declared.tree.Act.TheOpen.{Act-F}
use Rattle.script_check.specs.declared.findings.Violation.{Violation}
use Rattle.script_check.specs.Expressions.{reading_of, two_wanted, wanted}
use Rattle.script_check.specs.Functions.{first_named, function_at, function_named}
use Rattle.script_check.specs.Names.{NameSet, union, no_names}
use Rattle.script_check.specs.Slots.{agree, called_in, called_in_act, called_in_block, called_in_right, called_in_statement, finds_callee, function_names, slot_in, table_of_callees}
use Rattle.script_check.specs.Rules.{Declared, declaration, kind_of_variable, let_in_a_block, scalar_use, unknown_function}
use Rattle.script_check.specs.Statements.{Context, Judged, after, arguments, block_violations, call_of, context, judge, judge_all, known_each, loop_call_of, read_right, target_use, violations_each, wanted_as}
use Rattle.script_check.specs.Tables.{no_entries}
use Rattle.script_check.specs.Valid.{all_function_violations, function_violations, known_params, param_violations}
use Rattle.script_check.proofs.FewerPending.Fewer.{nothing_left, nothing_right}
use Rattle.script_check.proofs.FewerPending.Induction.{Each, Inside, induct, induct_each, judge_open}
use Rattle.script_check.proofs.FoundSlots.Called.{called_open, called_what}
use Rattle.script_check.proofs.FoundSlots.Few.{inside, told}
use Rattle.script_check.proofs.FoundSlots.Known.{not-broken}
use Rattle.script_check.proofs.FoundSlots.Named.{each_is, each-true, true-both}
use Rattle.script_check.proofs.FoundSlots.Reads.{wanted-as-left}
use Rattle.script_check.proofs.Tables.SlotIndex.{slot-cons}

-- the first function of a name is the first of its name
pub first-slot : (fs : List Function) (q : List ℕ) → first_named fs q ≡ slot_in (function_names fs) q
first-slot [] q = refl
first-slot (f ∷ fs) q = ap (λ o. if bytes_eq f.name.bytes q then Some 0 else option_map suc o) (first-slot fs q) ∙ sym (slot-cons f.name.bytes (function_names fs) q)

-- the number that is found is that of the first function of the name
pub called-number : (functions : List Function) (table : List ℕ) (x : Name) (number : ℕ) → table ≡ table_of_callees functions → finds_callee functions x ≡ true →
    number ≡ get_or table x.at 0 → Some number ≡ first_named functions x.bytes
called-number functions table x number e finds is =
    let k = both-have (slice_get (table_of_callees functions) x.at) (slot_in (function_names functions) x.bytes) finds in
    ap (λ (n : ℕ). Some n) (is ∙ ap (λ t. get_or t x.at 0) e ∙ get_or_from_slice_get (table_of_callees functions) x.at k.0 0 k.1.0) ∙ sym k.1.1 ∙ sym (first-slot functions x.bytes)
  where
    both-have : (o slot : Option ℕ) → agree o slot ≡ true → (i : ℕ) × ((o ≡ Some i) × (slot ≡ Some i))
    both-have None slot h = absurd (true≢false (sym h))
    both-have (Some i) None h = absurd (true≢false (sym h))
    both-have (Some i) (Some j) h = (i, (refl, ap (λ (n : ℕ). Some n) (sym (eqb-true i j h))))

-- each of these names is a function's
abbrev AreFunctions : List Function → List Name → Type 0
AreFunctions functions xs = each_is (λ x. is_some (slot_in (function_names functions) x.bytes)) xs ≡ true

functions-append : (functions : List Function) (xs ys : List Name) → AreFunctions functions xs → AreFunctions functions ys → AreFunctions functions (xs ++ ys)
functions-append functions = each-true (λ x. is_some (slot_in (function_names functions) x.bytes))

-- One call

found-at : (fs : List Function) (o : Option ℕ) → is_some (function_at fs o) ≡ true → is_some o ≡ true
found-at fs None h = h
found-at fs (Some i) h = refl

a-function : (functions : List Function) (c : CallText) → is_some (function_named functions c.name.bytes) ≡ true → AreFunctions functions (c.name ∷ [])
a-function functions c h =
    true-both (is_some (slot_in (function_names functions) c.name.bytes)) true
    (ap (λ (o : Option ℕ). is_some o) (sym (first-slot functions c.name.bytes)) ∙ found-at functions (first_named functions c.name.bytes) h) refl

no-function : {A : Type 0} (c : CallText) (known : Declared) (p : NameSet) → unknown_function c.name ++ arguments [] c.args known p ≡ [] → A
no-function c known p h = absurd (true≢false (not-broken true 5 c.name.at (nothing_left (unknown_function c.name) (arguments [] c.args known p) h)))

call-there : (o : Option Function) (c : CallText) (known : Declared) (p : NameSet) → call_of o c known p ≡ [] → is_some o ≡ true
call-there None c known p h = no-function c known p h
call-there (Some f) c known p h = refl

loop-call-there : (o : Option Function) (has_target : Bool) (c : CallText) (known : Declared) (p : NameSet) → loop_call_of o has_target c known p ≡ [] → is_some o ≡ true
loop-call-there None has_target c known p h = no-function c known p h
loop-call-there (Some f) has_target c known p h = refl

a-call : (functions : List Function) (c : CallText) (known : Declared) (p : NameSet) → call_of (function_named functions c.name.bytes) c known p ≡ [] → AreFunctions functions (c.name ∷ [])
a-call functions c known p h = a-function functions c (call-there (function_named functions c.name.bytes) c known p h)

a-right : (functions : List Function) (r : Right) (known : Declared) (p : NameSet) → (read_right functions r).violations known p ≡ [] → AreFunctions functions (called_in_right r)
a-right functions (right.Value e) known p h = refl
a-right functions (right.Draw at) known p h = refl
a-right functions (right.New at) known p h = refl
a-right functions (right.Call at c) known p h = a-call functions c known p h
a-right functions (right.Spawn at c) known p h = a-call functions c known p h

-- Statements

abbrev CallsFunctions : Stmt → Type 0
CallsFunctions s = (at : Context) (known : Declared) (p : NameSet) → (judge s).violations at known p ≡ [] → AreFunctions at.functions (called_in_statement s)

a-block : (ss : List Stmt) → Each CallsFunctions ss → (at : Context) (known : Declared) (p : NameSet) → violations_each (judge_all ss) at known p ≡ [] → AreFunctions at.functions (called_in_block ss)
a-block [] g at known p h = refl
a-block (s ∷ ss) g at known p h =
    let next = (judge s).known at.functions known in
    let here = (judge s).violations at known p in
    let rest = violations_each (judge_all ss) at next ((judge s).after p) in
    functions-append at.functions (called_in_statement s) (called_in_block ss) (g.0 at known p (nothing_left here rest h)) (a-block ss g.1 at next ((judge s).after p) (nothing_right here rest h))

a-stmt : (n : ℕ) (d : Act-F Act Stmt) → Inside CallsFunctions d → (at : Context) (known : Declared) (p : NameSet) →
    (told d n).violations at known p ≡ [] → AreFunctions at.functions (called_in_act (map-Act Act Stmt (List Name) (List Name) called_what called_in_statement d))
a-stmt n (act.Let x r) g at known p h =
    let first = let_in_a_block at.in_block n in
    let right = (read_right at.functions r).violations known p in
    a-right at.functions r known p (nothing_right first right (nothing_left (first ++ right) (declaration known x) h))
a-stmt n (act.Array x m) g at known p h = refl
a-stmt n (act.Set x r) g at known p h =
    let kind = kind_of_variable (known.what x.bytes) in
    let right = read_right at.functions r in
    a-right at.functions r known p (wanted-as-left kind right known p (nothing_right (scalar_use (known.what x.bytes) p x) (wanted_as kind right known p) h))
a-stmt n (act.Store x i e) g at known p h = refl
a-stmt n (act.Spawn c) g at known p h = a-call at.functions c known p h
a-stmt n (act.Call c) g at known p h = a-call at.functions c known p h
a-stmt n act.Sync g at known p h = refl
a-stmt n (act.Print e) g at known p h = refl
a-stmt n (act.If e a b) g at known p h =
    let test = wanted Int (reading_of e) known p in
    let one = block_violations (judge_all a) at known p in
    let after_one = known_each (judge_all a) at.functions known in
    let two = block_violations (judge_all b) at after_one p in
    functions-append at.functions (called_in_block a) (called_in_block b)
    (a-block a g.0 (inside at) known p (nothing_right test one (nothing_left (test ++ one) two h)))
    (a-block b g.1 (inside at) after_one p (nothing_right (test ++ one) two h))
a-stmt n (act.While e a) g at known p h =
    let q : NameSet = union p (after a p) in
    a-block a g (inside at) known q (nothing_right (wanted Int (reading_of e) known q) (block_violations (judge_all a) at known q) h)
a-stmt n (act.Pfor x lo hi target c) g at known p h =
    let bounds = two_wanted Int (reading_of lo) (reading_of hi) known p in
    let into = target_use target known p in
    let f = function_named at.functions c.name.bytes in
    a-function at.functions c (loop-call-there f (is_some target) c known p (nothing_right (bounds ++ into) (loop_call_of f (is_some target) c known p) h))
a-stmt n (act.Scope a) g at known p h = a-block a g (inside at) known p h

each-stmt : (s : Stmt) → CallsFunctions s
each-stmt =
    induct CallsFunctions (λ n d g at known p h.
    ap (each_is (λ x. is_some (slot_in (function_names at.functions) x.bytes))) (called_open n d)
    ∙ a-stmt n d g at known p (ap (λ (j : Judged). j.violations at known p) (sym (judge_open n d)) ∙ h))

calls-functions : (functions : List Function) (f : Function) → function_violations functions f ≡ [] → AreFunctions functions (called_in_block f.body)
calls-functions functions f h =
    let known : Declared = known_params f.params no_entries in
    let params : List Violation = param_violations f.params no_entries in
    let body : List Violation = violations_each (judge_all f.body) (context functions false) known no_names in
    let last : List Violation = wanted f.answer (reading_of f.result) (known_each (judge_all f.body) functions known) no_names in
    a-block f.body (induct_each CallsFunctions each-stmt f.body) (context functions false) known no_names (nothing_right params body (nothing_left (params ++ body) last h))

pub call-functions : (functions fs : List Function) → all_function_violations functions fs ≡ [] → AreFunctions functions (called_in fs)
call-functions functions [] h = refl
call-functions functions (f ∷ fs) h =
    let here = function_violations functions f in
    let rest = all_function_violations functions fs in
    functions-append functions (called_in_block f.body) (called_in fs) (calls-functions functions f (nothing_left here rest h)) (call-functions functions fs (nothing_right here rest h))
