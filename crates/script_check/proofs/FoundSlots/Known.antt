-- Each variable that a function names is one of its variables, and each parameter stands where it is among the parameters.
use Rattle.std.proofs.Common.{◌≡◌, ℕ, suc, ◌+◌, ◌-◌, ◌<◌, ◌≤◌, Bool, true, false, ◌&&◌, cond, List, [], ◌∷◌, ◌++◌, length, drop, get_or, map, Option, Some, None, refl, sym, ap, ◌∙◌, ⊎_elim, append_assoc, append-nil, length-append, arith}
use Rattle.std.specs.Prelude.{is_some, if◌then◌else◌}
use Rattle.std.specs.Str.{bytes_eq}
use Rattle.std.specs.Cmp.Lexicographic.{bytes_decides}
use Rattle.std.proofs.lemmas.List.{length-drop, length-map}
use Rattle.std.proofs.lemmas.Bool.{cases_Bool, cond-true, cond-false, eq-eqb, true≢false}
use Rattle.script_grammar.specs.declared.tree.Name.{Name}
use Rattle.script_grammar.specs.declared.tree.Param.{Param}
use Rattle.script_grammar.specs.declared.tree.Function.{Function}
use Rattle.script_check.specs.declared.findings.Violation.{Violation}
use Rattle.script_check.specs.declared.variable.Variable.{Variable}
use Rattle.script_check.specs.declared.variable.Variable.TheVariants.{Scalar}
use Rattle.script_check.specs.Slots.{agree, named_in_function, slot_in, stand_from, variable_names, with_new_name, with_new_names}
use Rattle.script_check.specs.Rules.{Declared, declaration, most_variables, variable_twice, too_many_variables}
use Rattle.script_check.specs.Statements.{violations_each, judge_all, known_each, context}
use Rattle.script_check.specs.Expressions.{reading_of, wanted}
use Rattle.script_check.specs.Names.{no_names}
use Rattle.script_check.specs.Tables.{no_entries, with_first}
use Rattle.script_check.specs.Valid.{function_violations, known_params, param_violations}
use Rattle.script_check.specs.Violations.{violation_if}
use Rattle.script_check.proofs.FewerPending.Fewer.{nothing_left, nothing_right}
use Rattle.script_check.proofs.Walk.Reading.{at_index}
use Rattle.script_check.proofs.Tables.Indexed.{or_else}
use Rattle.script_check.proofs.Tables.SlotIndex.{slot-snoc}
use Rattle.script_check.proofs.FoundSlots.Named.{each_is}

-- each slot in the first is that in the second
abbrev pub Stays : List (List ℕ) → List (List ℕ) → Type 0
Stays names more = (q : List ℕ) (i : ℕ) → slot_in names q ≡ Some i → slot_in more q ≡ Some i

stays-snoc : (names : List (List ℕ)) (y : List ℕ) → Stays names (names ++ y ∷ [])
stays-snoc names y q i h = slot-snoc names y q ∙ ap (λ o. or_else o (if bytes_eq y q then Some (length names) else None)) h

stays-append : (names more : List (List ℕ)) → Stays names (names ++ more)
stays-append names [] q i h = ap (λ l. slot_in l q) (append-nil names) ∙ h
stays-append names (y ∷ ys) q i h =
    ap (λ l. slot_in l q) (sym (append_assoc names (y ∷ []) ys)) ∙ stays-append (names ++ y ∷ []) ys q i (stays-snoc names y q i h)

-- a new name has the slot at the end
new-slot : (names : List (List ℕ)) (y : List ℕ) → slot_in names y ≡ None → slot_in (names ++ y ∷ []) y ≡ Some (length names)
new-slot names y h =
    slot-snoc names y y
    ∙ ap (λ o. or_else o (if bytes_eq y y then Some (length names) else None)) h
    ∙ cond-true (bytes_eq y y) (Some (length names)) None ((bytes_decides y y).1 refl)

stays-with : (names : List (List ℕ)) (y : List ℕ) → Stays names (with_new_name names y)
stays-with names y q i h = by (is_some (slot_in names y))
  where
    by : (b : Bool) → slot_in (cond b names (names ++ y ∷ [])) q ≡ Some i
    by true = h
    by false = stays-snoc names y q i h

pub stays-each : (names : List (List ℕ)) (xs : List Name) → Stays names (with_new_names names xs)
stays-each names [] q i h = h
stays-each names (x ∷ xs) q i h = stays-each (with_new_name names x.bytes) xs q i (stays-with names x.bytes q i h)

here : (o : Option ℕ) → is_some o ≡ true → (i : ℕ) × (o ≡ Some i)
here None h = absurd (true≢false (sym h))
here (Some i) h = (i, refl)

nothing : (o : Option ℕ) → is_some o ≡ false → o ≡ None
nothing None h = refl
nothing (Some i) h = absurd (true≢false h)

has-new : (names : List (List ℕ)) (y : List ℕ) → (i : ℕ) × (slot_in (with_new_name names y) y ≡ Some i)
has-new names y =
    ⊎_elim
    (λ s. let k = here (slot_in names y) s in (k.0, ap (λ l. slot_in l y) (cond-true (is_some (slot_in names y)) names (names ++ y ∷ []) s) ∙ k.1))
    (λ n. (length names, ap (λ l. slot_in l y) (cond-false (is_some (slot_in names y)) names (names ++ y ∷ []) n) ∙ new-slot names y (nothing (slot_in names y) n)))
    (cases_Bool (is_some (slot_in names y)))

-- each of them is there in the end
pub all-known : (names : List (List ℕ)) (xs : List Name) → each_is (λ x. is_some (slot_in (with_new_names names xs) x.bytes)) xs ≡ true
all-known names xs = from names xs (with_new_names names xs) (λ q i h. h)
  where
    from : (names : List (List ℕ)) (xs : List Name) (all : List (List ℕ)) → Stays (with_new_names names xs) all → each_is (λ x. is_some (slot_in all x.bytes)) xs ≡ true
    from names [] all s = refl
    from names (x ∷ xs) all s =
        let k = has-new names x.bytes in
        let there : slot_in all x.bytes ≡ Some k.0 = s x.bytes k.0 (stays-each (with_new_name names x.bytes) xs x.bytes k.0 k.1) in
        ap (λ o. is_some o && each_is (λ x. is_some (slot_in all x.bytes)) xs) there ∙ from (with_new_name names x.bytes) xs all s

-- Parameters

-- each of these names is declared
abbrev Covers : List (List ℕ) → Declared → Type 0
Covers names known = (q : List ℕ) → is_some (known.what q) ≡ false → slot_in names q ≡ None

covers-more : (names : List (List ℕ)) (known : Declared) (y : List ℕ) (v : Variable) → Covers names known → is_some (known.what y) ≡ false → Covers (names ++ y ∷ []) (with_first known y v)
covers-more names known y v c new p none = by (bytes_eq y p) refl
  where
    now : (with_first known y v).what p ≡ cond (bytes_eq y p) (Some v) (known.what p)
    now = ap (λ (t : Declared). t.what p) (cond-false (is_some (known.what y)) known _ new)

    by : (b : Bool) → bytes_eq y p ≡ b → slot_in (names ++ y ∷ []) p ≡ None
    by true e = absurd (true≢false (sym (ap (λ (o : Option Variable). is_some o) (now ∙ cond-true (bytes_eq y p) (Some v) (known.what p) e)) ∙ none))
    by false e =
        slot-snoc names y p
        ∙ ap (λ o. or_else o (if bytes_eq y p then Some (length names) else None)) (c p (ap (λ (o : Option Variable). is_some o) (sym (now ∙ cond-false (bytes_eq y p) (Some v) (known.what p) e)) ∙ none))
        ∙ cond-false (bytes_eq y p) (Some (length names)) None e

pub not-broken : (b : Bool) (number at : ℕ) → violation_if b number at ≡ [] → b ≡ false
not-broken true number at h = cc
not-broken false number at h = refl

params-stand : (before : List (List ℕ)) (params : List Param) (known : Declared) (names : List (List ℕ)) (i : ℕ) → length before ≡ i →
    Stays (before ++ map (λ q. q.name.bytes) params) names → Covers before known → param_violations params known ≡ [] → stand_from i names params ≡ true
params-stand before [] known names i l s c h = refl
params-stand before (q ∷ params) known names i l s c h =
    let y = q.name.bytes in
    let after = with_first known y (Scalar q.kind) in
    let new : is_some (known.what y) ≡ false =
    not-broken (is_some (known.what y)) 4 q.name.at (nothing_left (variable_twice known q.name) (too_many_variables known q.name) (nothing_left (declaration known q.name) (param_violations params after) h)) in
    let rest : before ++ map (λ q. q.name.bytes) (q ∷ params) ≡ (before ++ y ∷ []) ++ map (λ q. q.name.bytes) params = sym (append_assoc before (y ∷ []) (map (λ q. q.name.bytes) params)) in
    let placed : slot_in (before ++ y ∷ []) y ≡ Some (length before) = new-slot before y (c y new) in
    let there : slot_in names y ≡ Some i =
    s y i (ap (λ l. slot_in l y) rest ∙ stays-append (before ++ y ∷ []) (map (λ q. q.name.bytes) params) y i (placed ∙ ap (λ (n : ℕ). Some n) l)) in
    ap (λ o. agree (Some i) o && stand_from (suc i) names params) there
    ∙ ap (λ b. b && stand_from (suc i) names params) (eq-eqb i i refl)
    ∙ params-stand (before ++ y ∷ []) params after names (suc i) (length-append before (y ∷ []) ∙ omega (arith, l))
    (λ p k e. s p k (ap (λ l. slot_in l p) rest ∙ e))
    (covers-more before known y (Scalar q.kind) c new)
    (nothing_right (declaration known q.name) (param_violations params after) h)

pub function-stands : (functions : List Function) (f : Function) → function_violations functions f ≡ [] → stand_from 0 (variable_names f) f.params ≡ true
function-stands functions f h =
    let known : Declared = known_params f.params no_entries in
    let params : List Violation = param_violations f.params no_entries in
    let body : List Violation = violations_each (judge_all f.body) (context functions false) known no_names in
    let last : List Violation = wanted f.answer (reading_of f.result) (known_each (judge_all f.body) functions known) no_names in
    params-stand [] f.params no_entries (variable_names f) 0 refl (stays-each (map (λ q. q.name.bytes) f.params) (named_in_function f)) (λ q n. refl)
    (nothing_left params body (nothing_left (params ++ body) last h))

-- The names only become more

long-one : (names : List (List ℕ)) (y : List ℕ) → length names ≤ length (with_new_name names y)
long-one names y = by (is_some (slot_in names y))
  where
    by : (b : Bool) → length names ≤ length (cond b names (names ++ y ∷ []))
    by true = omega arith
    by false = let long : length (names ++ y ∷ []) ≡ length names + 1 = length-append names (y ∷ []) in omega (arith, long)

pub long-each : (names : List (List ℕ)) (xs : List Name) → length names ≤ length (with_new_names names xs)
long-each names [] = omega arith
long-each names (x ∷ xs) = let one = long-one names x.bytes in let more = long-each (with_new_name names x.bytes) xs in omega (arith, one, more)

-- there is room for a parameter, and for a name that is new
pub room-for : (params : List Param) (xs : List Name) (names : List (List ℕ)) (i : ℕ) → map (λ q. q.name.bytes) params ≡ names ++ map (λ q. q.name.bytes) (drop i params) → i < length params →
    length (with_new_names (map (λ q. q.name.bytes) params) xs) ≤ most_variables → length names < most_variables
room-for params xs names i e h few =
    let rest = map (λ (q : Param). q.name.bytes) (drop i params) in
    let all : length (map (λ (q : Param). q.name.bytes) params) ≡ length params = length-map params (λ (q : Param). q.name.bytes) in
    let left : length rest ≡ length (drop i params) = length-map (drop i params) (λ (q : Param). q.name.bytes) in
    let dropped : length (drop i params) ≡ length params - i = length-drop i params in
    let both : length (map (λ (q : Param). q.name.bytes) params) ≡ length names + length rest = ap length e ∙ length-append names rest in
    let more = long-each (map (λ (q : Param). q.name.bytes) params) xs in
    omega (arith, all, left, dropped, both, more, few, h)

pub room-new : (all names : List (List ℕ)) (xs : List Name) (i : ℕ) (x : Name) → i < length xs → x ≡ get_or xs i x → all ≡ with_new_names names (drop i xs) → length all ≤ most_variables →
    length (with_new_name names x.bytes) ≤ most_variables
room-new all names xs i x h is e few =
    let next : drop i xs ≡ x ∷ drop (i + 1) xs = at_index xs i x h is in
    let long : length all ≡ length (with_new_names (with_new_name names x.bytes) (drop (i + 1) xs)) = ap length (e ∙ ap (with_new_names names) next) in
    let more = long-each (with_new_name names x.bytes) (drop (i + 1) xs) in
    omega (arith, long, more, few)
