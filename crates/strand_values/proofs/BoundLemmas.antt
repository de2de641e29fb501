-- Parameters and their arguments.
use Rattle.std.proofs.Common.{◌≡◌, ℕ, zero, suc, ◌+◌, ◌<◌, ◌≤◌, min, Bool, true, false, cond, List, [], ◌∷◌, ◌++◌, Option, Some, None, Result, Ok, Err, length, get_or, drop, append_assoc, append-nil, refl, sym, ap, ◌∙◌, arith, if◌then◌else◌, eqb-true}
use Rattle.std.specs.Str.{bytes_eq}
use Rattle.std.specs.Cmp.Lexicographic.{bytes_decides}
use Rattle.std.proofs.lemmas.Bool.{and_parts, cond-false, false≢true, false_from_ne_true}
use Rattle.std.proofs.lemmas.List.{drop_all, drop_more}
use Rattle.std.proofs.lemmas.Option.{none-some, same_Some}
use Rattle.script_grammar.specs.declared.tree.Expr.{Expr}
use Rattle.script_grammar.specs.declared.tree.Param.{Param}
use Rattle.script_check.specs.Slots.{agree, slot_in, stand_from}
use Rattle.serial_meaning.specs.Runs.{◌>>=◌}
use Rattle.serial_meaning.specs.Values.{Val, Env, content_of, value_of, values_of}
use Rattle.serial_meaning.specs.Exec.{bound, with_content}
use Rattle.serial_meaning.specs.declared.event.FaultKind.{FaultKind}
use Rattle.serial_meaning.specs.declared.environment.Content.{Content}
use Rattle.serial_meaning.specs.declared.environment.Content.TheVariants.{Scalar}
use Rattle.serial_meaning.specs.declared.environment.Variable.{Variable}
use Rattle.serial_meaning.specs.declared.value.Value.{Value}
use Rattle.strand_values.specs.Changes.{called_with}
use Rattle.strand_values.specs.Environments.{EnvironmentView, IsOwnSlot, with_variables, with_optional_content}
use Rattle.strand_values.specs.Gives.{Calculates}
use Rattle.strand_values.specs.declared.evaluation_error.EvaluationError.{EvaluationError}
use Rattle.strand_values.specs.declared.evaluation_error.EvaluationError.TheVariants as error
use Rattle.strand_values.proofs.Filled.{is_slot}
use Rattle.strand_values.proofs.ValueLemmas.{bound_to_none}

-- Parameters have their slots

param_at : (ps : List Param) (i : ℕ) → i < length ps → (p : Param) × (p ≡ get_or ps i p)
param_at [] i h = absurd (omega arith)
param_at (q ∷ ps) zero h = (q, refl)
param_at (q ∷ ps) (suc i) h = param_at ps i (omega arith)

agrees : (k : ℕ) (o : Option ℕ) → agree (Some k) o ≡ true → o ≡ Some k
agrees k None h = absurd (false≢true h)
agrees k (Some j) h = ap Some (sym (eqb-true k j h))

stands_from : (k : ℕ) (names : List (List ℕ)) (ps : List Param) → stand_from k names ps ≡ true → (i : ℕ) (p : Param) → i < length ps → p ≡ get_or ps i p → (n : ℕ) → n ≡ k + i →
    slot_in names p.name.bytes ≡ Some n
stands_from k names [] h i p l e n at = absurd (omega arith)
stands_from k names (q ∷ ps) h zero p l e n at =
    let first = and_parts (agree (Some k) (slot_in names q.name.bytes)) (stand_from (suc k) names ps) h in
    let here : k ≡ n = omega (arith, at) in
    ap (λ (r : Param). slot_in names r.name.bytes) e ∙ agrees k (slot_in names q.name.bytes) first.0 ∙ ap Some here
stands_from k names (q ∷ ps) h (suc i) p l e n at =
    let first = and_parts (agree (Some k) (slot_in names q.name.bytes)) (stand_from (suc k) names ps) h in
    stands_from (suc k) names ps first.1 i p (omega arith) e n (omega (arith, at))

stands_at : (names : List (List ℕ)) (ps : List Param) → stand_from 0 names ps ≡ true → (i : ℕ) (p : Param) → i < length ps → p ≡ get_or ps i p → slot_in names p.name.bytes ≡ Some i
stands_at names ps h i p l e = stands_from 0 names ps h i p l e i (omega arith)

-- A variable that wasn't there stands at the end

set_new : (vs : Env) (name : List ℕ) (s : Content) → content_of vs name ≡ None → with_content vs name s ≡ vs ++ record { name = name; content = s } ∷ []
set_new [] name s h = refl
set_new (v ∷ vs) name s h = by (set_new vs name s) (bytes_eq v.name name) refl h
  where
    by : (content_of vs name ≡ None → with_content vs name s ≡ vs ++ record { name = name; content = s } ∷ []) → (b : Bool) → bytes_eq v.name name ≡ b → cond b (Some v.content) (content_of vs name) ≡ None → with_content (v ∷ vs) name s ≡ v ∷ (vs ++ record { name = name; content = s } ∷ [])
    by rest true e h = absurd (none-some v.content (sym h))
    by rest false e h = cond-false (bytes_eq v.name name) _ _ e ∙ ap (λ (l : Env). v ∷ l) (rest h)

content_past : (vs : Env) (name other : List ℕ) (s : Content) → bytes_eq name other ≡ false → content_of (vs ++ record { name = name; content = s } ∷ []) other ≡ content_of vs other
content_past [] name other s n = cond-false (bytes_eq name other) _ _ n
content_past (v ∷ vs) name other s n = ap (λ (o : Option Content). if bytes_eq v.name other then Some v.content else o) (content_past vs name other s n)

-- no variable of a slot from this one on is there
abbrev NoneFrom : ℕ → List (List ℕ) → Env → Type 0
NoneFrom i names vs = (j : ℕ) (name : List ℕ) → i ≤ j → slot_in names name ≡ Some j → content_of vs name ≡ None

module _ (names : List (List ℕ)) (i : ℕ) (vs : Env) (none : NoneFrom i names vs) (name : List ℕ) (at : slot_in names name ≡ Some i) (s : Content) where
  put_new : with_content vs name s ≡ vs ++ record { name = name; content = s } ∷ []
  put_new = set_new vs name s (none i name (omega arith) at)

  none_after : NoneFrom (i + 1) names (with_content vs name s)
  none_after j other h there = ap (λ (l : Env). content_of l other) put_new ∙ content_past vs name other s apart ∙ none j other (omega arith) there
    where
      apart : bytes_eq name other ≡ false
      apart =
          false_from_ne_true (bytes_eq name other) (λ e.
          let same : i ≡ j = same_Some i j (sym at ∙ ap (λ (n : List ℕ). slot_in names n) ((bytes_decides name other).0 e) ∙ there) in
          absurd (omega (arith, same)))

-- Parameters with values

bound_step : (i : ℕ) (ps : List Param) (vs : List Value) (p : Param) (v : Value) → i < length ps → i < length vs → p ≡ get_or ps i p → v ≡ get_or vs i v →
    bound (drop i ps) (drop i vs) ≡ record { name = p.name.bytes; content = Scalar v } ∷ bound (drop (suc i) ps) (drop (suc i) vs)
bound_step i [] vs p v h k e f = absurd (omega arith)
bound_step i (q ∷ ps) [] p v h k e f = absurd (omega arith)
bound_step zero (q ∷ ps) (w ∷ vs) p v h k e f =
    ap (λ (x : Param). let first : Variable = record { name = x.name.bytes; content = Scalar w } in first ∷ bound ps vs) (sym e)
    ∙ ap (λ (x : Value). let first : Variable = record { name = p.name.bytes; content = Scalar x } in first ∷ bound ps vs) (sym f)
bound_step (suc i) (q ∷ ps) (w ∷ vs) p v h k e f = bound_step i ps vs p v (omega arith) (omega arith) e f

bound_done : (i : ℕ) (ps : List Param) (vs : List Value) → min (length ps) (length vs) ≤ i → bound (drop i ps) (drop i vs) ≡ []
bound_done zero [] vs h = refl
bound_done (suc i) [] vs h = refl
bound_done zero (p ∷ ps) [] h = refl
bound_done (suc i) (p ∷ ps) [] h = bound_to_none (drop i ps)
bound_done zero (p ∷ ps) (v ∷ vs) h = absurd (omega arith)
bound_done (suc i) (p ∷ ps) (v ∷ vs) h = bound_done i ps vs (omega arith)

-- the first parameters have their values
pub record IsBound (names : List (List ℕ)) (ps : List Param) (vs : List Value) (i : ℕ) (env : EnvironmentView) : Type 0 where
  pub names_are : env.names ≡ names
  pub none : NoneFrom i names env.variables
  pub rest : bound ps vs ≡ env.variables ++ bound (drop i ps) (drop i vs)

-- what putting something into the next slot makes of an environment
abbrev pub Puts : EnvironmentView → ℕ → Option Content → EnvironmentView → Type 0
Puts old i o new = (name : List ℕ) → slot_in old.names name ≡ Some i → new ≡ with_variables old (with_optional_content old.variables name o)

module _ (names : List (List ℕ)) (ps : List Param) (stand : stand_from 0 names ps ≡ true) (i : ℕ) (old : EnvironmentView) (names_are : old.names ≡ names) (none : NoneFrom i names old.variables) (here : i < length ps) where
  slot_there : (p : Param) → p ≡ get_or ps i p → slot_in old.names p.name.bytes ≡ Some i
  slot_there p e = ap (λ (ns : List (List ℕ)). slot_in ns p.name.bytes) names_are ∙ stands_at names ps stand i p here e

  module _ (o : Option Content) (s : Content) (is : o ≡ Some s) (new : EnvironmentView) (puts : Puts old i o new) (p : Param) (e : p ≡ get_or ps i p) where
    new_is : new ≡ with_variables old (with_content old.variables p.name.bytes s)
    new_is = puts p.name.bytes (slot_there p e) ∙ ap (λ (t : Option Content). with_variables old (with_optional_content old.variables p.name.bytes t)) is

    names_kept : new.names ≡ names
    names_kept = ap (λ (w : EnvironmentView). w.names) new_is ∙ names_are

    none_kept : NoneFrom (i + 1) names new.variables
    none_kept j other h there =
        ap (λ (w : EnvironmentView). content_of w.variables other) new_is
        ∙ none_after names i old.variables none p.name.bytes (stands_at names ps stand i p here e) s j other h there

    pub put_last : new.variables ≡ old.variables ++ record { name = p.name.bytes; content = s } ∷ []
    put_last = ap (λ (w : EnvironmentView). w.variables) new_is ∙ put_new names i old.variables none p.name.bytes (stands_at names ps stand i p here e) s

-- so the next slot is that of its own name
pub slot_for : (names : List (List ℕ)) (ps : List Param) (i : ℕ) (old : EnvironmentView) → stand_from 0 names ps ≡ true → old.names ≡ names → i < length ps → IsOwnSlot old.names i
slot_for names ps i old stand e h =
    let q = param_at ps i h in
    is_slot old.names q.0.name.bytes i (ap (λ (ns : List (List ℕ)). slot_in ns q.0.name.bytes) e ∙ stands_at names ps stand i q.0 h q.1)

pub bound-begins : (names : List (List ℕ)) (ps : List Param) (vs : List Value) (env : EnvironmentView) → env ≡ record { names = names; variables = [] } → IsBound names ps vs 0 env
bound-begins names ps vs env e = record {
  names_are = ap (λ (w : EnvironmentView). w.names) e;
  none = λ j name h there. ap (λ (w : EnvironmentView). content_of w.variables name) e;
  rest = sym (ap (λ (w : EnvironmentView). w.variables ++ bound ps vs) e);
}

pub bound-more : (names : List (List ℕ)) (ps : List Param) (vs : List Value) (i : ℕ) (old new : EnvironmentView) (o : Option Content) (v : Value) → stand_from 0 names ps ≡ true → IsBound names ps vs i old →
    i < length ps → i < length vs → v ≡ get_or vs i v → o ≡ Some (Scalar v) → Puts old i o new → IsBound names ps vs (i + 1) new
bound-more names ps vs i old new o v stand is h k f e puts = by (param_at ps i h)
  where
    by : (p : Param) × (p ≡ get_or ps i p) → IsBound names ps vs (i + 1) new
    by q =
        let first : Variable = record { name = q.0.name.bytes; content = Scalar v } in
        let next : suc i ≡ i + 1 = omega arith in
        let last = put_last names ps stand i old is.names_are is.none h o (Scalar v) e new puts q.0 q.1 in
        record {
          names_are = names_kept names ps stand i old is.names_are is.none h o (Scalar v) e new puts q.0 q.1;
          none = none_kept names ps stand i old is.names_are is.none h o (Scalar v) e new puts q.0 q.1;
          rest =
              is.rest ∙ ap (λ (l : Env). old.variables ++ l) (bound_step i ps vs q.0 v h k q.1 f)
              ∙ sym (append_assoc old.variables (first ∷ []) (bound (drop (suc i) ps) (drop (suc i) vs)))
              ∙ ap (λ (l : Env). l ++ bound (drop (suc i) ps) (drop (suc i) vs)) (sym last)
              ∙ ap (λ (n : ℕ). new.variables ++ bound (drop n ps) (drop n vs)) next;
        }

pub bound-ends : (names : List (List ℕ)) (ps : List Param) (vs : List Value) (i : ℕ) (env : EnvironmentView) → IsBound names ps vs i env → min (length ps) (length vs) ≤ i →
    env ≡ record { names = names; variables = bound ps vs }
bound-ends names ps vs i env is h =
    let all : bound ps vs ≡ env.variables = is.rest ∙ ap (λ (l : Env). env.variables ++ l) (bound_done i ps vs h) ∙ append-nil env.variables in
    ap (λ (ns : List (List ℕ)). let w : EnvironmentView = record { names = ns; variables = env.variables } in w) is.names_are
    ∙ ap (λ (l : Env). let w : EnvironmentView = record { names = names; variables = l } in w) (sym all)

-- The arguments of a call, as they are evaluated

module _ (names : List (List ℕ)) (env : Env) (ps : List Param) (es : List Expr) where
  abbrev pub answered : Env → Result EnvironmentView FaultKind
  answered vs = Ok (record { names = names; variables = vs })

  -- the callee's variables, where these are those of the first arguments
  abbrev from_here : ℕ → Env → Result EnvironmentView FaultKind
  from_here i xs = values_of (drop i es) env >>= λ vs. answered (xs ++ bound (drop i ps) vs)

  pub record IsCalled (i : ℕ) (made : EnvironmentView) : Type 0 where
    pub names_are : made.names ≡ names
    pub none : NoneFrom i names made.variables
    pub rest : called_with names ps es env ≡ from_here i made.variables

  pub called-begins : (made : EnvironmentView) → made ≡ record { names = names; variables = [] } → IsCalled 0 made
  called-begins made e = record {
    names_are = ap (λ (w : EnvironmentView). w.names) e;
    none = λ j name h there. ap (λ (w : EnvironmentView). content_of w.variables name) e;
    rest = sym (ap (λ (w : EnvironmentView). from_here 0 w.variables) e);
  }

  pub called-ends : (i : ℕ) (made : EnvironmentView) → IsCalled i made → length es ≤ i → called_with names ps es env ≡ Ok made
  called-ends i made is past =
      is.rest
      ∙ ap (λ (l : List Expr). let y : Result EnvironmentView FaultKind = values_of l env >>= λ vs. answered (made.variables ++ bound (drop i ps) vs) in y) (drop_all i es past)
      ∙ ap (λ (rest : Env). let y : Result EnvironmentView FaultKind = answered (made.variables ++ rest) in y) (bound_to_none (drop i ps))
      ∙ ap (λ (l : Env). let y : Result EnvironmentView FaultKind = answered l in y) (append-nil made.variables)
      ∙ ap (λ (ns : List (List ℕ)). let y : Result EnvironmentView FaultKind = Ok (record { names = ns; variables = made.variables }) in y) (sym is.names_are)

  module _ (i : ℕ) (xs : Env) (e : Expr) (here : i < length es) (is : e ≡ get_or es i e) where
    first_left : values_of (drop i es) env ≡ values_of (e ∷ drop (i + 1) es) env
    first_left = ap (λ (l : List Expr). values_of l env) (drop_more es i e here) ∙ ap (λ (x : Expr). values_of (x ∷ drop (i + 1) es) env) (sym is)

    -- what is left of the arguments, where the first of it has a value
    rest_of : (v : Value) → value_of e env ≡ Ok v → values_of (drop i es) env ≡ (values_of (drop (i + 1) es) env >>= λ vs. Ok (v ∷ vs))
    rest_of v known = first_left ∙ ap (λ (y : Val). let r : Result (List Value) FaultKind = y >>= λ w. values_of (drop (i + 1) es) env >>= λ vs. Ok (w ∷ vs) in r) known

    fault_met : (kind : FaultKind) → value_of e env ≡ Err kind → from_here i xs ≡ Err kind
    fault_met kind known =
        ap (λ (y : Result (List Value) FaultKind). let r : Result EnvironmentView FaultKind = y >>= λ vs. answered (xs ++ bound (drop i ps) vs) in r)
        (first_left ∙ ap (λ (y : Val). let r : Result (List Value) FaultKind = y >>= λ w. values_of (drop (i + 1) es) env >>= λ vs. Ok (w ∷ vs) in r) known)

  -- the fault of the first that is left is the call's
  pub called-fails : (i : ℕ) (made : EnvironmentView) → IsCalled i made → (e : Expr) → i < length es → e ≡ get_or es i e → (h : EvaluationError) → Calculates {A = Value} (Err h) (value_of e env) → Calculates {A = EnvironmentView} (Err h) (called_with names ps es env)
  called-fails i made is e here at (error.Fault kind) g = is.rest ∙ fault_met i made.variables e here at kind g
  called-fails i made is e here at error.Memory g = tt

  one_more : (xs : Env) (i : ℕ) (p : Param) (v : Value) (r : Result (List Value) FaultKind) → i < length ps → p ≡ get_or ps i p →
      (r >>= (λ vs. Ok (v ∷ vs)) >>= λ ws. answered (xs ++ bound (drop i ps) ws))
      ≡ (r >>= λ vs. answered ((xs ++ record { name = p.name.bytes; content = Scalar v } ∷ []) ++ bound (drop (i + 1) ps) vs))
  one_more xs i p v (Err kind) here is = refl
  one_more xs i p v (Ok vs) here is =
      let first : Variable = record { name = p.name.bytes; content = Scalar v } in
      ap (λ (qs : List Param). let y : Result EnvironmentView FaultKind = answered (xs ++ bound qs (v ∷ vs)) in y) (drop_more ps i p here ∙ ap (λ (q : Param). q ∷ drop (i + 1) ps) (sym is))
      ∙ ap (λ (l : Env). let y : Result EnvironmentView FaultKind = answered l in y) (sym (append_assoc xs (first ∷ []) (bound (drop (i + 1) ps) vs)))

  none_more : (xs : Env) (i : ℕ) (v : Value) (r : Result (List Value) FaultKind) → length ps ≤ i →
      (r >>= (λ vs. Ok (v ∷ vs)) >>= λ ws. answered (xs ++ bound (drop i ps) ws)) ≡ (r >>= λ vs. answered (xs ++ bound (drop (i + 1) ps) vs))
  none_more xs i v (Err kind) past = refl
  none_more xs i v (Ok vs) past =
      ap (λ (qs : List Param). let y : Result EnvironmentView FaultKind = answered (xs ++ bound qs (v ∷ vs)) in y) (drop_all i ps past)
      ∙ ap (λ (qs : List Param). let y : Result EnvironmentView FaultKind = answered (xs ++ bound qs vs) in y) (sym (drop_all (i + 1) ps (omega arith)))

  module _ (i : ℕ) (old : EnvironmentView) (is : IsCalled i old) (e : Expr) (v : Value) (known : value_of e env ≡ Ok v) (here : i < length es) (at : e ≡ get_or es i e) where
    value_known : from_here i old.variables ≡ (values_of (drop (i + 1) es) env >>= (λ vs. Ok (v ∷ vs)) >>= λ vs. answered (old.variables ++ bound (drop i ps) vs))
    value_known =
        ap (λ (y : Result (List Value) FaultKind). let r : Result EnvironmentView FaultKind = y >>= λ vs. answered (old.variables ++ bound (drop i ps) vs) in r)
        (rest_of i old.variables e here at v known)

    -- an argument for a parameter
    pub called-more : (o : Option Content) (new : EnvironmentView) → stand_from 0 names ps ≡ true → i < length ps → o ≡ Some (Scalar v) → Puts old i o new → IsCalled (i + 1) new
    called-more o new stand there f puts = by (param_at ps i there)
      where
        by : (p : Param) × (p ≡ get_or ps i p) → IsCalled (i + 1) new
        by q =
            let last = put_last names ps stand i old is.names_are is.none there o (Scalar v) f new puts q.0 q.1 in
            record {
              names_are = names_kept names ps stand i old is.names_are is.none there o (Scalar v) f new puts q.0 q.1;
              none = none_kept names ps stand i old is.names_are is.none there o (Scalar v) f new puts q.0 q.1;
              rest =
                  is.rest ∙ value_known ∙ one_more old.variables i q.0 v (values_of (drop (i + 1) es) env) there q.1
                  ∙ ap (λ (l : Env). from_here (i + 1) l) (sym last);
            }

    -- and one for none
    pub called-past : length ps ≤ i → IsCalled (i + 1) old
    called-past past = record {
      names_are = is.names_are;
      none = λ j name h. is.none j name (omega arith);
      rest = is.rest ∙ value_known ∙ none_more old.variables i v (values_of (drop (i + 1) es) env) past;
    }
