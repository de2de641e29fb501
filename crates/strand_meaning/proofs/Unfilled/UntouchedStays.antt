-- Changes of variables that a statement doesn't touch.
use Rattle.std.proofs.Common.{◌≡◌, ℕ, suc, List, [], ◌∷◌, ◌++◌, Option, Some, None, Result, Ok, refl, ap, ◌∙◌, arith}
use Rattle.std.specs.Prelude.{Contains}
use Rattle.script_grammar.specs.declared.tree.Name.{Name}
use Rattle.script_grammar.specs.declared.tree.Expr.{Expr}
use Rattle.serial_meaning.specs.Runs.{◌>>=◌}
use Rattle.serial_meaning.specs.Names.{Names, names_in}
use Rattle.serial_meaning.specs.Values.{Env, content_of, items_of, value_of, values_of}
use Rattle.serial_meaning.specs.Exec.{with_content, with_front, with_loop_values, has_room}
use Rattle.serial_meaning.proofs.Equations.Each.{Each, each-at}
use Rattle.serial_meaning.proofs.RisingPedigrees.Named.{values_depend_on_names}
use Rattle.serial_meaning.specs.declared.value.Value.{Value}
use Rattle.serial_meaning.specs.declared.environment.Content.{Content}
use Rattle.serial_meaning.specs.declared.environment.Content.TheVariants.{Scalar, Array}
use Rattle.strand_meaning.specs.Clear.{IsApart, names_in_all, target_names}
use Rattle.strand_meaning.specs.Machine.{with_scalar}
use Rattle.strand_meaning.specs.Task.{with_answer}
use Rattle.strand_meaning.proofs.Unfilled.Variables.{content-replaced, with-replaced}

-- What a change of variables leaves alone: a variable is read as before, and set before or after.
abbrev pub Keep : (Env → Env) → List ℕ → Type 0
Keep fix name = ((env : Env) → content_of (fix env) name ≡ content_of env name) × ((env : Env) (s : Content) → with_content (fix env) name s ≡ fix (with_content env name s))

abbrev pub Keeps : (Env → Env) → Names → Type 0
Keeps fix names = Each (Keep fix) names

pub each-left : {X : Type 0} (T : X → Type 0) (xs ys : List X) → Each T (xs ++ ys) → Each T xs
each-left T [] ys a = tt
each-left T (x ∷ xs) ys a = (a.0, each-left T xs ys a.1)

pub each-right : {X : Type 0} (T : X → Type 0) (xs ys : List X) → Each T (xs ++ ys) → Each T ys
each-right T [] ys a = a
each-right T (x ∷ xs) ys a = each-right T xs ys a.1

pub first-contained : {X : Type 0} (x : X) (xs : List X) → Contains (x ∷ xs) x
first-contained x xs = (0, omega arith, refl)

pub later-contained : {X : Type 0} (x y : X) (xs : List X) → Contains xs y → Contains (x ∷ xs) y
later-contained x y xs c = (suc c.0, omega (arith, c.1), c.2)

pub each-of : {X : Type 0} (T : X → Type 0) (xs : List X) → ((x : X) → Contains xs x → T x) → Each T xs
each-of T [] h = tt
each-of T (x ∷ xs) h = (h x (first-contained x xs), each-of T xs (λ y c. h y (later-contained x y xs c)))

-- a child's value in a variable
pub keeps-answer : (target : Option Name) (v : Value) (names pending : Names) → ((x : Name) → target ≡ Some x → Contains pending x.bytes) → IsApart names pending → Keeps (with_answer target v) names
keeps-answer None v names pending h apart = each-of (Keep (with_answer None v)) names (λ name c. ((λ env. refl), (λ env s. refl)))
keeps-answer (Some x) v names pending h apart =
    each-of (Keep (with_answer (Some x) v)) names (λ name c. ((λ env. content-replaced env x.bytes name (Scalar v) (λ e. other name c e)), (λ env s. with-replaced env x.bytes name (Scalar v) s (λ e. other name c e))))
  where
    other : (name : List ℕ) → Contains names name → x.bytes ≡ name → ⊥
    other name c e = let there : Contains pending x.bytes = h x refl in apart name c (rw e at there)

pub keeps-nothing : (names : Names) → Keeps (λ env. env) names
keeps-nothing names = each-of (Keep (λ env. env)) names (λ name c. ((λ env. refl), (λ env s. refl)))

module _ (fix : Env → Env) where
  pub value-kept : (e : Expr) (env : Env) → Keeps fix (names_in e) → value_of e (fix env) ≡ value_of e env
  value-kept e env k = values_depend_on_names e (fix env) env (λ i d h. (each-at (Keep fix) (names_in e) i d k h).0 env)

  pub values-kept : (es : List Expr) (env : Env) → Keeps fix (names_in_all es) → values_of es (fix env) ≡ values_of es env
  values-kept [] env k = refl
  values-kept (e ∷ es) env k =
      ap (λ (o : Result Value _). o >>= λ v. values_of es (fix env) >>= λ vs. Ok (v ∷ vs)) (value-kept e env (each-left (Keep fix) (names_in e) (names_in_all es) k))
      ∙ ap (λ (o : Result (List Value) _). value_of e env >>= λ v. o >>= λ vs. Ok (v ∷ vs)) (values-kept es env (each-right (Keep fix) (names_in e) (names_in_all es) k))

  pub scalar-kept : (target : Option Name) (v : Value) (env : Env) → Keeps fix (target_names target) → with_scalar target v (fix env) ≡ fix (with_scalar target v env)
  scalar-kept None v env k = refl
  scalar-kept (Some x) v env k = k.0.1 env (Scalar v)

  pub room-kept : (target : Option Name) (n : ℕ) (env : Env) → Keeps fix (target_names target) → has_room target n (fix env) ≡ has_room target n env
  room-kept None n env k = refl
  room-kept (Some x) n env k = rw (k.0.0 env) refl

  pub filled-kept : (target : Option Name) (vs : List Value) (env : Env) → Keeps fix (target_names target) → with_loop_values target vs (fix env) ≡ fix (with_loop_values target vs env)
  filled-kept None vs env k = refl
  filled-kept (Some x) vs env k =
      ap (λ o. with_content (fix env) x.bytes (Array (with_front (items_of o) vs))) (k.0.0 env) ∙ k.0.1 env (Array (with_front (items_of (content_of env x.bytes)) vs))
