-- Calls that begin and end, as changes of a machine.
use Rattle.std.proofs.Common.{◌≡◌, ℕ, ◌<◌, ◌≤◌, Bool, true, false, nat_lt, List, [], ◌∷◌, ◌++◌, Option, Some, None, Result, Ok, Err, length, map, reverse, refl, sym, ap, ◌∙◌, arith}
use Rattle.std.proofs.lemmas.List.{length-map, length-reverse, reverse-append, reverse-reverse}
use Rattle.std.proofs.lemmas.Bool.{lt-ltb, ltb-true}
use Rattle.script_grammar.specs.declared.tree.Name.{Name}
use Rattle.script_grammar.specs.declared.tree.Function.{Function}
use Rattle.serial_meaning.specs.Exec.{bound}
use Rattle.serial_meaning.specs.Functions.{function_at}
use Rattle.serial_meaning.specs.Plan.{PlanView, functions_of}
use Rattle.serial_meaning.specs.Runs.{◌>>=◌}
use Rattle.serial_meaning.specs.Values.{Env, values_of}
use Rattle.serial_meaning.specs.declared.event.FaultKind.{FaultKind}
use Rattle.serial_meaning.specs.declared.value.Value.{Value}
use Rattle.script_grammar.specs.declared.tree.Expr.{Expr}
use Rattle.script_grammar.specs.declared.tree.Param.{Param}
use Rattle.strand_meaning.specs.Machine as meaning
use Rattle.strand_meaning.specs.Machine.{Stands, function_begun}
use Rattle.strand_values.specs.Changes.{called_with}
use Rattle.strand_values.specs.Environments.{EnvironmentView}
use Rattle.strand_moves.specs.declared.frame.Frame.{Frame}
use Rattle.strand_moves.specs.declared.frame.Level.{Level}
use Rattle.script_grammar.specs.declared.tree.Stmt.{Stmt}
use Rattle.strand_moves.specs.declared.instance_parts.InstanceParts.{InstanceParts}
use Rattle.strand_values.specs.declared.evaluation_error.EvaluationError as values
use Rattle.strand_values.specs.declared.evaluation_error.EvaluationError.TheVariants as error
use Rattle.strand_moves.specs.Acts.{IsCallee, StaysUnlessMemory, Stays}
use Rattle.strand_moves.specs.FastPath.{silent}
use Rattle.strand_moves.specs.InstanceParts.{frame_of, body_in, body_of, levels_of, machine_of, scopes_of}
use Rattle.strand_moves.proofs.Statements.Equations.{callee}

-- Tests

pub is_below : (a b : ℕ) → a < b → nat_lt a b ≡ true
is_below a b h = lt-ltb a b h

pub is_not_below : (a b : ℕ) → b ≤ a → nat_lt a b ≡ false
is_not_below a b h = by_test (nat_lt a b) refl
  where
    by_test : (t : Bool) → nat_lt a b ≡ t → nat_lt a b ≡ false
    by_test true e = let l : a < b = ltb-true a b e in absurd (omega arith)
    by_test false e = e

-- Machines

pub calls-open : (plan : PlanView) (i : InstanceParts) → length (machine_of plan i).below ≡ length i.below.items
calls-open plan i = length-map (reverse i.below.items) (frame_of plan false) ∙ length-reverse i.below.items

-- the frames below, with one more
pub below-more : (plan : PlanView) (items : List Frame) (a : Frame) → map (frame_of plan false) (reverse (items ++ a ∷ [])) ≡ frame_of plan false a ∷ map (frame_of plan false) (reverse items)
below-more plan items a = ap (map (frame_of plan false)) (reverse-append items (a ∷ []))

-- their open scopes
pub scopes-more : (items : List Frame) (a : Frame) → scopes_of (reverse (items ++ a ∷ [])) ≡ reverse a.levels.items ++ scopes_of (reverse items)
scopes-more items a = ap (λ (stack : List Frame). scopes_of stack) (reverse-append items (a ∷ []))

-- What a frame that begins is, by what it is in the words of the strand's meaning

-- no open scopes there are none here
no-scopes : (body : List Stmt) (ls : List Level) → levels_of body ls ≡ [] → ls ≡ []
no-scopes body [] h = refl
no-scopes body (l ∷ ls) h = absurd (cc)

module _ (plan : PlanView) (number : ℕ) (env : EnvironmentView) (target : Option Name) (a : Frame) (is : IsCallee number env target a) where
  pub callee-function : a.function ≡ number
  callee-function = ap (λ (x : meaning.Frame). x.function) (is.begins plan)

  pub callee-target : a.target ≡ target
  callee-target = ap (λ (x : meaning.Frame). x.target) (is.begins plan)

  pub callee-scopes : a.levels.items ≡ []
  callee-scopes =
      let none = no-scopes (body_of plan a.function) (reverse a.levels.items) (ap (λ (x : meaning.Frame). x.levels) (is.begins plan)) in
      sym (reverse-reverse a.levels.items) ∙ ap (λ (ls : List Level). reverse ls) none

module _ (plan : PlanView) (number : ℕ) (f : Function) (vs : List Value) (names : List (List ℕ)) (target : Option Name) where
  abbrev pub with_params : EnvironmentView
  with_params = record { names = names; variables = bound f.params vs }

  pub callee-begun : (a : Frame) → IsCallee number with_params target a → function_at (functions_of plan) number ≡ Some f → frame_of plan false a ≡ callee target number f vs
  callee-begun a is h = is.begins plan ∙ ap (λ (o : Option Function). record (callee target number f vs) { left = body_in o }) h

  pub machine-begun : (old new : InstanceParts) → IsCallee number with_params target new.top → new.below.items ≡ old.below.items ++ old.top ∷ [] → new.rank ≡ old.rank → new.steps ≡ old.steps → new.leaving ≡ old.leaving → old.leaving ≡ false →
      function_at (functions_of plan) number ≡ Some f →
      machine_of plan new ≡ record { rank = old.rank; steps = old.steps; top = callee target number f vs; below = frame_of plan old.leaving old.top ∷ map (frame_of plan false) (reverse old.below.items) }
  machine-begun old new is b r s l e h = rw (l, e, callee-begun new.top is h, b, below-more plan old.below.items old.top, r, s) refl

  -- an instance before its first move
  pub first-begun : (i : InstanceParts) → IsCallee number with_params target i.top → i.below.items ≡ [] → i.rank ≡ 0 → i.steps ≡ plan.limits.budget → i.leaving ≡ false → target ≡ None → function_at (functions_of plan) number ≡ Some f →
      function_begun plan number vs ≡ Stands (machine_of plan i)
  first-begun i is alone rank steps on to there = rw (there, on, callee-begun i.top is there, alone, rank, steps, to) refl

-- a call that begins opens no scope and leaves none
pub begun-stays : (plan : PlanView) (number : ℕ) (env : EnvironmentView) (target : Option Name) (old new : InstanceParts) → IsCallee number env target new.top → new.below.items ≡ old.below.items ++ old.top ∷ [] → new.trail ≡ old.trail → new.leaving ≡ old.leaving → Stays old new
begun-stays plan number env target old new is b t l =
    record {
      trail = t;
      scopes = ap (λ (ls : List Level). reverse ls ++ scopes_of (reverse new.below.items)) (callee-scopes plan number env target new.top is) ∙ ap (λ (stack : List Frame). scopes_of (reverse stack)) b ∙ scopes-more old.below.items old.top;
      leaving = l;
    }

-- What the variables of a callee say of its arguments

module _ (names : List (List ℕ)) (params : List Param) where
  abbrev with_values : List Value → EnvironmentView
  with_values vs = record { names = names; variables = bound params vs }

  abbrev bound_to : Result (List Value) FaultKind → Result EnvironmentView FaultKind
  bound_to r = r >>= λ vs. Ok (with_values vs)

  bound-by : (r : Result (List Value) FaultKind) (env : EnvironmentView) → bound_to r ≡ Ok env → (vs : List Value) × ((r ≡ Ok vs) × (env ≡ with_values vs))
  bound-by (Ok vs) env h = (vs, (refl, (cc)))
  bound-by (Err kind) env h = absurd (cc)

  pub called-by : (args : List Expr) (old : Env) (env : EnvironmentView) → called_with names params args old ≡ Ok env → (vs : List Value) × ((values_of args old ≡ Ok vs) × (env ≡ with_values vs))
  called-by args old env h = bound-by (values_of args old) env h

  fault-by : (r : Result (List Value) FaultKind) (kind : FaultKind) → bound_to r ≡ Err kind → r ≡ Err kind
  fault-by (Ok vs) kind h = absurd (cc)
  fault-by (Err k) kind h = let e : k ≡ kind = cc in ap Err e

  pub called-fault : (args : List Expr) (old : Env) (kind : FaultKind) → called_with names params args old ≡ Err kind → values_of args old ≡ Err kind
  called-fault args old kind h = fault-by (values_of args old) kind h

-- what a call that shows nothing leaves
pub stands-silent : (old new : InstanceParts) (r : Result (Unit {0}) values.EvaluationError) → Stays old new → StaysUnlessMemory old new (silent r)
stands-silent old new (Ok u) s = s
stands-silent old new (Err (error.Fault kind)) s = s
stands-silent old new (Err error.Memory) s = tt
