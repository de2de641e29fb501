-- Laws of the meaning (docs/LANGUAGE.md, "The serial elision"; that pedigrees name strands whatever the schedule, and that draws are hashes of
-- them, is from Leiserson, Schardl and Sukha, PPoPP 2012). Each is the contract of a function of the module `laws`.
use Rattle.std.specs.Prelude.{◌≡◌, ◌≤◌, ℕ, List, [], ◌∷◌, ◌++◌, Result, Ok, Err, All, AllPairs, Contains}
use Rattle.std.specs.Prelude.{ℤ}
use Rattle.ped_path.specs.Path.{IsBefore}
use Rattle.loop_range.specs.Range.{Range}
use Rattle.script_grammar.specs.declared.tree.Expr.{Expr}
use Rattle.script_grammar.specs.declared.tree.Stmt.{Stmt}
use Rattle.serial_meaning.specs.Answer.{AnswerView}
use Rattle.serial_meaning.specs.Keeping.{kept_of}
use Rattle.serial_meaning.specs.Prints.{is_print}
use Rattle.serial_meaning.specs.Render.{answer_text}
use Rattle.serial_meaning.specs.Runs.{done, ◌then◌}
use Rattle.serial_meaning.specs.Values.{Env, content_of, value_of}
use Rattle.serial_meaning.specs.Names.{names_in}
use Rattle.serial_meaning.specs.Plan.{PlanView, drawn}
use Rattle.serial_meaning.specs.Exec.{State, Interpretation, statement, exec}
use Rattle.serial_meaning.specs.Eval.{Evaluation, serial, eval, main_origin, elision}
use Rattle.serial_meaning.specs.Open.{Child, deferring, loop_end, node_of, faults}
use Rattle.serial_meaning.specs.declared.value.Value.{Value}
use Rattle.serial_meaning.specs.declared.event.Fault.{Fault}
use Rattle.serial_meaning.specs.declared.event.Event.{Event}
use Rattle.serial_meaning.specs.declared.event.Event.TheVariants as event
use Rattle.serial_meaning.specs.declared.origin.Origin.{Origin}
use Rattle.serial_meaning.specs.declared.origin.Origin.TheVariants.{Loop}
use Rattle.serial_meaning.specs.declared.plan.Show.TheVariants.{Plain}

-- The equations of statements

-- A list of statements is its first statement and then the others, and an iteration of a `while` puts its body and the loop before the
-- others. The number of levels doesn't appear.
pub record Equations {I E K : Type 0} (how : Interpretation I E K) (plan : PlanView) (path : List ℕ) : Type 0 where
  pub nothing : (calls : ℕ) (s : State K) → exec how plan path calls [] s ≡ done s
  pub first : (calls : ℕ) (st : Stmt) (sts : List Stmt) (s : State K) →
      exec how plan path calls (st ∷ sts) s ≡ (statement how plan path (exec how plan) calls st s then exec how plan path calls sts)
  pub in_a_row : (calls : ℕ) (xs ys : List Stmt) (s : State K) →
      exec how plan path calls (xs ++ ys) s ≡ (exec how plan path calls xs s then exec how plan path calls ys)
  pub loop_again : (calls : ℕ) (loop : Stmt) (body sts : List Stmt) (s : State K) →
      ((exec how plan path calls body s then exec how plan path calls (loop ∷ [])) then exec how plan path calls sts) ≡ exec how plan path calls (body ++ (loop ∷ sts)) s

abbrev pub ElisionHasEquations : Type 0
ElisionHasEquations = (plan : PlanView) (path : List ℕ) (child : Origin → Evaluation) → Equations (serial child) plan path

abbrev pub OpenTreeHasEquations : Type 0
OpenTreeHasEquations = (plan : PlanView) (path : List ℕ) (child : Origin → Evaluation) → Equations (deferring plan child) plan path

-- Pedigrees

-- the pedigrees of all events but prints
abbrev pub raising_pedigrees : List Event → List (List ℕ)
raising_pedigrees [] = []
raising_pedigrees (event.Print j v ∷ es) = raising_pedigrees es
raising_pedigrees (event.Draw j n ∷ es) = j ∷ raising_pedigrees es
raising_pedigrees (event.New j ∷ es) = j ∷ raising_pedigrees es
raising_pedigrees (event.Spawn j ∷ es) = j ∷ raising_pedigrees es
raising_pedigrees (event.Sync j ∷ es) = j ∷ raising_pedigrees es
raising_pedigrees (event.Loop j ∷ es) = j ∷ raising_pedigrees es

-- Of two events of the elision that aren't prints, the earlier one's pedigree is before the later one's.
abbrev pub PedigreesRise : Type 0
PedigreesRise = (plan : PlanView) → AllPairs IsBefore (raising_pedigrees (elision plan).items)

-- Each draw of the elision is DotMix of its pedigree.
abbrev pub DrawsAreDotMix : Type 0
DrawsAreDotMix = (plan : PlanView) (j : List ℕ) (n : ℕ) → Contains (elision plan).items (event.Draw j n) → n ≡ drawn plan j

-- Expressions

-- Two environments that agree on the variables that an expression names give it the same value or fault.
abbrev pub ValuesDependOnNames : Type 0
ValuesDependOnNames =
    (e : Expr) (env other : Env) → All (λ name. content_of env name ≡ content_of other name) (names_in e) → value_of e env ≡ value_of e other

-- Faults

-- No fault where the list is empty, and else its least fault: one that none of the list is before.
abbrev pub EndsByLeast : List Fault → Result (List Value) Fault → Type 0
EndsByLeast fs (Ok vs) = fs ≡ []
EndsByLeast fs (Err f) = Contains fs f × All (λ g. IsBefore g.at f.at → ⊥) fs

-- The elision ends by the least of all faults of the open tree, and without a fault exactly where there is none.
abbrev pub FaultIsLeast : Type 0
FaultIsLeast = (plan : PlanView) → EndsByLeast (faults plan) (elision plan).ending

-- In a node that goes past it, a loop ends by the first fault of its iterations, and its own node ends by the least one: they are the same.
abbrev pub LoopsEndAlike : Type 0
LoopsEndAlike =
    (plan : PlanView) (function : ℕ) (rest : List Value) (first : ℤ) (path : List ℕ) (range : Range) →
    let o = Loop function rest first path range in (node_of plan o).ending ≡ loop_end (eval plan o).ending

-- main's origin; a child of an origin of the plan; or a loop's origin with only a part of such a child's iterations
pub data IsOriginOf (plan : PlanView) : Origin → Type 0 where
  Main : IsOriginOf plan (main_origin plan)
  ChildOf : (parent child : Origin) → IsOriginOf plan parent → Contains (node_of plan parent).items (Child child) → IsOriginOf plan child
  PartOf : (parent : Origin) (function : ℕ) (rest : List Value) (first : ℤ) (path : List ℕ) (whole part : Range) → IsOriginOf plan parent →
      Contains (node_of plan parent).items (Child (Loop function rest first path whole)) → whole.lo ≤ part.lo → part.lo ≤ part.hi → part.hi ≤ whole.hi →
      IsOriginOf plan (Loop function rest first path part)

abbrev pub EndsWithin : List Fault → Result (List Value) Fault → Type 0
EndsWithin fs (Ok vs) = Unit {0}
EndsWithin fs (Err f) = Contains fs f

-- A fault by which an origin of the plan ends is one of the open tree.
abbrev pub OriginsEndWithinFaults : Type 0
OriginsEndWithinFaults = (plan : PlanView) (o : Origin) → IsOriginOf plan o → EndsWithin (faults plan) (eval plan o).ending

-- Printed lines

-- Where values alone are printed, two answers with the same prints that end alike print the same text.
abbrev pub PlainTextDependsOnPrints : Type 0
PlainTextDependsOnPrints =
    (a b : AnswerView) → a.plan.show ≡ Plain → b.plan.show ≡ Plain → kept_of is_print a.out ≡ kept_of is_print b.out → a.outcome ≡ b.outcome → answer_text a ≡ answer_text b
