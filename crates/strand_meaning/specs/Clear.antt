-- Statements that don't touch pending variables (docs/LANGUAGE.md, "Pending variables"): those that still wait for a child's
-- value.
use Rattle.std.specs.Prelude.{◌≡◌, List, [], ◌∷◌, ◌++◌, Option, Some, None, Contains}
use Rattle.script_grammar.specs.declared.tree.Name.{Name}
use Rattle.script_grammar.specs.declared.tree.Expr.{Expr}
use Rattle.script_grammar.specs.declared.tree.Right.{Right}
use Rattle.script_grammar.specs.declared.tree.Right.TheVariants as right
use Rattle.script_grammar.specs.declared.tree.Function.{Function}
use Rattle.script_grammar.specs.declared.tree.Stmt.{Stmt, out-Stmt}
use Rattle.script_grammar.specs.declared.tree.Act.{Act, out-Act}
use Rattle.script_grammar.specs.declared.tree.Act.TheOpen as act
use Rattle.script_grammar.specs.declared.tree.Act.TheOpen.{Act-F}
use Rattle.serial_meaning.specs.Names.{Names, names_in}
use Rattle.serial_meaning.specs.Plan.{PlanView, functions_of}

abbrev pub IsWithin : Names → Names → Type 0
IsWithin some all = (name : List _) → Contains some name → Contains all name

-- no name is in both
abbrev pub IsApart : Names → Names → Type 0
IsApart names others = (name : List _) → Contains names name → Contains others name → ⊥

abbrev pub names_in_all : List Expr → Names
names_in_all [] = []
names_in_all (e ∷ es) = names_in e ++ names_in_all es

abbrev pub names_in_right : Right → Names
names_in_right (right.Value e) = names_in e
names_in_right (right.Draw at) = []
names_in_right (right.New at) = []
names_in_right (right.Call at c) = names_in_all c.args
names_in_right (right.Spawn at c) = names_in_all c.args

abbrev pub target_names : Option Name → Names
target_names None = []
target_names (Some x) = x.bytes ∷ []

-- the variables that a statement itself reads or writes, without the statements inside it
abbrev pub touched : Act-F Act Stmt → Names
touched (act.Let x r) = x.bytes ∷ names_in_right r
touched (act.Array x n) = x.bytes ∷ []
touched (act.Set x r) = x.bytes ∷ names_in_right r
touched (act.Store x i e) = x.bytes ∷ (names_in i ++ names_in e)
touched (act.Spawn c) = names_in_all c.args
touched (act.Call c) = names_in_all c.args
touched act.Sync = []
touched (act.Print e) = names_in e
touched (act.If e a b) = names_in e
touched (act.While e a) = names_in e
touched (act.Pfor x lo hi target c) = names_in lo ++ (names_in hi ++ (names_in_all c.args ++ target_names target))
touched (act.Scope a) = []

-- a spawn's target is pending from then on, and a sync leaves none pending
abbrev pub pending_right : Name → Right → Names → Names
pending_right x (right.Value e) pending = pending
pending_right x (right.Draw at) pending = pending
pending_right x (right.New at) pending = pending
pending_right x (right.Call at c) pending = pending
pending_right x (right.Spawn at c) pending = x.bytes ∷ pending

abbrev pub pending_after : Act-F Act Stmt → Names → Names
pending_after (act.Let x r) pending = pending_right x r pending
pending_after (act.Array x n) pending = pending
pending_after (act.Set x r) pending = pending_right x r pending
pending_after (act.Store x i e) pending = pending
pending_after (act.Spawn c) pending = pending
pending_after (act.Call c) pending = pending
pending_after act.Sync pending = []
pending_after (act.Print e) pending = pending
pending_after (act.If e a b) pending = pending
pending_after (act.While e a) pending = pending
pending_after (act.Pfor x lo hi target c) pending = pending
pending_after (act.Scope a) pending = []

-- it contains no statements
abbrev pub IsSimple : Act-F Act Stmt → Type 0
IsSimple (act.Let x r) = Unit {0}
IsSimple (act.Array x n) = Unit {0}
IsSimple (act.Set x r) = Unit {0}
IsSimple (act.Store x i e) = Unit {0}
IsSimple (act.Spawn c) = Unit {0}
IsSimple (act.Call c) = Unit {0}
IsSimple act.Sync = Unit {0}
IsSimple (act.Print e) = Unit {0}
IsSimple (act.If e a b) = ⊥
IsSimple (act.While e a) = ⊥
IsSimple (act.Pfor x lo hi target c) = Unit {0}
IsSimple (act.Scope a) = ⊥

-- Where these variables are pending, each statement touches none that is pending before it, and at the end only those of the last
-- list are pending. A loop's condition and body are judged with all that is pending before any of its iterations. A scope ends with
-- a sync.
pub data IsClear : Names → List Stmt → Names → Type 0 where
  Nothing : {pending ends : Names} → IsWithin pending ends → IsClear pending [] ends
  Simple : {pending ends : Names} {st : Stmt} {sts : List Stmt} (a : Act-F Act Stmt) → out-Act (out-Stmt st).act ≡ a → IsSimple a →
      IsApart (touched a) pending → IsClear (pending_after a pending) sts ends → IsClear pending (st ∷ sts) ends
  Branches : {pending ends : Names} {st : Stmt} {sts : List Stmt} (e : Expr) (yes no : List Stmt) (both : Names) → out-Act (out-Stmt st).act ≡ act.If e yes no →
      IsApart (names_in e) pending → IsClear pending yes both → IsClear pending no both → IsClear both sts ends → IsClear pending (st ∷ sts) ends
  Repetitions : {pending ends : Names} {st : Stmt} {sts : List Stmt} (e : Expr) (body : List Stmt) (all : Names) → out-Act (out-Stmt st).act ≡ act.While e body →
      IsWithin pending all → IsApart (names_in e) all → IsClear all body all → IsClear all sts ends → IsClear pending (st ∷ sts) ends
  Levels : {pending ends : Names} {st : Stmt} {sts : List Stmt} (block : List Stmt) (left : Names) → out-Act (out-Stmt st).act ≡ act.Scope block →
      IsClear pending block left → IsClear [] sts ends → IsClear pending (st ∷ sts) ends

-- each function's statements, with nothing pending before them
abbrev pub IsClearFunction : Function → Type 0
IsClearFunction f = (ends : Names) × IsClear [] f.body ends

abbrev pub IsClearPlan : PlanView → Type 0
IsClearPlan plan = (f : Function) → Contains (functions_of plan) f → IsClearFunction f
