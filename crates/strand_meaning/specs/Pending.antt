-- Which statement of its function a frame is at, and which variables validity has pending there (docs/LANGUAGE.md, "Pending
-- variables"): `NameSet` of `script_check` is the set that validity carries along.
use Rattle.std.specs.Prelude.{◌≡◌, ℕ, true, List, [], ◌∷◌, ◌++◌, Some, Contains}
use Rattle.script_grammar.specs.declared.tree.Expr.{Expr}
use Rattle.script_grammar.specs.declared.tree.Function.{Function}
use Rattle.script_grammar.specs.declared.tree.Right.TheVariants as right
use Rattle.script_grammar.specs.declared.tree.Stmt.{Stmt, out-Stmt}
use Rattle.script_grammar.specs.declared.tree.Act.{Act, out-Act}
use Rattle.script_grammar.specs.declared.tree.Act.TheOpen as act
use Rattle.script_grammar.specs.declared.tree.Act.TheOpen.{Act-F}
use Rattle.script_check.specs.Names as check
use Rattle.script_check.specs.Names.{no_names, union}
use Rattle.script_check.specs.Statements.{judge, after}
use Rattle.serial_meaning.specs.Names.{Names}
use Rattle.serial_meaning.specs.Functions.{function_at}
use Rattle.serial_meaning.specs.Plan.{PlanView, functions_of}
use Rattle.strand_meaning.specs.Machine.{Level, Frame}

abbrev pub act_of : Stmt → Act-F Act Stmt
act_of st = out-Act (out-Stmt st).act

-- A block of a statement before which `before` is pending; the set with which validity judges the block; and what follows the
-- block, before the statements after that one: a `while` comes again.
pub data HasBlock (st : Stmt) (before : check.NameSet) : List Stmt → check.NameSet → List Stmt → Type 0 where
  Then : (e : Expr) (yes no : List Stmt) → act_of st ≡ act.If e yes no → HasBlock st before yes before []
  Else : (e : Expr) (yes no : List Stmt) → act_of st ≡ act.If e yes no → HasBlock st before no before []
  LoopBody : (e : Expr) (body : List Stmt) → act_of st ≡ act.While e body → HasBlock st before body (union before (after body before)) (st ∷ [])

-- Validity judges these statements from a set, and comes to those that are left, with what follows the blocks around them; `now` is
-- pending before them.
pub data ComesTo : (from : check.NameSet) → (statements : List Stmt) → (left : List Stmt) → (now : check.NameSet) → Type 0 where
  Here : {now : check.NameSet} {left : List Stmt} → ComesTo now left left now
  Past : {from now : check.NameSet} {st : Stmt} {sts left : List Stmt} → ComesTo ((judge st).after from) sts left now → ComesTo from (st ∷ sts) left now
  Within : {from inner now : check.NameSet} {st next : Stmt} {sts block again left : List Stmt} →
      HasBlock st from block inner again → ComesTo inner block (next ∷ left) now → ComesTo from (st ∷ sts) (next ∷ (left ++ (again ++ sts))) now

-- The same for a function's statements, inside these open scopes, the innermost first. A scope's block is judged with what is
-- pending before it.
pub data FrameStandsAt (body : List Stmt) : List Level → List Stmt → check.NameSet → Type 0 where
  Outside : {left : List Stmt} {now : check.NameSet} → ComesTo no_names body left now → FrameStandsAt body [] left now
  InScope : {level : Level} {levels : List Level} {st : Stmt} {block left : List Stmt} {before now : check.NameSet} →
      FrameStandsAt body levels (st ∷ level.left) before → act_of st ≡ act.Scope block → ComesTo before block left now → FrameStandsAt body (level ∷ levels) left now

-- the set with which a statement is judged: a `while` with all that is pending before any of its iterations
abbrev pub judged_by : Act-F Act Stmt → check.NameSet → check.NameSet
judged_by (act.While e body) now = union now (after body now)
judged_by _ now = now

-- the set with which the first of these statements is judged, or the one at their end
abbrev pub judging_set : List Stmt → check.NameSet → check.NameSet
judging_set [] now = now
judging_set (st ∷ sts) now = judged_by (act_of st) now

-- These statements of its function are left to the frame, and each of the variables is in the set that validity has there.
pub record ArePending (plan : PlanView) (names : Names) (a : Frame) (left : List Stmt) : Type 0 where
  pub function : Function
  pub of_plan : function_at (functions_of plan) a.function ≡ Some function
  pub now : check.NameSet
  pub stands : FrameStandsAt function.body a.levels left now
  pub pending : (name : List ℕ) → Contains names name → judging_set left now name ≡ true

-- the frame is still at the statement before those that are left to it
pub record ArePendingStill (plan : PlanView) (names : Names) (a : Frame) (IsSuch : Act-F Act Stmt → Type 0) : Type 0 where
  pub st : Stmt
  pub such : IsSuch (act_of st)
  pub there : ArePending plan names a (st ∷ a.left)

-- the statements that a frame can still be at
abbrev pub IsCall : Act-F Act Stmt → Type 0
IsCall (act.Let x (right.Call at c)) = Unit {0}
IsCall (act.Set x (right.Call at c)) = Unit {0}
IsCall (act.Call c) = Unit {0}
IsCall _ = ⊥

abbrev pub IsSync : Act-F Act Stmt → Type 0
IsSync act.Sync = Unit {0}
IsSync _ = ⊥

abbrev pub IsPfor : Act-F Act Stmt → Type 0
IsPfor (act.Pfor x lo hi target c) = Unit {0}
IsPfor _ = ⊥
