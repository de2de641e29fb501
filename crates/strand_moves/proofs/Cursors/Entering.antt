-- Blocks that an instance enters.
use Rattle.std.proofs.Common.{◌≡◌, Bool, true, false, List, [], ◌∷◌, ◌++◌, Ok, refl, sym, ap, ◌∙◌, if◌then◌else◌}
use Rattle.script_grammar.specs.declared.tree.Expr.{Expr}
use Rattle.script_grammar.specs.declared.tree.Stmt.{Stmt, out-Stmt}
use Rattle.script_grammar.specs.declared.tree.Act.{Act, out-Act}
use Rattle.script_grammar.specs.declared.tree.Act.TheOpen as act
use Rattle.script_grammar.specs.declared.tree.Act.TheOpen.{Act-F}
use Rattle.serial_meaning.specs.Values.{value_of, is_true}
use Rattle.serial_meaning.specs.Plan.{PlanView}
use Rattle.serial_meaning.specs.declared.value.Value.{Value}
use Rattle.strand_moves.specs.declared.cursor.Branch.TheVariants as branch
use Rattle.strand_moves.specs.declared.cursor.Cursor.{Cursor}
use Rattle.strand_moves.specs.declared.instance_parts.InstanceParts.{InstanceParts}
use Rattle.strand_moves.specs.Cursors.{branch_of, statements_left}
use Rattle.strand_moves.specs.InstanceParts.{machine_of, present_of, statements_of}
use Rattle.strand_moves.specs.Moves.{acted}
use Rattle.strand_moves.proofs.Statements.Equations.{moved, branch, turn}

branch-if : (e : Expr) (first second : List Stmt) (b : Bool) → branch_of (act.If e first second) (if b then branch.Yes else branch.No) ≡ (if b then first else second)
branch-if e first second true = refl
branch-if e first second false = refl

module _ (plan : PlanView) (i : InstanceParts) (st : Stmt) (e : Expr) (v : Value) (cursor : Cursor) (known : value_of e i.top.env.variables ≡ Ok v) where
  abbrev within : List Stmt
  within = statements_of plan i.top

  -- a block without statements, which is passed at once
  pub branch-past : (first second : List Stmt) (b : Bool) → b ≡ is_true v → (if b then first else second) ≡ [] →
      acted plan (present_of i) (machine_of plan i) st (act.If e first second) ≡ moved [] (machine_of plan i)
  branch-past first second b h none =
      let m = machine_of plan i in
      branch plan (present_of i) m st e first second v b known (sym h) ∙ ap (λ (l : List Stmt). moved [] (record m { top = record m.top { left = l ++ m.top.left } })) none

  abbrev pub with_cursor : InstanceParts
  with_cursor = record i { top = record i.top { cursor = cursor } }

  pub branch-into : (first second : List Stmt) (b : Bool) → b ≡ is_true v → out-Act (out-Stmt st).act ≡ act.If e first second →
      statements_left within cursor ≡ branch_of (out-Act (out-Stmt st).act) (if b then branch.Yes else branch.No) ++ statements_left within i.top.cursor →
      acted plan (present_of i) (machine_of plan i) st (act.If e first second) ≡ moved [] (machine_of plan with_cursor)
  branch-into first second b h a l =
      let m = machine_of plan i in
      branch plan (present_of i) m st e first second v b known (sym h)
      ∙ ap (λ (left : List Stmt). moved [] (record m { top = record m.top { left = left } }))
      (sym (l ∙ ap (λ (x : Act-F Act Stmt). branch_of x (if b then branch.Yes else branch.No) ++ statements_left within i.top.cursor) a
      ∙ ap (λ (x : List Stmt). x ++ statements_left within i.top.cursor) (branch-if e first second b)))

  pub turn-into : (body : List Stmt) → is_true v ≡ true → out-Act (out-Stmt st).act ≡ act.While e body →
      statements_left within cursor ≡ branch_of (out-Act (out-Stmt st).act) branch.LoopBody ++ (st ∷ statements_left within i.top.cursor) →
      acted plan (present_of i) (machine_of plan i) st (act.While e body) ≡ moved [] (machine_of plan with_cursor)
  turn-into body h a l =
      let m = machine_of plan i in
      turn plan (present_of i) m st e body v known h
      ∙ ap (λ (left : List Stmt). moved [] (record m { top = record m.top { left = left } }))
      (sym (l ∙ ap (λ (x : Act-F Act Stmt). branch_of x branch.LoopBody ++ (st ∷ statements_left within i.top.cursor)) a))
