-- Which statements of a function's body, or of a scope's block, are left, by the blocks that were entered and the index in the innermost one.
use Rattle.std.specs.Prelude.{◌≡◌, ℕ, ◌-◌, ◌<◌, List, [], ◌∷◌, ◌++◌, Option, Some, None, length, slice_get, drop, ◌⊎◌}
use Rattle.script_grammar.specs.declared.tree.Expr.{Expr}
use Rattle.script_grammar.specs.declared.tree.Stmt.{Stmt, out-Stmt}
use Rattle.script_grammar.specs.declared.tree.Act.{Act, out-Act}
use Rattle.script_grammar.specs.declared.tree.Act.TheOpen as act
use Rattle.script_grammar.specs.declared.tree.Act.TheOpen.{Act-F}
use Rattle.strand_moves.specs.declared.cursor.Branch.{Branch}
use Rattle.strand_moves.specs.declared.cursor.Branch.TheVariants as branch
use Rattle.strand_moves.specs.declared.cursor.Entered.{Entered}
use Rattle.strand_moves.specs.declared.cursor.Cursor.{Cursor}

-- a block of a statement, and no statements where it has no such block
abbrev pub branch_of : Act-F Act Stmt → Branch → List Stmt
branch_of (act.If e a b) branch.Yes = a
branch_of (act.If e a b) branch.No = b
branch_of (act.While e a) branch.LoopBody = a
branch_of _ p = []

abbrev pub branch_at : Option Stmt → Branch → List Stmt
branch_at None p = []
branch_at (Some st) p = branch_of (out-Act (out-Stmt st).act) p

-- the index of the statement that was entered: the enclosing block goes on at a loop itself, and after an `if`
abbrev pub entered_at : Branch → ℕ → ℕ
entered_at branch.Yes back = back - 1
entered_at branch.No back = back - 1
entered_at branch.LoopBody back = back

abbrev pub block_in : List Stmt → Entered → List Stmt
block_in block e = branch_at (slice_get block (entered_at e.branch e.back)) e.branch

-- the innermost block
abbrev pub block_of : List Stmt → List Entered → List Stmt
block_of block [] = block
block_of block (e ∷ es) = block_of (block_in block e) es

-- what is left of the enclosing blocks, from the innermost on
abbrev pub left_around : List Stmt → List Entered → List Stmt
left_around block [] = []
left_around block (e ∷ es) = left_around (block_in block e) es ++ drop e.back block

-- the statements left of a function's body
unfoldable pub statements_left : List Stmt → Cursor → List Stmt
statements_left body c = drop c.next (block_of body c.entered.items) ++ left_around body c.entered.items

-- a scope's block, and no statements where this is no scope
abbrev pub scope_of : Act-F Act Stmt → List Stmt
scope_of (act.Scope a) = a
scope_of _ = []

abbrev pub scope_at : Option Stmt → List Stmt
scope_at None = []
scope_at (Some st) = scope_of (out-Act (out-Stmt st).act)

-- the block of the scope after which the cursor stands
abbrev pub scope_after : List Stmt → Cursor → List Stmt
scope_after body c = scope_at (slice_get (block_of body c.entered.items) (c.next - 1))

-- The cursor stands after this statement.
pub record IsAfterStatement (body : List Stmt) (c : Cursor) (st : Stmt) : Type 0 where
  pub some : 0 < c.next
  pub there : slice_get (block_of body c.entered.items) (c.next - 1) ≡ Some st

-- The cursor passes this statement, the next one.
pub record PassesStatement (body : List Stmt) (old new : Cursor) (st : Stmt) : Type 0 where
  pub first : statements_left body old ≡ st ∷ statements_left body new
  pub after : IsAfterStatement body new st

-- The cursor enters a block of the statement after which it stood.
pub record Enters (old new : Cursor) : Type 0 where
  pub last : Entered
  pub entered : new.entered.items ≡ old.entered.items ++ last ∷ []
  pub from : entered_at last.branch last.back ≡ old.next - 1
  pub first : new.next ≡ 0

-- the same, or it stays
abbrev pub MayEnter : Cursor → Cursor → Type 0
MayEnter old new = (new ≡ old) ⊎ Enters old new

-- The innermost block is one of this statement.
pub record HasEntered (body : List Stmt) (c : Cursor) (st : Stmt) : Type 0 where
  pub around : List Entered
  pub last : Entered
  pub entered : c.entered.items ≡ around ++ last ∷ []
  pub there : slice_get (block_of body around) (entered_at last.branch last.back) ≡ Some st

-- The innermost block is the body of a loop with this condition.
pub record IsInLoop (body : List Stmt) (c : Cursor) (e : Expr) : Type 0 where
  pub around : List Entered
  pub last : Entered
  pub entered : c.entered.items ≡ around ++ last ∷ []
  pub of_loop : last.branch ≡ branch.LoopBody
  pub loop : Stmt
  pub there : slice_get (block_of body around) last.back ≡ Some loop
  pub is : out-Act (out-Stmt loop).act ≡ act.While e (block_of body c.entered.items)

-- the same where the condition is known
abbrev pub IsAround : List Stmt → Cursor → Option Expr → Type 0
IsAround body c None = Unit {0}
IsAround body c (Some e) = IsInLoop body c e

-- and where a statement of its body is left, which is this block
abbrev pub IsStillIn : List Stmt → List Stmt → Cursor → Option Expr → Type 0
IsStillIn body block c None = Unit {0}
IsStillIn body block c (Some e) = IsInLoop body c e × (c.next < length block)
