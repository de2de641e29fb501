-- The statements among which a frame's cursor stands are its function's, so that the tables have each variable that they name and each function that they call.
use Rattle.std.proofs.Common.{◌≡◌, ℕ, ◌-◌, Bool, true, ◌&&◌, List, [], ◌∷◌, Option, Some, None, reverse, slice_get, refl, ap, ◌∙◌}
use Rattle.std.proofs.lemmas.Bool.{and_parts}
use Rattle.std.proofs.lemmas.List.Elements.{All-head}
use Rattle.script_grammar.specs.declared.tree.Name.{Name}
use Rattle.script_grammar.specs.declared.tree.Function.{Function}
use Rattle.script_grammar.specs.declared.tree.Stmt.{Stmt, out-Stmt}
use Rattle.script_grammar.specs.declared.tree.Act.{Act, out-Act}
use Rattle.script_grammar.specs.declared.tree.Act.TheOpen as act
use Rattle.script_grammar.specs.declared.tree.Act.TheOpen.{Act-F}
use Rattle.script_check.specs.Slots.{every_in, every_in_block, every_in_statement, finds_callee, finds_in, has_slot, stand_from, variable_names}
use Rattle.serial_meaning.specs.Plan.{PlanView, functions_of}
use Rattle.strand_meaning.proofs.FoundTargets.LeftStatements.{one-of, opened, opened-found}
use Rattle.strand_moves.specs.declared.cursor.Branch.{Branch}
use Rattle.strand_moves.specs.declared.cursor.Branch.TheVariants as branch
use Rattle.strand_moves.specs.declared.cursor.Entered.{Entered}
use Rattle.strand_moves.specs.declared.frame.Frame.{Frame}
use Rattle.strand_moves.specs.declared.frame.Level.{Level}
use Rattle.strand_moves.specs.declared.instance_parts.InstanceParts.{InstanceParts}
use Rattle.strand_moves.specs.Cursors.{IsAfterStatement, block_in, block_of, branch_at, branch_of, entered_at, scope_at, scope_of}
use Rattle.strand_moves.specs.Found.{AreSlots, FindsStatement}
use Rattle.strand_moves.specs.InstanceParts.{AreNamed, IsNamed, block_inside, body_in, body_of, statements_of}

module _ (is calls : Name → Bool) where
  branch-found : (a : Act-F Act Stmt) (p : Branch) → opened is calls a ≡ true → every_in_block is calls (branch_of a p) ≡ true
  branch-found (act.Let x r) p h = refl
  branch-found (act.Array x n) p h = refl
  branch-found (act.Set x r) p h = refl
  branch-found (act.Store x i e) p h = refl
  branch-found (act.Spawn c) p h = refl
  branch-found (act.Call c) p h = refl
  branch-found act.Sync p h = refl
  branch-found (act.Print e) p h = refl
  branch-found (act.If e first second) branch.Yes h =
      let both = and_parts (every_in is e) (every_in_block is calls first && every_in_block is calls second) h in (and_parts (every_in_block is calls first) (every_in_block is calls second) both.1).0
  branch-found (act.If e first second) branch.No h =
      let both = and_parts (every_in is e) (every_in_block is calls first && every_in_block is calls second) h in (and_parts (every_in_block is calls first) (every_in_block is calls second) both.1).1
  branch-found (act.If e first second) branch.LoopBody h = refl
  branch-found (act.While e body) branch.Yes h = refl
  branch-found (act.While e body) branch.No h = refl
  branch-found (act.While e body) branch.LoopBody h = (and_parts (every_in is e) (every_in_block is calls body) h).1
  branch-found (act.Pfor x lo hi target c) p h = refl
  branch-found (act.Scope block) p h = refl

  scope-found : (a : Act-F Act Stmt) → opened is calls a ≡ true → every_in_block is calls (scope_of a) ≡ true
  scope-found (act.Let x r) h = refl
  scope-found (act.Array x n) h = refl
  scope-found (act.Set x r) h = refl
  scope-found (act.Store x i e) h = refl
  scope-found (act.Spawn c) h = refl
  scope-found (act.Call c) h = refl
  scope-found act.Sync h = refl
  scope-found (act.Print e) h = refl
  scope-found (act.If e first second) h = refl
  scope-found (act.While e body) h = refl
  scope-found (act.Pfor x lo hi target c) h = refl
  scope-found (act.Scope block) h = h

  entered : (block : List Stmt) (e : Entered) → every_in_block is calls block ≡ true → every_in_block is calls (block_in block e) ≡ true
  entered block e h = by (slice_get block (entered_at e.branch e.back)) refl
    where
      by : (o : Option Stmt) → slice_get block (entered_at e.branch e.back) ≡ o → every_in_block is calls (branch_at o e.branch) ≡ true
      by None i = refl
      by (Some st) i =
          branch-found (out-Act (out-Stmt st).act) e.branch (opened-found is calls st (out-Act (out-Stmt st).act) refl (one-of (every_in_statement is calls) block (entered_at e.branch e.back) st h i))

  block-found : (block : List Stmt) (es : List Entered) → every_in_block is calls block ≡ true → every_in_block is calls (block_of block es) ≡ true
  block-found block [] h = h
  block-found block (e ∷ es) h = block-found (block_in block e) es (entered block e h)

  inside-found : (body : List Stmt) (ls : List Level) → every_in_block is calls body ≡ true → every_in_block is calls (block_inside body ls) ≡ true
  inside-found body [] h = h
  inside-found body (l ∷ ls) h = by (inside-found body ls h) (slice_get there (l.cursor.next - 1)) refl
    where
      there : List Stmt
      there = block_of (block_inside body ls) l.cursor.entered.items

      by : every_in_block is calls (block_inside body ls) ≡ true → (o : Option Stmt) → slice_get there (l.cursor.next - 1) ≡ o → every_in_block is calls (scope_at o) ≡ true
      by all None i = refl
      by all (Some st) i =
          let found = one-of (every_in_statement is calls) there (l.cursor.next - 1) st (block-found (block_inside body ls) l.cursor.entered.items all) i in
          scope-found (out-Act (out-Stmt st).act) (opened-found is calls st (out-Act (out-Stmt st).act) refl found)

-- the statement after which a frame's cursor stands
module _ (plan : PlanView) (slots : List ℕ) (a : Frame) (all : AreSlots slots plan) (named : IsNamed plan a) where
  abbrev has_own : Name → Bool
  has_own = has_slot slots a.env.names

  abbrev has_callee : Name → Bool
  has_callee = finds_callee (functions_of plan)

  abbrev own_names : List (List ℕ)
  own_names = variable_names named.function

  own : every_in_block (has_slot slots own_names) has_callee named.function.body ≡ true
  own =
      let found = one-of (finds_in slots (functions_of plan)) (functions_of plan) a.function named.function all.found named.of_plan in
      let body = every_in_block (has_slot slots own_names) has_callee named.function.body in
      let value = every_in (has_slot slots own_names) named.function.result in
      (and_parts body value (and_parts (stand_from 0 own_names named.function.params) (body && value) found).1).0

  body-found : every_in_block has_own has_callee (body_of plan a.function) ≡ true
  body-found =
      ap (λ (o : Option Function). every_in_block has_own has_callee (body_in o)) named.of_plan
      ∙ ap (λ (ns : List (List ℕ)). every_in_block (has_slot slots ns) has_callee named.function.body) named.names
      ∙ own

  -- a statement of these blocks
  pub at-found : (es : List Entered) (n : ℕ) (st : Stmt) → slice_get (block_of (statements_of plan a) es) n ≡ Some st → FindsStatement plan slots a.env st
  at-found es n st there =
      one-of (every_in_statement has_own has_callee) (block_of (statements_of plan a) es) n st
      (block-found has_own has_callee (statements_of plan a) es (inside-found has_own has_callee (body_of plan a.function) (reverse a.levels.items) body-found)) there

  pub statement-found : (st : Stmt) → IsAfterStatement (statements_of plan a) a.cursor st → FindsStatement plan slots a.env st
  statement-found st after = at-found a.cursor.entered.items (a.cursor.next - 1) st after.there

-- the same of an instance's innermost frame
pub next-found : (plan : PlanView) (slots : List ℕ) (i : InstanceParts) → AreSlots slots plan → AreNamed plan i → (st : Stmt) → IsAfterStatement (statements_of plan i.top) i.top.cursor st → FindsStatement plan slots i.top.env st
next-found plan slots i all named st after = statement-found plan slots i.top all (All-head (IsNamed plan) i.top i.below.items named.each) st after

-- and one of the blocks in which it stands
pub there-found : (plan : PlanView) (slots : List ℕ) (i : InstanceParts) → AreSlots slots plan → AreNamed plan i → (es : List Entered) (n : ℕ) (st : Stmt) → slice_get (block_of (statements_of plan i.top) es) n ≡ Some st → FindsStatement plan slots i.top.env st
there-found plan slots i all named es n st there = at-found plan slots i.top all (All-head (IsNamed plan) i.top i.below.items named.each) es n st there
