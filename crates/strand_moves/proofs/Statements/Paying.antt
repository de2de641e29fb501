-- A statement whose step is paid.
use Rattle.std.proofs.Common.{◌≡◌, ℕ, suc, ◌+◌, List, [], ◌∷◌, ◌++◌, Result, refl, sym, ap, ◌∙◌, subst, arith}
use Rattle.script_grammar.specs.declared.tree.Name.{Name}
use Rattle.script_grammar.specs.declared.tree.CallText.{CallText}
use Rattle.script_grammar.specs.declared.tree.Right.TheVariants as right
use Rattle.script_grammar.specs.declared.tree.Stmt.{Stmt, out-Stmt}
use Rattle.script_grammar.specs.declared.tree.Act.{Act, out-Act, out-roll-Act, roll-Act}
use Rattle.script_grammar.specs.declared.tree.Act.TheOpen as act
use Rattle.script_grammar.specs.declared.tree.Act.TheOpen.{Act-F}
use Rattle.serial_meaning.specs.Runs.{Run}
use Rattle.serial_meaning.specs.Plan.{PlanView}
use Rattle.serial_meaning.specs.declared.event.Fault.{Fault}
use Rattle.serial_meaning.specs.declared.event.FaultKind.TheVariants.{Budget}
use Rattle.strand_meaning.specs.Machine.{Effect, Machine, Reached, here_of, statement_move}
use Rattle.strand_values.specs.declared.evaluation_error.EvaluationError as values
use Rattle.strand_moves.specs.declared.instance_parts.InstanceParts.{InstanceParts}
use Rattle.strand_moves.specs.declared.effects.MoveResult.{MoveResult}
use Rattle.strand_moves.specs.Acts.{Acts}
use Rattle.strand_moves.specs.Cursors.{IsAfterStatement}
use Rattle.strand_moves.specs.InstanceParts.{machine_of, path_of, present_of, statements_of}
use Rattle.strand_moves.specs.Moves.{acted, Makes, present_pedigree}
use Rattle.strand_moves.proofs.Statements.Equations.{after_statement, faults, paid-move, unpaid-move}

pub shows-same : (run other : Run Effect Fault Reached) (strand : List ℕ) (m : Machine) (result : Result MoveResult values.EvaluationError) → run ≡ other → Makes other strand m result → Makes run strand m result
shows-same run other strand m result e h = let P : Run Effect Fault Reached → Type 0 = λ r. Makes r strand m result in subst P (sym e) h

-- an act by its variant
pub act-is : (d : Act-F Act Stmt) (a b : Act) → a ≡ b → roll-Act d ≡ b → out-Act a ≡ d
act-is d a b e r = ap (λ (x : Act). out-Act x) (e ∙ sym r) ∙ out-roll-Act d

-- the offset of a word in the text doesn't matter
module _ (plan : PlanView) (path : List ℕ) (m : Machine) (st : Stmt) (x : Name) (at : ℕ) (c : CallText) where
  pub call-at : acted plan path m st (act.Set x (right.Call at c)) ≡ acted plan path m st (act.Set x (right.Call 0 c))
  unfolding acted
  call-at = refl

  pub spawn-at : acted plan path m st (act.Set x (right.Spawn at c)) ≡ acted plan path m st (act.Set x (right.Spawn 0 c))
  unfolding acted
  spawn-at = refl

module _ (plan : PlanView) (i paid : InstanceParts) (n : ℕ) (is-paid : paid ≡ record i { steps = n }) (less : n + 1 ≡ i.steps) where
  pub statement-paid : here_of (path_of i) (machine_of plan i) ≡ present_of i → (st : Stmt) (a : Act-F Act Stmt) (new : InstanceParts) (result : Result MoveResult values.EvaluationError) → out-Act (out-Stmt st).act ≡ a → Acts plan st a paid new result →
      Makes (statement_move plan (path_of i) (machine_of plan i) st (machine_of plan i).top.left) (present_pedigree (present_of i) (machine_of plan i)) (machine_of plan new) result
  statement-paid here st a new result e h =
      let m = machine_of plan i in
      let one : m.steps ≡ suc n = omega arith in
      let acts = rw is-paid at h in
      shows-same (statement_move plan (path_of i) m st m.top.left) (acted plan (present_of i) (record m { steps = n }) st a) (present_pedigree (present_of i) m) (machine_of plan new) result
      (paid-move plan (path_of i) m st m.top.left n one ∙ ap (λ (b : Act-F Act Stmt). acted plan (here_of (path_of i) m) (after_statement m n m.top.left) st b) e
      ∙ ap (λ (p : List ℕ). acted plan p (record m { steps = n }) st a) here) acts

  pub paid-after : (st : Stmt) → IsAfterStatement (statements_of plan i.top) i.top.cursor st → IsAfterStatement (statements_of plan paid.top) paid.top.cursor st
  paid-after st h = let P : InstanceParts → Type 0 = λ x. IsAfterStatement (statements_of plan x.top) x.top.cursor st in subst P (sym is-paid) h

-- a statement for which no step is left
pub statement-unpaid : (plan : PlanView) (i : InstanceParts) (st : Stmt) (left : List Stmt) → i.steps ≡ 0 → here_of (path_of i) (machine_of plan i) ≡ present_of i →
    statement_move plan (path_of i) (machine_of plan i) st left ≡ faults Budget (present_of i ++ i.rank ∷ [])
statement-unpaid plan i st left none here = unpaid-move plan (path_of i) (machine_of plan i) st left none ∙ ap (λ (p : List ℕ). faults Budget (p ++ i.rank ∷ [])) here
