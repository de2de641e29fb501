-- A move that is a statement.
use Rattle.std.proofs.Common.{◌≡◌, ℕ, zero, suc, List, ◌∷◌, refl, sym, ap, ◌∙◌}
use Rattle.script_grammar.specs.declared.tree.Stmt.{Stmt}
use Rattle.serial_meaning.specs.Plan.{PlanView}
use Rattle.strand_meaning.specs.Machine.{Machine, move, move_at, statement_move}
use Rattle.strand_moves.proofs.Statements.Equations.{paid-move, unpaid-move}

module _ (plan : PlanView) (path : List ℕ) (m : Machine) (st : Stmt) (left : List Stmt) where
  abbrev after : Machine
  after = record m { top = record m.top { left = left } }

  -- what is left of the machine's statements doesn't count
  left-alone : statement_move plan path m st left ≡ statement_move plan path after st left
  left-alone = by_steps m.steps refl
    where
      by_steps : (n : ℕ) → m.steps ≡ n → statement_move plan path m st left ≡ statement_move plan path after st left
      by_steps zero e = unpaid-move plan path m st left e ∙ sym (unpaid-move plan path after st left e)
      by_steps (suc n) e = paid-move plan path m st left n e ∙ sym (paid-move plan path after st left n e)

  pub moves-on : m.top.left ≡ st ∷ left → move plan path m ≡ statement_move plan path after st left
  moves-on e = ap (λ (l : List Stmt). move_at plan path m l) e ∙ left-alone
