-- Where the tables have each variable that a statement names and each function that it calls, they have those of its parts.
use Rattle.std.proofs.Common.{◌≡◌, ℕ, Bool, true, ◌&&◌, inl, inr, List, Option, Some, None, refl, sym, subst}
use Rattle.std.proofs.lemmas.Bool.{and_parts}
use Rattle.script_grammar.specs.declared.tree.Name.{Name}
use Rattle.script_grammar.specs.declared.tree.Number.{Number}
use Rattle.script_grammar.specs.declared.tree.Expr.{Expr}
use Rattle.script_grammar.specs.declared.tree.CallText.{CallText}
use Rattle.script_grammar.specs.declared.tree.Right.{Right}
use Rattle.script_grammar.specs.declared.tree.Right.TheVariants as right
use Rattle.script_grammar.specs.declared.tree.Stmt.{Stmt, out-Stmt}
use Rattle.script_grammar.specs.declared.tree.Act.{out-Act}
use Rattle.script_grammar.specs.declared.tree.Act.TheOpen as act
use Rattle.script_check.specs.Slots.{every_in, every_in_all, every_in_block, every_in_right, every_in_statement, every_in_target}
use Rattle.serial_meaning.specs.Plan.{PlanView}
use Rattle.strand_moves.specs.declared.instance_parts.InstanceParts.{InstanceParts}
use Rattle.strand_moves.specs.Found.{EveryInSpawn, FindsStatement}
use Rattle.strand_moves.specs.FastPath.{Draws, GivesValue}
use Rattle.strand_meaning.proofs.FoundTargets.LeftStatements.{opened-found}

module _ (is calls : Name → Bool) where
  -- a right side
  pub in_value : (r : Right) (e : Expr) → r ≡ right.Value e → every_in_right is calls r ≡ true → every_in is e ≡ true
  in_value r e same h = subst (λ (s : Right). every_in_right is calls s ≡ true) same h

  pub in_called : (r : Right) (at : ℕ) (c : CallText) → r ≡ right.Call at c → every_in_right is calls r ≡ true → (calls c.name ≡ true) × (every_in_all is c.args ≡ true)
  in_called r at c same h = and_parts (calls c.name) (every_in_all is c.args) (subst (λ (s : Right). every_in_right is calls s ≡ true) same h)

  pub in_spawned : (r : Right) (at : ℕ) (c : CallText) → r ≡ right.Spawn at c → every_in_right is calls r ≡ true → (calls c.name ≡ true) × (every_in_all is c.args ≡ true)
  in_spawned r at c same h = and_parts (calls c.name) (every_in_all is c.args) (subst (λ (s : Right). every_in_right is calls s ≡ true) same h)

  module _ (st : Stmt) (h : every_in_statement is calls st ≡ true) where
    pub in_let : (x : Name) (r : Right) → out-Act (out-Stmt st).act ≡ act.Let x r → (is x ≡ true) × (every_in_right is calls r ≡ true)
    in_let x r e = and_parts (is x) (every_in_right is calls r) (opened-found is calls st (act.Let x r) e h)

    pub in_set : (x : Name) (r : Right) → out-Act (out-Stmt st).act ≡ act.Set x r → (is x ≡ true) × (every_in_right is calls r ≡ true)
    in_set x r e = and_parts (is x) (every_in_right is calls r) (opened-found is calls st (act.Set x r) e h)

    pub in_given : (x : Name) (e : Expr) → GivesValue (out-Act (out-Stmt st).act) x e → (is x ≡ true) × (every_in is e ≡ true)
    in_given x e (inl let-is) = in_let x (right.Value e) let-is
    in_given x e (inr set-is) = in_set x (right.Value e) set-is

    pub in_drawn : (x : Name) → Draws (out-Act (out-Stmt st).act) x → is x ≡ true
    in_drawn x (at, inl let-is) = (in_let x (right.Draw at) let-is).0
    in_drawn x (at, inr set-is) = (in_set x (right.Draw at) set-is).0

    pub in_array : (x : Name) (n : Number) → out-Act (out-Stmt st).act ≡ act.Array x n → is x ≡ true
    in_array x n e = opened-found is calls st (act.Array x n) e h

    pub in_store : (x : Name) (i d : Expr) → out-Act (out-Stmt st).act ≡ act.Store x i d → (is x ≡ true) × ((every_in is i ≡ true) × (every_in is d ≡ true))
    in_store x i d e = let parts = and_parts (is x) (every_in is i && every_in is d) (opened-found is calls st (act.Store x i d) e h) in (parts.0, and_parts (every_in is i) (every_in is d) parts.1)

    pub in_spawn : (c : CallText) → out-Act (out-Stmt st).act ≡ act.Spawn c → (calls c.name ≡ true) × (every_in_all is c.args ≡ true)
    in_spawn c e = and_parts (calls c.name) (every_in_all is c.args) (opened-found is calls st (act.Spawn c) e h)

    pub in_call : (c : CallText) → out-Act (out-Stmt st).act ≡ act.Call c → (calls c.name ≡ true) × (every_in_all is c.args ≡ true)
    in_call c e = and_parts (calls c.name) (every_in_all is c.args) (opened-found is calls st (act.Call c) e h)

    pub in_print : (d : Expr) → out-Act (out-Stmt st).act ≡ act.Print d → every_in is d ≡ true
    in_print d e = opened-found is calls st (act.Print d) e h

    pub in_if : (d : Expr) (first second : List Stmt) → out-Act (out-Stmt st).act ≡ act.If d first second → every_in is d ≡ true
    in_if d first second e = (and_parts (every_in is d) (every_in_block is calls first && every_in_block is calls second) (opened-found is calls st (act.If d first second) e h)).0

    pub in_while : (d : Expr) (body : List Stmt) → out-Act (out-Stmt st).act ≡ act.While d body → every_in is d ≡ true
    in_while d body e = (and_parts (every_in is d) (every_in_block is calls body) (opened-found is calls st (act.While d body) e h)).0

    pub in_pfor : (x : Name) (lo hi : Expr) (target : Option Name) (c : CallText) → out-Act (out-Stmt st).act ≡ act.Pfor x lo hi target c →
        (every_in is lo ≡ true) × ((every_in is hi ≡ true) × ((every_in_target is target ≡ true) × ((calls c.name ≡ true) × (every_in_all is c.args ≡ true))))
    in_pfor x lo hi target c e =
        let call = calls c.name && every_in_all is c.args in
        let first = and_parts (every_in is lo) (every_in is hi && (every_in_target is target && call)) (opened-found is calls st (act.Pfor x lo hi target c) e h) in
        let second = and_parts (every_in is hi) (every_in_target is target && call) first.1 in
        let third = and_parts (every_in_target is target) call second.1 in
        (first.0, (second.0, (third.0, and_parts (calls c.name) (every_in_all is c.args) third.1)))

    -- a spawn
    pub every-spawn : (c : CallText) → out-Act (out-Stmt st).act ≡ act.Spawn c → EveryInSpawn is calls None c
    every-spawn c e = let call = in_spawn c e in record { target = refl; called = call.0; args = call.1 }

    module _ (x : Name) (r : Right) (at : ℕ) (c : CallText) (same : r ≡ right.Spawn at c) where
      pub every-let : out-Act (out-Stmt st).act ≡ act.Let x r → EveryInSpawn is calls (Some x) c
      every-let e = let call = in_spawned r at c same (in_let x r e).1 in record { target = (in_let x r e).0; called = call.0; args = call.1 }

      pub every-set : out-Act (out-Stmt st).act ≡ act.Set x r → EveryInSpawn is calls (Some x) c
      every-set e = let call = in_spawned r at c same (in_set x r e).1 in record { target = (in_set x r e).0; called = call.0; args = call.1 }

-- after the step of the statement
pub paid-finds : (plan : PlanView) (slots : List ℕ) (i paid : InstanceParts) (n : ℕ) → paid ≡ record i { steps = n } → (st : Stmt) → FindsStatement plan slots i.top.env st → FindsStatement plan slots paid.top.env st
paid-finds plan slots i paid n same st h = subst (λ (x : InstanceParts). FindsStatement plan slots x.top.env st) (sym same) h
