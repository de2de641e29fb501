-- Induction over statements.
use Rattle.std.proofs.Common.{◌≡◌, ℕ, Bool, true, false, ◌||◌, List, [], ◌∷◌, map, ap, subst, ◌∙◌, rules}
use Rattle.script_grammar.specs.declared.tree.Stmt.{Stmt, roll-Stmt, ind-Stmt, fold-roll-Stmt}
use Rattle.script_grammar.specs.declared.tree.Act.{Act, roll-Act, map-Act, fold-roll-Act, the_lemmas}
use Rattle.script_grammar.specs.declared.tree.Act.TheVariants as variant
use Rattle.script_grammar.specs.declared.tree.Expr.{Expr}
use Rattle.script_grammar.specs.declared.tree.Act.TheOpen as act
use Rattle.script_grammar.specs.declared.tree.Act.TheOpen.{Act-F, Stmt-F}
use Rattle.script_check.specs.Statements.{Judged, judge_act, judge, judge_what, judge_all}
use Rattle.script_check.specs.Walk.{keeps_act, keeps, keeps_what, keeps_all}

-- each statement of a list has it
abbrev pub Each : (Stmt → Type 0) → List Stmt → Type 0
Each Q [] = Unit {0}
Each Q (s ∷ ss) = Q s × Each Q ss

-- each statement inside has it
abbrev pub Inside : (Stmt → Type 0) → Act-F Act Stmt → Type 0
Inside Q (act.Let x r) = Unit {0}
Inside Q (act.Array x n) = Unit {0}
Inside Q (act.Set x r) = Unit {0}
Inside Q (act.Store x i e) = Unit {0}
Inside Q (act.Spawn c) = Unit {0}
Inside Q (act.Call c) = Unit {0}
Inside Q act.Sync = Unit {0}
Inside Q (act.Print e) = Unit {0}
Inside Q (act.If e a b) = Each Q a × Each Q b
Inside Q (act.While e a) = Each Q a
Inside Q (act.Pfor x lo hi target c) = Unit {0}
Inside Q (act.Scope a) = Each Q a

-- a statement with what it does in the open
abbrev pub statement : ℕ → Act-F Act Stmt → Stmt
statement at d = roll-Stmt (record { at = at; act = roll-Act d })

module _ (Q : Stmt → Type 0) where
  each : {S : Type 0} (tree : S → Stmt) → ((s : S) → Q (tree s)) → (xs : List S) → Each Q (map tree xs)
  each tree h [] = tt
  each tree h (x ∷ xs) = (h x, each tree h xs)

  inside : {A S : Type 0} (what : A → Act) (tree : S → Stmt) → ((s : S) → Q (tree s)) → (d : Act-F A S) → Inside Q (map-Act A S Act Stmt what tree d)
  inside what tree h (act.Let x r) = tt
  inside what tree h (act.Array x n) = tt
  inside what tree h (act.Set x r) = tt
  inside what tree h (act.Store x i e) = tt
  inside what tree h (act.Spawn c) = tt
  inside what tree h (act.Call c) = tt
  inside what tree h act.Sync = tt
  inside what tree h (act.Print e) = tt
  inside what tree h (act.If e a b) = (each tree h a, each tree h b)
  inside what tree h (act.While e a) = each tree h a
  inside what tree h (act.Pfor x lo hi target c) = tt
  inside what tree h (act.Scope a) = each tree h a

  pub induct : ((at : ℕ) (d : Act-F Act Stmt) → Inside Q d → Q (statement at d)) → (s : Stmt) → Q s
  induct step =
      ind-Stmt (λ a. (at : ℕ) → Q (roll-Stmt (record { at = at; act = a }))) Q
      (λ x y h at. subst (λ (d : Act-F Act Stmt). Q (statement at d)) h (step at (map-Act _ _ Act Stmt (λ e. e.0) (λ e. e.0) y) (inside (λ e. e.0) (λ e. e.0) (λ e. e.1) y)))
      (λ x y h. subst (λ (d : Stmt-F Act Stmt). Q (roll-Stmt d)) h (y.act.1 y.at))

  pub induct_each : ((s : Stmt) → Q s) → (ss : List Stmt) → Each Q ss
  induct_each h [] = tt
  induct_each h (s ∷ ss) = (h s, induct_each h ss)

-- what is told of a statement is told of what it does
pub judge_open : (at : ℕ) (d : Act-F Act Stmt) → judge (statement at d) ≡ judge_act (map-Act Act Stmt (ℕ → Judged) Judged judge_what judge d) at
judge_open at d =
    fold-roll-Stmt (ℕ → Judged) Judged judge_act (λ s. s.act s.at) (record { at = at; act = roll-Act d })
    ∙ ap (λ (j : ℕ → Judged). j at) (fold-roll-Act (ℕ → Judged) Judged judge_act (λ s. s.act s.at) d)

pub keeps_open : (at : ℕ) (d : Act-F Act Stmt) → keeps (statement at d) ≡ keeps_act (map-Act Act Stmt Bool Bool keeps_what keeps d)
keeps_open at d =
    fold-roll-Stmt Bool Bool keeps_act (λ s. s.act) (record { at = at; act = roll-Act d })
    ∙ fold-roll-Act Bool Bool keeps_act (λ s. s.act) d

pub judge_is : (s : Stmt) → judge s ≡ judge_what s.act s.at
judge_is s = search (rules, the_lemmas)

pub keeps_is : (s : Stmt) → keeps s ≡ keeps_what s.act
keeps_is s = search (rules, the_lemmas)

-- an `if` and a `while`, with what is told of their blocks
pub judge_if : (at : ℕ) (e : Expr) (a b : List Stmt) → judge_what (variant.If e a b) at ≡ judge_act (act.If e (judge_all a) (judge_all b)) at
judge_if at e a b = search (rules, the_lemmas)

pub keeps_if : (e : Expr) (a b : List Stmt) → keeps_what (variant.If e a b) ≡ (keeps_all a || keeps_all b)
keeps_if e a b = search (rules, the_lemmas)

pub judge_while : (at : ℕ) (e : Expr) (a : List Stmt) → judge_what (variant.While e a) at ≡ judge_act (act.While e (judge_all a)) at
judge_while at e a = search (rules, the_lemmas)

pub keeps_while : (e : Expr) (a : List Stmt) → keeps_what (variant.While e a) ≡ true
keeps_while e a = search (rules, the_lemmas)

pub judge_scope : (at : ℕ) (a : List Stmt) → judge_what (variant.Scope a) at ≡ judge_act (act.Scope (judge_all a)) at
judge_scope at a = search (rules, the_lemmas)

pub keeps_scope : (a : List Stmt) → keeps_what (variant.Scope a) ≡ false
keeps_scope a = search (rules, the_lemmas)
