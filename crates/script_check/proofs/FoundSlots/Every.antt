-- What holds of each variable that a function names, and of each name that it calls a function by, holds of each in its text.
use Rattle.std.proofs.Common.{◌≡◌, ℕ, Bool, true, ◌&&◌, List, [], ◌∷◌, ◌++◌, refl, sym, ap, ◌∙◌}
use Rattle.std.proofs.lemmas.Bool.{and_parts}
use Rattle.script_grammar.specs.declared.tree.Name.{Name}
use Rattle.script_grammar.specs.declared.tree.CallText.{CallText}
use Rattle.script_grammar.specs.declared.tree.Function.{Function}
use Rattle.script_grammar.specs.declared.tree.Right.{Right}
use Rattle.script_grammar.specs.declared.tree.Right.TheVariants as right
use Rattle.script_grammar.specs.declared.tree.Stmt.{Stmt, fold-roll-Stmt}
use Rattle.script_grammar.specs.declared.tree.Act.{Act, roll-Act, map-Act, fold-roll-Act}
use Rattle.script_grammar.specs.declared.tree.Act.TheOpen as act
use Rattle.script_grammar.specs.declared.tree.Act.TheOpen.{Act-F}
use Rattle.script_grammar.specs.declared.tree.Act.TheFolds.{fold-Act}
use Rattle.script_check.specs.Slots.{named_in, named_in_all, named_in_right, named_in_target, named_in_act, named_in_statement, named_in_block, named_in_function, called_in_act, called_in_block, called_in_right, called_in_statement, every_in, every_in_all, every_in_right, every_in_target, every_in_act, every_in_statement, every_in_block}
use Rattle.script_check.proofs.FoundSlots.Called.{called_open, called_what}
use Rattle.script_check.proofs.FoundSlots.Named.{all-same, each_is, each-append-both, each-parts, expr-same, named_open, target-same, true-both}
use Rattle.script_check.proofs.FoundSlots.Parts.{named_what}
use Rattle.script_check.proofs.FewerPending.Induction.{Each, Inside, induct, induct_each, statement}

module _ (is calls : Name → Bool) where
  call-every : (c : CallText) → each_is is (named_in_all c.args) ≡ true → each_is calls (c.name ∷ []) ≡ true → (calls c.name && every_in_all is c.args) ≡ true
  call-every c h k = true-both (calls c.name) (every_in_all is c.args) (and_parts (calls c.name) true k).0 (sym (all-same is c.args) ∙ h)

  right-every : (r : Right) → each_is is (named_in_right r) ≡ true → each_is calls (called_in_right r) ≡ true → every_in_right is calls r ≡ true
  right-every (right.Value e) h k = sym (expr-same is e) ∙ h
  right-every (right.Draw at) h k = refl
  right-every (right.New at) h k = refl
  right-every (right.Call at c) h k = call-every c h k
  right-every (right.Spawn at c) h k = call-every c h k

  set-every : (x : Name) (r : Right) → each_is is (x ∷ named_in_right r) ≡ true → each_is calls (called_in_right r) ≡ true → (is x && every_in_right is calls r) ≡ true
  set-every x r h k = let p = and_parts (is x) (each_is is (named_in_right r)) h in true-both (is x) (every_in_right is calls r) p.0 (right-every r p.1 k)

  abbrev IsEvery : Stmt → Type 0
  IsEvery s = each_is is (named_in_statement s) ≡ true → each_is calls (called_in_statement s) ≡ true → every_in_statement is calls s ≡ true

  abbrev every_what : Act → Bool
  every_what = fold-Act Bool Bool (every_in_act is calls) (λ s. s.act)

  every_open : (at : ℕ) (d : Act-F Act Stmt) → every_in_statement is calls (statement at d) ≡ every_in_act is calls (map-Act Act Stmt Bool Bool every_what (every_in_statement is calls) d)
  every_open at d =
      fold-roll-Stmt Bool Bool (every_in_act is calls) (λ s. s.act) (record { at = at; act = roll-Act d })
      ∙ fold-roll-Act Bool Bool (every_in_act is calls) (λ s. s.act) d

  block-every : (ss : List Stmt) → Each IsEvery ss → each_is is (named_in_block ss) ≡ true → each_is calls (called_in_block ss) ≡ true → every_in_block is calls ss ≡ true
  block-every [] g h k = refl
  block-every (s ∷ ss) g h k =
      let p = each-parts is (named_in_statement s) (named_in_block ss) h in
      let q = each-parts calls (called_in_statement s) (called_in_block ss) k in
      true-both (every_in_statement is calls s) (every_in_block is calls ss) (g.0 p.0 q.0) (block-every ss g.1 p.1 q.1)

  open-every : (d : Act-F Act Stmt) → Inside IsEvery d → each_is is (named_in_act (map-Act Act Stmt (List Name) (List Name) named_what named_in_statement d)) ≡ true →
      each_is calls (called_in_act (map-Act Act Stmt (List Name) (List Name) called_what called_in_statement d)) ≡ true → every_in_act is calls (map-Act Act Stmt Bool Bool every_what (every_in_statement is calls) d) ≡ true
  open-every (act.Let x r) g h k = set-every x r h k
  open-every (act.Array x n) g h k = (and_parts (is x) true h).0
  open-every (act.Set x r) g h k = set-every x r h k
  open-every (act.Store x i e) g h k = sym (ap (λ b. is x && b) (each-append-both is (named_in i) (named_in e) (every_in is i) (every_in is e) (expr-same is i) (expr-same is e))) ∙ h
  open-every (act.Spawn c) g h k = call-every c h k
  open-every (act.Call c) g h k = call-every c h k
  open-every act.Sync g h k = refl
  open-every (act.Print e) g h k = sym (expr-same is e) ∙ h
  open-every (act.If e a b) g h k =
      let p = each-parts is (named_in e) (named_in_block a ++ named_in_block b) h in
      let q = each-parts is (named_in_block a) (named_in_block b) p.1 in
      let r = each-parts calls (called_in_block a) (called_in_block b) k in
      true-both (every_in is e) (every_in_block is calls a && every_in_block is calls b) (sym (expr-same is e) ∙ p.0)
      (true-both (every_in_block is calls a) (every_in_block is calls b) (block-every a g.0 q.0 r.0) (block-every b g.1 q.1 r.1))
  open-every (act.While e a) g h k =
      let p = each-parts is (named_in e) (named_in_block a) h in
      true-both (every_in is e) (every_in_block is calls a) (sym (expr-same is e) ∙ p.0) (block-every a g p.1 k)
  open-every (act.Pfor x lo hi target c) g h k =
      let p = each-parts is (named_in lo) (named_in hi ++ (named_in_target target ++ named_in_all c.args)) h in
      let q = each-parts is (named_in hi) (named_in_target target ++ named_in_all c.args) p.1 in
      let r = each-parts is (named_in_target target) (named_in_all c.args) q.1 in
      true-both (every_in is lo) (every_in is hi && (every_in_target is target && (calls c.name && every_in_all is c.args))) (sym (expr-same is lo) ∙ p.0)
      (true-both (every_in is hi) (every_in_target is target && (calls c.name && every_in_all is c.args)) (sym (expr-same is hi) ∙ q.0)
      (true-both (every_in_target is target) (calls c.name && every_in_all is c.args) (sym (target-same is target) ∙ r.0) (call-every c r.1 k)))
  open-every (act.Scope a) g h k = block-every a g h k

  stmt-every : (s : Stmt) → IsEvery s
  stmt-every = induct IsEvery (λ at d g h k. every_open at d ∙ open-every d g (ap (each_is is) (sym (named_open at d)) ∙ h) (ap (each_is calls) (sym (called_open at d)) ∙ k))

  pub function-every : (f : Function) → each_is is (named_in_function f) ≡ true → each_is calls (called_in_block f.body) ≡ true → (every_in_block is calls f.body && every_in is f.result) ≡ true
  function-every f h k =
      let p = each-parts is (named_in_block f.body) (named_in f.result) h in
      true-both (every_in_block is calls f.body) (every_in is f.result) (block-every f.body (induct_each IsEvery stmt-every f.body) p.0 k) (sym (expr-same is f.result) ∙ p.1)
