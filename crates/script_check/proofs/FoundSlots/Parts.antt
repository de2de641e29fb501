-- What a part of a script names, told of each kind of part.
use Rattle.std.proofs.Common.{◌≡◌, ℕ, Bool, List, [], ◌∷◌, ◌++◌, map, Option, rules}
use Rattle.script_grammar.specs.declared.tree.Name.{Name}
use Rattle.script_grammar.specs.declared.tree.Number.{Number}
use Rattle.script_grammar.specs.declared.tree.Comparison.{Comparison}
use Rattle.script_grammar.specs.declared.tree.Expr.{Expr, the_lemmas}
use Rattle.script_grammar.specs.declared.tree.Expr.TheVariants as expr
use Rattle.script_grammar.specs.declared.tree.SumPart.{SumPart}
use Rattle.script_grammar.specs.declared.tree.ProductPart.{ProductPart}
use Rattle.script_grammar.specs.declared.tree.CallText.{CallText}
use Rattle.script_grammar.specs.declared.tree.Right.{Right}
use Rattle.script_grammar.specs.declared.tree.Stmt.{Stmt}
use Rattle.script_grammar.specs.declared.tree.Act.{Act}
use Rattle.script_grammar.specs.declared.tree.Act.{the_lemmas as act_lemmas}
use Rattle.script_grammar.specs.declared.tree.Act.TheVariants as act
use Rattle.script_grammar.specs.declared.tree.Act.TheFolds.{fold-Act}
use Rattle.script_check.specs.Slots.{joined, named_in, named_in_summand, named_in_factor, named_in_act, named_in_all, named_in_block, named_in_right, named_in_statement, named_in_target, every_in, every_in_summand, every_in_factor}

-- Expressions

pub named-number : (n : Number) → named_in (expr.Number n) ≡ []
named-number n = search (rules, the_lemmas)

pub named-var : (x : Name) → named_in (expr.Var x) ≡ x ∷ []
named-var x = search (rules, the_lemmas)

pub named-item : (x : Name) (i : Expr) → named_in (expr.Item x i) ≡ x ∷ named_in i
named-item x i = search (rules, the_lemmas)

pub named-neg : (at : ℕ) (e : Expr) → named_in (expr.Neg at e) ≡ named_in e
named-neg at e = search (rules, the_lemmas)

pub named-same : (at : ℕ) (a b : Expr) → named_in (expr.Same at a b) ≡ named_in a ++ named_in b
named-same at a b = search (rules, the_lemmas)

pub named-older : (at : ℕ) (a b : Expr) → named_in (expr.Older at a b) ≡ named_in a ++ named_in b
named-older at a b = search (rules, the_lemmas)

pub named-compare : (a : Expr) (how : Comparison) (b : Expr) → named_in (expr.Compare a how b) ≡ named_in a ++ named_in b
named-compare a how b = search (rules, the_lemmas)

pub named-sum : (e : Expr) (ps : List SumPart) → named_in (expr.Sum e ps) ≡ named_in e ++ joined (map named_in_summand ps)
named-sum e ps = search (rules, the_lemmas)

pub named-product : (e : Expr) (ps : List ProductPart) → named_in (expr.Product e ps) ≡ named_in e ++ joined (map named_in_factor ps)
named-product e ps = search (rules, the_lemmas)

pub named-summand : (p : SumPart) → named_in_summand p ≡ named_in p.operand
named-summand p = search (rules, the_lemmas)

pub named-factor : (p : ProductPart) → named_in_factor p ≡ named_in p.operand
named-factor p = search (rules, the_lemmas)

module _ (is : Name → Bool) where
  pub every-summand : (p : SumPart) → every_in_summand is p ≡ every_in is p.operand
  every-summand p = search (rules, the_lemmas)

  pub every-factor : (p : ProductPart) → every_in_factor is p ≡ every_in is p.operand
  every-factor p = search (rules, the_lemmas)

-- Statements

abbrev pub named_what : Act → List Name
named_what = fold-Act (List Name) (List Name) named_in_act (λ s. s.act)

pub named-is : (s : Stmt) → named_in_statement s ≡ named_what s.act
named-is s = search (rules, act_lemmas)

pub named-let : (x : Name) (r : Right) → named_what (act.Let x r) ≡ x ∷ named_in_right r
named-let x r = search (rules, act_lemmas)

pub named-array : (x : Name) (n : Number) → named_what (act.Array x n) ≡ x ∷ []
named-array x n = search (rules, act_lemmas)

pub named-set : (x : Name) (r : Right) → named_what (act.Set x r) ≡ x ∷ named_in_right r
named-set x r = search (rules, act_lemmas)

pub named-store : (x : Name) (i e : Expr) → named_what (act.Store x i e) ≡ x ∷ (named_in i ++ named_in e)
named-store x i e = search (rules, act_lemmas)

pub named-spawn : (c : CallText) → named_what (act.Spawn c) ≡ named_in_all c.args
named-spawn c = search (rules, act_lemmas)

pub named-call : (c : CallText) → named_what (act.Call c) ≡ named_in_all c.args
named-call c = search (rules, act_lemmas)

pub named-sync : named_what act.Sync ≡ []
named-sync = search (rules, act_lemmas)

pub named-print : (e : Expr) → named_what (act.Print e) ≡ named_in e
named-print e = search (rules, act_lemmas)

pub named-if : (e : Expr) (a b : List Stmt) → named_what (act.If e a b) ≡ named_in e ++ (named_in_block a ++ named_in_block b)
named-if e a b = search (rules, act_lemmas)

pub named-while : (e : Expr) (a : List Stmt) → named_what (act.While e a) ≡ named_in e ++ named_in_block a
named-while e a = search (rules, act_lemmas)

pub named-pfor : (x : Name) (lo hi : Expr) (target : Option Name) (c : CallText) →
    named_what (act.Pfor x lo hi target c) ≡ named_in lo ++ (named_in hi ++ (named_in_target target ++ named_in_all c.args))
named-pfor x lo hi target c = search (rules, act_lemmas)

pub named-scope : (a : List Stmt) → named_what (act.Scope a) ≡ named_in_block a
named-scope a = search (rules, act_lemmas)
