-- What was derived of a tree is so of an equal one, as a value is that was kept for some time.
use Rattle.std.proofs.Common.{◌≡◌, ℕ, List, Option, sym, subst}
use Rattle.script_tokens.specs.declared.token.Lexeme.{Lexeme}
use Rattle.script_text.specs.declared.parser.source.LexedText.{LexedText}
use Rattle.script_grammar.specs.declared.tree.Name.{Name}
use Rattle.script_grammar.specs.declared.tree.Expr.{Expr}
use Rattle.script_grammar.specs.declared.tree.CallText.{CallText}
use Rattle.script_grammar.specs.declared.tree.Stmt.{Stmt}
use Rattle.script_grammar.specs.declared.tree.Act.TheVariants as act
use Rattle.script_grammar.specs.Grammar.{Terminal}
use Rattle.script_text.specs.Reads.{IsElement, IsBounds, IsBody}
use Rattle.script_text.proofs.Parsing.Statements.{ComesAct}

pub element_moved : {ts us : List Terminal} {x x' y : Expr} {L : Type 0} → x' ≡ x → IsElement ts x y us × L → IsElement ts x' y us × L
element_moved {ts = ts} {us = us} {y = y} e m = (subst (λ z. IsElement ts z y us) (sym e) m.0, m.1)

pub bounds_moved : {ts us : List Terminal} {x x' y : Expr} {L : Type 0} → x' ≡ x → IsBounds ts x y us × L → IsBounds ts x' y us × L
bounds_moved {ts = ts} {us = us} {y = y} e m = (subst (λ z. IsBounds ts z y us) (sym e) m.0, m.1)

pub body_moved : {ts us : List Terminal} {p : List Stmt} {at : ℕ} {x x' : Expr} {L : Type 0} → x' ≡ x → IsBody ts p at x us × L → IsBody ts p at x' us × L
body_moved {ts = ts} {us = us} {p = p} {at = at} e m = (subst (λ z. IsBody ts p at z us) (sym e) m.0, m.1)

module _ (source : LexedText) (d : ℕ) (l : Lexeme) (rest last : List Lexeme) where
  pub if_moved : (x x' : Expr) (p p' q : List Stmt) → x' ≡ x → p' ≡ p → ComesAct source d l rest (act.If x p q) last → ComesAct source d l rest (act.If x' p' q) last
  if_moved x x' p p' q e f m = subst (λ z. ComesAct source d l rest (act.If z p' q) last) (sym e) (subst (λ z. ComesAct source d l rest (act.If x z q) last) (sym f) m)

  pub while_moved : (x x' : Expr) (p : List Stmt) → x' ≡ x → ComesAct source d l rest (act.While x p) last → ComesAct source d l rest (act.While x' p) last
  while_moved x x' p e m = subst (λ z. ComesAct source d l rest (act.While z p) last) (sym e) m

  pub pfor_moved : (x : Name) (lo lo' hi hi' : Expr) (to to' : Option Name) (call : CallText) → lo' ≡ lo → hi' ≡ hi → to' ≡ to → ComesAct source d l rest (act.Pfor x lo hi to call) last
      → ComesAct source d l rest (act.Pfor x lo' hi' to' call) last
  pfor_moved x lo lo' hi hi' to to' call e f g m =
      subst (λ z. ComesAct source d l rest (act.Pfor x z hi' to' call) last) (sym e)
      (subst (λ z. ComesAct source d l rest (act.Pfor x lo z to' call) last) (sym f) (subst (λ z. ComesAct source d l rest (act.Pfor x lo hi z call) last) (sym g) m))
