use Rattle.std.proofs.Common.{◌≡◌, sym, subst}
use Rattle.script_tokens.specs.declared.token.Word.{Word}
use Rattle.script_grammar.specs.declared.tree.Comparison.{Comparison}
use Rattle.script_grammar.specs.Grammar.{IsComparison, an_eq, a_ne, a_lt, a_le, a_gt, a_ge}
use Rattle.script_text.proofs.parser.expression.comparison_of.Goals as goal

at_word : {v w : Word} {s : Comparison} → v ≡ w → IsComparison w s → IsComparison v s
at_word {s = s} e k = subst (λ x. IsComparison x s) (sym e) k

pub returns-in-Eq : goal.returns-in-Eq
returns-in-Eq c = at_word c.in-Eq.is an_eq

pub returns-in-Ne : goal.returns-in-Ne
returns-in-Ne c = at_word c.in-Ne.is a_ne

pub returns-in-Lt : goal.returns-in-Lt
returns-in-Lt c = at_word c.in-Lt.is a_lt

pub returns-in-Le : goal.returns-in-Le
returns-in-Le c = at_word c.in-Le.is a_le

pub returns-in-Gt : goal.returns-in-Gt
returns-in-Gt c = at_word c.in-Gt.is a_gt

pub returns-in-Ge : goal.returns-in-Ge
returns-in-Ge c = at_word c.in-Ge.is a_ge
