use Rattle.std.proofs.Common.{◌≡◌, sym, subst}
use Rattle.script_tokens.specs.declared.token.Word.{Word}
use Rattle.script_grammar.specs.declared.tree.ProductSign.{ProductSign}
use Rattle.script_grammar.specs.Grammar.{IsProductSign, a_times, an_over, a_modulo}
use Rattle.script_text.proofs.parser.expression.product_sign_of.Goals as goal

at_word : {v w : Word} {s : ProductSign} → v ≡ w → IsProductSign w s → IsProductSign v s
at_word {s = s} e k = subst (λ x. IsProductSign x s) (sym e) k

pub returns-in-Times : goal.returns-in-Times
returns-in-Times c = at_word c.in-Times.is a_times

pub returns-in-Over : goal.returns-in-Over
returns-in-Over c = at_word c.in-Over.is an_over

pub returns-in-Modulo : goal.returns-in-Modulo
returns-in-Modulo c = at_word c.in-Modulo.is a_modulo
