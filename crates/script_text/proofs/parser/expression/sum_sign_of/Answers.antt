use Rattle.std.proofs.Common.{◌≡◌, Bool, sym, subst}
use Rattle.script_tokens.specs.declared.token.Word.{Word}
use Rattle.script_grammar.specs.Grammar.{IsSumSign, a_plus, a_minus}
use Rattle.script_text.proofs.parser.expression.sum_sign_of.Goals as goal

at_word : {v w : Word} {s : Bool} → v ≡ w → IsSumSign w s → IsSumSign v s
at_word {s = s} e k = subst (λ x. IsSumSign x s) (sym e) k

pub returns-in-Plus : goal.returns-in-Plus
returns-in-Plus c = at_word c.in-Plus.is a_plus

pub returns-in-Minus : goal.returns-in-Minus
returns-in-Minus c = at_word c.in-Minus.is a_minus
