use Rattle.std.proofs.Common.{rules, ◌≡◌, Err, inr}
use Rattle.script_grammar.specs.Text.{SyntaxFault}
use Rattle.script_text.specs.declared.error.SyntaxError.TheVariants.{Bad}
use Rattle.script_excerpt.specs.Followers.{with_word}
use Rattle.script_excerpt.proofs.advice.would_do.Goals as goal

pub returns-in-Err-Bad : goal.returns-in-Err-Bad
returns-in-Err-Bad c =
    let bad : c.parse.result ≡ Err (Bad c.in-Err-Bad.field-0-0 c.in-Err-Bad.place) = search rules in
    let fault : SyntaxFault (with_word c.args.text.now c.args.at c.args.word.now) c.in-Err-Bad.field-0-0 c.in-Err-Bad.place = search rules in
    (λ is. inr (c.in-Err-Bad.field-0-0, c.in-Err-Bad.place, fault, search rules))
