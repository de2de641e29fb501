use Rattle.std.specs.Bool.{⊤}
use Rattle.std.proofs.Common.{rules, ◌≡◌, Err, refl}
use Rattle.script_text.specs.declared.error.SyntaxError.TheVariants.{Bad}
use Rattle.engine.specs.Lines.{syntax_line}
use Rattle.engine.specs.Promise.{NoText}
use Rattle.engine.proofs.RefusalLemmas.{told_rejection}
use Rattle.engine.proofs.script.any_script.Goals as goal

pub returns-in-Err-Bad-clause-refused : goal.returns-in-Err-Bad-clause-refused
returns-in-Err-Bad-clause-refused c =
    let bad : c.parse.result ≡ Err (Bad c.in-Err-Bad.number c.in-Err-Bad.at) = search rules in
    told_rejection (λ script. ⊤) c.args.bytes.now (syntax_line c.in-Err-Bad.number c.in-Err-Bad.at) c.syntax_refusal.result
    (record { none = λ script text taken. c.parse.ensures.only script c.in-Err-Bad.number c.in-Err-Bad.at text bad; why = NoText c.in-Err-Bad.number c.in-Err-Bad.at (c.parse.ensures.bad c.in-Err-Bad.number c.in-Err-Bad.at bad) refl })
    c.syntax_refusal.ensures
