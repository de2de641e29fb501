use Rattle.std.specs.Bool.{⊤}
use Rattle.std.proofs.Common.{rules, ◌≡◌, Err, refl}
use Rattle.std.proofs.lemmas.Result.{err_from_is_err_and}
use Rattle.script_check.specs.Valid.{IsValid}
use Rattle.script_check.specs.declared.error.CheckError.TheVariants.{Bad}
use Rattle.engine.specs.Lines.{check_line}
use Rattle.engine.specs.Promise.{Invalid}
use Rattle.engine.proofs.RefusalLemmas.{invalid_text, rejection_narrower, told_rejection}
use Rattle.engine.proofs.script.valid_script.Goals as goal

pub returns-in_err-script-clause-refused : goal.returns-in_err-script-clause-refused
returns-in_err-script-clause-refused c =
    let p = err_from_is_err_and c.from_residual.result c.from_residual.ensures.1 in
    rw (p.1, p.2) (rejection_narrower (λ script. ⊤) IsValid (λ script valid. tt) c.args.bytes.now c.in_err-script.field-0.0 c.in_err-script.ensures.refused)

pub returns-in-Err-Bad-clause-refused : goal.returns-in-Err-Bad-clause-refused
returns-in-Err-Bad-clause-refused c =
    let bad : c.check.result ≡ Err (Bad c.in-Err-Bad.number c.in-Err-Bad.at) = search rules in
    told_rejection IsValid c.args.bytes.now (check_line c.in-Err-Bad.number c.in-Err-Bad.at) c.check_refusal.result
    (record {
      none = invalid_text c.args.bytes.now c.in_ok-script.script c.in_ok-script.ensures.script (λ other text. c.in_ok-script.ensures.one_script other c.in_ok-script.script text c.in_ok-script.ensures.script) c.in-Err-Bad.number c.in-Err-Bad.at (c.check.ensures.bad c.in-Err-Bad.number c.in-Err-Bad.at bad);
      why = Invalid c.in_ok-script.script c.in-Err-Bad.number c.in-Err-Bad.at c.in_ok-script.ensures.script (c.check.ensures.bad c.in-Err-Bad.number c.in-Err-Bad.at bad) refl;
    })
    c.check_refusal.ensures
