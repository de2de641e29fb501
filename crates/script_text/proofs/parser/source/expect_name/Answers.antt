use Rattle.std.proofs.lemmas.Result.{err_from_is_err_and}
use Rattle.script_tokens.specs.declared.token.Word.TheVariants as word
use Rattle.script_text.proofs.Parsing.Calls.{name_read, name_read_err, missing}
use Rattle.script_text.proofs.parser.source.expect_name.Goals as goal

pub returns-in_err-name_in-in-Some : goal.returns-in_err-name_in-in-Some
returns-in_err-name_in-in-Some c =
    let p = err_from_is_err_and c.from_residual.result c.from_residual.ensures.1 in
    rw (p.1, p.2) (name_read_err c.args.source.now c.args.depth c.args.tokens.now _ _ _ c.in-Some.ensures.0 c.in-Some.ensures.1 c.in_err-name_in-in-Some.ensures)

pub returns-in_ok-name_in-in-Some : goal.returns-in_ok-name_in-in-Some
returns-in_ok-name_in-in-Some c = name_read c.args.source.now c.args.depth c.args.tokens.now _ _ _ c.in-Some.ensures.0 c.in-Some.ensures.1 c.requires c.in_ok-name_in-in-Some.ensures

pub returns-in-None : goal.returns-in-None
returns-in-None c = missing word.Name c.args.source.now c.args.depth c.args.tokens.now _ c.in-None.ensures c.unexpected.ensures
