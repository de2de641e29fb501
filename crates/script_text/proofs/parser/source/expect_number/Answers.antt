use Rattle.std.proofs.lemmas.Result.{err_from_is_err_and}
use Rattle.script_tokens.specs.declared.token.Word.TheVariants as word
use Rattle.script_text.proofs.Parsing.Calls.{number_read, number_read_err, missing}
use Rattle.script_text.proofs.parser.source.expect_number.Goals as goal

pub returns-in_err-number_node-in-Some : goal.returns-in_err-number_node-in-Some
returns-in_err-number_node-in-Some c =
    let p = err_from_is_err_and c.from_residual.result c.from_residual.ensures.1 in
    rw (p.1, p.2) (number_read_err c.args.source.now c.args.depth c.args.tokens.now _ _ _ c.in-Some.ensures.0 c.in-Some.ensures.1 c.in_err-number_node-in-Some.ensures)

pub returns-in_ok-number_node-in-Some : goal.returns-in_ok-number_node-in-Some
returns-in_ok-number_node-in-Some c = number_read c.args.source.now c.args.depth c.args.tokens.now _ _ _ c.in-Some.ensures.0 c.in-Some.ensures.1 c.requires c.in_ok-number_node-in-Some.ensures

pub returns-in-None : goal.returns-in-None
returns-in-None c = missing word.Number c.args.source.now c.args.depth c.args.tokens.now _ c.in-None.ensures c.unexpected.ensures
