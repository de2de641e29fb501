use Rattle.std.proofs.lemmas.Result.{err_from_is_err_and}
use Rattle.script_text.proofs.Parsing.Functions.{int_read, int_err, id_read, id_err}
use Rattle.script_text.proofs.parser.function.param.Goals as goal

pub returns-in_err-name : goal.returns-in_err-name
returns-in_err-name c =
    let p = err_from_is_err_and c.from_residual.result c.from_residual.ensures.1 in
    rw (p.1, p.2) (id_err c.args.source.now c.args.depth c.args.tokens.now _ _ _ c.requires c.in-Some.ensures c.in_err-name.ensures)

pub returns-in_err-name-2 : goal.returns-in_err-name-2
returns-in_err-name-2 c =
    let p = err_from_is_err_and c.from_residual-in_err-name-2.result c.from_residual-in_err-name-2.ensures.1 in
    rw (p.1, p.2) (int_err c.args.source.now c.args.depth c.args.tokens.now _ c.in_default.ensures c.in_err-name-2.ensures)

pub returns-in-Some : goal.returns-in-Some
returns-in-Some c = id_read c.args.source.now c.args.depth c.args.tokens.now _ _ _ _ c.requires c.in-Some.ensures c.in_ok-name.ensures

pub returns : goal.returns
returns c = int_read c.args.source.now c.args.depth c.args.tokens.now _ _ c.in_default.ensures c.in_ok-name-2.ensures
