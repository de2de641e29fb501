use Rattle.std.proofs.lemmas.Result.{err_from_is_err_and}
use Rattle.script_text.proofs.Parsing.Functions.{int_answer_read, id_answer_read, id_answer_err}
use Rattle.script_text.proofs.parser.function.answer_kind.Goals as goal

pub returns-in_err-rest : goal.returns-in_err-rest
returns-in_err-rest c =
    let p = err_from_is_err_and c.from_residual.result c.from_residual.ensures.1 in
    rw (p.1, p.2) (id_answer_err c.args.source.now c.args.depth c.args.tokens.now _ _ _ c.requires c.in-Some.ensures c.in_err-rest.ensures)

pub returns-in-Some : goal.returns-in-Some
returns-in-Some c = id_answer_read c.args.source.now c.args.depth c.args.tokens.now _ _ _ c.requires c.in-Some.ensures c.in_ok-rest.ensures

pub returns : goal.returns
returns c = int_answer_read c.args.source.now c.args.depth c.args.tokens.now c.in_default.ensures
