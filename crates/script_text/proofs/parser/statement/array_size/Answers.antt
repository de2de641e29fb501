use Rattle.std.proofs.lemmas.Result.{err_from_is_err_and}
use Rattle.script_text.proofs.Parsing.Statements.{size_missing, size_deep, size_read, size_err_number, size_err_close, size_err_end}
use Rattle.script_text.proofs.parser.statement.array_size.Goals as goal

pub returns-in_default : goal.returns-in_default
returns-in_default c = size_missing c.args.source.now c.args.depth c.args.tokens.now _ c.requires.other c.in_default.ensures c.unexpected.ensures

pub returns-in_err-inside : goal.returns-in_err-inside
returns-in_err-inside c =
    let p = err_from_is_err_and c.from_residual.result c.from_residual.ensures.1 in
    rw (p.1, p.2) (size_deep c.args.source.now c.args.depth _ 0 c.args.tokens.now _ c.in-Some.ensures _ c.in_err-inside.ensures)

pub returns-in_err-size : goal.returns-in_err-size
returns-in_err-size c =
    let p = err_from_is_err_and c.from_residual-in_err-size.result c.from_residual-in_err-size.ensures.1 in
    rw (p.1, p.2) (size_err_number c.args.source.now c.args.depth _ _ c.args.tokens.now _ c.in-Some.ensures _ c.in_ok-inside.ensures c.in_err-size.ensures)

pub returns-in_err-rest : goal.returns-in_err-rest
returns-in_err-rest c =
    let p = err_from_is_err_and c.from_residual-in_err-rest.result c.from_residual-in_err-rest.ensures.1 in
    rw (p.1, p.2) (size_err_close c.args.source.now c.args.depth _ _ c.args.tokens.now _ c.in-Some.ensures _ _ _ c.in_ok-inside.ensures c.in_ok-size.ensures c.in_err-rest.ensures)

pub returns-in_err-rest-2 : goal.returns-in_err-rest-2
returns-in_err-rest-2 c =
    let p = err_from_is_err_and c.from_residual-in_err-rest-2.result c.from_residual-in_err-rest-2.ensures.1 in
    rw (p.1, p.2) (size_err_end c.args.source.now c.args.depth _ _ c.args.tokens.now _ c.in-Some.ensures _ _ _ _ c.in_ok-inside.ensures c.in_ok-size.ensures c.in_ok-rest.ensures c.in_err-rest-2.ensures)

pub returns : goal.returns
returns c = size_read c.args.source.now c.args.depth _ _ c.args.tokens.now _ c.in-Some.ensures _ _ _ _ c.in_ok-inside.ensures c.in_ok-size.ensures c.in_ok-rest.ensures c.in_ok-rest-2.ensures
