use Rattle.std.proofs.lemmas.Result.{err_from_is_err_and}
use Rattle.script_text.proofs.Parsing.Statements.{stmt_name_err, set_read, store_read, set_err, store_err}
use Rattle.script_text.proofs.parser.statement.assignment.Goals as goal

pub returns-in_err-name : goal.returns-in_err-name
returns-in_err-name c =
    let p = err_from_is_err_and c.from_residual.result c.from_residual.ensures.1 in
    rw (p.1, p.2) (stmt_name_err c.args.source.now c.args.depth c.args.first c.args.rest.now _ c.requires.name c.in_err-name.ensures)

pub returns-in_err-side : goal.returns-in_err-side
returns-in_err-side c =
    let p = err_from_is_err_and c.from_residual-in_err-side.result c.from_residual-in_err-side.ensures.1 in
    rw (p.1, p.2) (set_err c.args.source.now c.args.depth c.args.first c.args.rest.now _ _ _ _ c.requires.name c.requires.depth c.in_ok-name.ensures c.in-Some.ensures c.in_err-side.ensures)

pub returns-in_err-place : goal.returns-in_err-place
returns-in_err-place c =
    let p = err_from_is_err_and c.from_residual-in_err-place.result c.from_residual-in_err-place.ensures.1 in
    rw (p.1, p.2) (store_err c.args.source.now c.args.depth c.args.first c.args.rest.now _ _ c.requires.name c.requires.depth c.in_ok-name.ensures c.in_err-place.ensures)

pub returns-in-Some : goal.returns-in-Some
returns-in-Some c = set_read c.args.source.now c.args.depth c.args.first c.args.rest.now _ _ _ _ _ c.requires.name c.requires.depth c.in_ok-name.ensures c.in-Some.ensures c.in_ok-side.ensures

pub returns : goal.returns
returns c = store_read c.args.source.now c.args.depth c.args.first c.args.rest.now _ _ _ _ c.requires.name c.requires.depth c.in_ok-name.ensures c.in_ok-place.ensures.0 c.in_ok-place.ensures.1
