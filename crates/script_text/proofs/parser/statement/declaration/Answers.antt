use Rattle.std.proofs.lemmas.Result.{err_from_is_err_and}
use Rattle.script_text.proofs.Parsing.Statements.{let_read, array_read, let_err_name, let_err_value, let_err_size}
use Rattle.script_text.proofs.parser.statement.declaration.Goals as goal

pub returns-in_err-name : goal.returns-in_err-name
returns-in_err-name c =
    let p = err_from_is_err_and c.from_residual.result c.from_residual.ensures.1 in
    rw (p.1, p.2) (let_err_name c.args.source.now c.args.depth c.args.first c.args.rest.now _ c.requires.keyword c.requires.depth c.in_err-name.ensures)

pub returns-in_err-side : goal.returns-in_err-side
returns-in_err-side c =
    let p = err_from_is_err_and c.from_residual-in_err-side.result c.from_residual-in_err-side.ensures.1 in
    rw (p.1, p.2) (let_err_value c.args.source.now c.args.depth c.args.first c.args.rest.now _ _ _ _ _ c.requires.keyword c.requires.depth c.in_ok-name.ensures c.in-Some.ensures c.in_err-side.ensures)

pub returns-in_err-size : goal.returns-in_err-size
returns-in_err-size c =
    let p = err_from_is_err_and c.from_residual-in_err-size.result c.from_residual-in_err-size.ensures.1 in
    rw (p.1, p.2) (let_err_size c.args.source.now c.args.depth c.args.first c.args.rest.now _ _ _ c.requires.keyword c.requires.depth c.in_ok-name.ensures c.in_err-size.ensures)

pub returns-in-Some : goal.returns-in-Some
returns-in-Some c = let_read c.args.source.now c.args.depth c.args.first c.args.rest.now _ _ _ _ _ _ c.requires.keyword c.requires.depth c.in_ok-name.ensures c.in-Some.ensures c.in_ok-side.ensures

pub returns : goal.returns
returns c = array_read c.args.source.now c.args.depth c.args.first c.args.rest.now _ _ _ _ c.requires.keyword c.requires.depth c.in_ok-name.ensures c.in_ok-size.ensures
