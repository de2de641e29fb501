use Rattle.std.proofs.Common.{rules, arith}
use Rattle.std.proofs.lemmas.Result.{err_from_is_err_and}
use Rattle.script_text.proofs.Parsing.Functions.{no_parameters, some_parameters, parameters_err_first, parameters_err_more, parameters_err_close}
use Rattle.script_text.proofs.parser.function.params.Goals as goal

pub returns-in-Some : goal.returns-in-Some
returns-in-Some c = no_parameters c.args.source.now c.args.depth _ _ _ _ (omega arith) (search rules) c.in-Some.ensures

pub returns-in_err-first : goal.returns-in_err-first
returns-in_err-first c =
    let p = err_from_is_err_and c.from_residual.result c.from_residual.ensures.1 in
    rw (p.1, p.2) (parameters_err_first c.args.source.now c.args.depth c.args.tokens.now _ c.in_default.ensures c.in_err-first.ensures)

pub returns-in_err-all : goal.returns-in_err-all
returns-in_err-all c =
    let p = err_from_is_err_and c.from_residual-in_err-all.result c.from_residual-in_err-all.ensures.1 in
    rw (p.1, p.2) (parameters_err_more c.args.source.now c.args.depth _ _ _ _ c.in_default.ensures c.in_ok-first.ensures c.in_err-all.ensures)

pub returns-in_err-rest : goal.returns-in_err-rest
returns-in_err-rest c =
    let p = err_from_is_err_and c.from_residual-in_err-rest.result c.from_residual-in_err-rest.ensures.1 in
    rw (p.1, p.2) (parameters_err_close c.args.source.now c.args.depth _ _ _ _ _ _ _ c.in_default.ensures c.in_ok-first.ensures c.in_ok-all.ensures c.in_err-rest.ensures)

pub returns : goal.returns
returns c = some_parameters c.args.source.now c.args.depth _ _ _ _ _ _ _ c.in_default.ensures c.in_ok-first.ensures (search rules) c.in_ok-all.ensures c.in_ok-rest.ensures
