use Rattle.std.proofs.Common.{rules, arith}
use Rattle.std.proofs.lemmas.Result.{err_from_is_err_and}
use Rattle.script_text.proofs.Parsing.Calls.{no_arguments, some_arguments, arguments_err_first, arguments_err_more, arguments_err_close}
use Rattle.script_text.proofs.parser.call.arguments.Goals as goal

pub returns-in-Some : goal.returns-in-Some
returns-in-Some c = no_arguments c.args.source.now c.args.depth _ _ _ _ (omega arith) (search rules) c.in-Some.ensures

pub returns-in_err-x : goal.returns-in_err-x
returns-in_err-x c =
    let p = err_from_is_err_and c.from_residual.result c.from_residual.ensures.1 in
    rw (p.1, p.2) (arguments_err_first c.args.source.now c.args.depth c.args.tokens.now _ c.in_default.ensures c.in_err-x.ensures)

pub returns-in_err-args : goal.returns-in_err-args
returns-in_err-args c =
    let p = err_from_is_err_and c.from_residual-in_err-args.result c.from_residual-in_err-args.ensures.1 in
    rw (p.1, p.2) (arguments_err_more c.args.source.now c.args.depth _ _ _ _ c.in_default.ensures c.in_ok-x.ensures c.in_err-args.ensures)

pub returns-in_err-rest : goal.returns-in_err-rest
returns-in_err-rest c =
    let p = err_from_is_err_and c.from_residual-in_err-rest.result c.from_residual-in_err-rest.ensures.1 in
    rw (p.1, p.2) (arguments_err_close c.args.source.now c.args.depth _ _ _ _ _ _ _ c.in_default.ensures c.in_ok-x.ensures c.in_ok-args.ensures c.in_err-rest.ensures)

pub returns : goal.returns
returns c = some_arguments c.args.source.now c.args.depth _ _ _ _ _ _ _ c.in_default.ensures c.in_ok-x.ensures (search rules) c.in_ok-args.ensures c.in_ok-rest.ensures
