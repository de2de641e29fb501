use Rattle.std.proofs.lemmas.Result.{err_from_is_err_and}
use Rattle.script_text.specs.Machine.{call_args}
use Rattle.script_text.proofs.Parsing.Calls.{args_bracket, call_read, call_err_name, call_err_open, call_err_args}
use Rattle.script_text.proofs.parser.call.call.Goals as goal

pub returns-in_err-name : goal.returns-in_err-name
returns-in_err-name c =
    let p = err_from_is_err_and c.from_residual.result c.from_residual.ensures.1 in
    rw (p.1, p.2) (call_err_name c.args.source.now c.args.depth c.args.tokens.now _ c.in_err-name.ensures)

pub returns-in_err-rest : goal.returns-in_err-rest
returns-in_err-rest c =
    let p = err_from_is_err_and c.from_residual-in_err-rest.result c.from_residual-in_err-rest.ensures.1 in
    rw (p.1, p.2) (call_err_open c.args.source.now c.args.depth _ _ _ _ c.in_ok-name.ensures (c.in_err-rest.ensures call_args _ args_bracket))

pub returns-in_err-args : goal.returns-in_err-args
returns-in_err-args c =
    let p = err_from_is_err_and c.from_residual-in_err-args.result c.from_residual-in_err-args.ensures.1 in
    rw (p.1, p.2) (call_err_args c.args.source.now c.args.depth _ _ _ _ _ c.in_ok-name.ensures c.in_ok-rest.ensures c.in_err-args.ensures)

pub returns : goal.returns
returns c = call_read c.args.source.now c.args.depth _ _ _ _ _ _ c.in_ok-name.ensures c.in_ok-rest.ensures c.in_ok-args.ensures
