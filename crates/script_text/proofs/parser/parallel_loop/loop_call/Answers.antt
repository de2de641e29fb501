use Rattle.std.proofs.Common.{rules}
use Rattle.std.proofs.lemmas.Result.{err_from_is_err_and}
use Rattle.script_text.specs.Machine.{loop_args}
use Rattle.script_text.proofs.Parsing.Loops.{loop_bracket, loop_err_call, loop_err_name, loop_err_open, loop_err_again, loop_err_args, loop_err_close, loop_err_end, loop_call_read}
use Rattle.script_text.proofs.parser.parallel_loop.loop_call.Goals as goal

pub returns-in_err-rest : goal.returns-in_err-rest
returns-in_err-rest c =
    let p = err_from_is_err_and c.from_residual.result c.from_residual.ensures.1 in
    rw (p.1, p.2) (loop_err_call c.args.source.now c.args.depth c.args.var.now.bytes c.args.tokens.now c.args.tokens.now _ c.in_err-rest.ensures)

pub returns-in_err-name : goal.returns-in_err-name
returns-in_err-name c =
    let p = err_from_is_err_and c.from_residual-in_err-name.result c.from_residual-in_err-name.ensures.1 in
    rw (p.1, p.2) (loop_err_name c.args.source.now c.args.depth c.args.var.now.bytes c.args.tokens.now _ _ c.in_ok-rest.ensures c.in_err-name.ensures)

pub returns-in_err-rest-2 : goal.returns-in_err-rest-2
returns-in_err-rest-2 c =
    let p = err_from_is_err_and c.from_residual-in_err-rest-2.result c.from_residual-in_err-rest-2.ensures.1 in
    rw (p.1, p.2) (loop_err_open c.args.source.now c.args.depth c.args.var.now.bytes c.args.tokens.now _ _ _ c.in_ok-rest.ensures c.in_ok-name.ensures _ (c.in_err-rest-2.ensures (loop_args c.args.var.now.bytes) _ (loop_bracket c.args.var.now.bytes)))

pub returns-in_err-rest-3 : goal.returns-in_err-rest-3
returns-in_err-rest-3 c =
    let p = err_from_is_err_and c.from_residual-in_err-rest-3.result c.from_residual-in_err-rest-3.ensures.1 in
    rw (p.1, p.2) (loop_err_again c.args.source.now c.args.depth c.args.var.now.bytes c.args.tokens.now _ _ _ c.in_ok-rest.ensures c.in_ok-name.ensures _ c.in_ok-rest-2.ensures _ c.in_err-rest-3.ensures)

pub returns-in_err-args : goal.returns-in_err-args
returns-in_err-args c =
    let p = err_from_is_err_and c.from_residual-in_err-args.result c.from_residual-in_err-args.ensures.1 in
    rw (p.1, p.2) (loop_err_args c.args.source.now c.args.depth c.args.var.now.bytes c.args.tokens.now _ _ _ c.in_ok-rest.ensures c.in_ok-name.ensures _ c.in_ok-rest-2.ensures _ c.in_ok-rest-3.ensures _ c.in_err-args.ensures)

pub returns-in_err-rest-4 : goal.returns-in_err-rest-4
returns-in_err-rest-4 c =
    let p = err_from_is_err_and c.from_residual-in_err-rest-4.result c.from_residual-in_err-rest-4.ensures.1 in
    rw (p.1, p.2) (loop_err_close c.args.source.now c.args.depth c.args.var.now.bytes c.args.tokens.now _ _ _ c.in_ok-rest.ensures c.in_ok-name.ensures _ c.in_ok-rest-2.ensures _ c.in_ok-rest-3.ensures _ _ _ c.in_ok-args.ensures _ c.in_err-rest-4.ensures)

pub returns-in_err-rest-5 : goal.returns-in_err-rest-5
returns-in_err-rest-5 c =
    let p = err_from_is_err_and c.from_residual-in_err-rest-5.result c.from_residual-in_err-rest-5.ensures.1 in
    rw (p.1, p.2) (loop_err_end c.args.source.now c.args.depth c.args.var.now.bytes c.args.tokens.now _ _ _ c.in_ok-rest.ensures c.in_ok-name.ensures _ c.in_ok-rest-2.ensures _ c.in_ok-rest-3.ensures _ _ _ c.in_ok-args.ensures _ _ c.in_ok-rest-4.ensures c.in_err-rest-5.ensures)

pub returns : goal.returns
returns c = loop_call_read c.args.source.now c.args.depth c.args.var.now.bytes c.args.tokens.now _ _ _ c.in_ok-rest.ensures c.in_ok-name.ensures _ c.in_ok-rest-2.ensures _ c.in_ok-rest-3.ensures _ _ _ c.in_ok-args.ensures _ _ (search rules) c.in_ok-rest-4.ensures c.in_ok-rest-5.ensures
