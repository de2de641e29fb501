use Rattle.std.proofs.lemmas.Result.{err_from_is_err_and}
use Rattle.script_text.specs.Machine.{param_list}
use Rattle.script_text.proofs.Parsing.Functions.{params_bracket, function_err_name, function_err_open, function_err_params, function_err_answer, function_err_body, function_read}
use Rattle.script_text.proofs.parser.function.function.Goals as goal

pub returns-in_err-name : goal.returns-in_err-name
returns-in_err-name c =
    let p = err_from_is_err_and c.from_residual.result c.from_residual.ensures.1 in
    rw (p.1, p.2) (function_err_name c.args.source.now 0 c.args.tokens.now _ c.in_err-name.ensures)

pub returns-in_err-rest : goal.returns-in_err-rest
returns-in_err-rest c =
    let p = err_from_is_err_and c.from_residual-in_err-rest.result c.from_residual-in_err-rest.ensures.1 in
    rw (p.1, p.2) (function_err_open c.args.source.now 0 c.args.tokens.now _ _ c.in_ok-name.ensures _ (c.in_err-rest.ensures param_list _ params_bracket))

pub returns-in_err-params : goal.returns-in_err-params
returns-in_err-params c =
    let p = err_from_is_err_and c.from_residual-in_err-params.result c.from_residual-in_err-params.ensures.1 in
    rw (p.1, p.2) (function_err_params c.args.source.now 0 c.args.tokens.now _ _ c.in_ok-name.ensures _ c.in_ok-rest.ensures _ c.in_err-params.ensures)

pub returns-in_err-answer : goal.returns-in_err-answer
returns-in_err-answer c =
    let p = err_from_is_err_and c.from_residual-in_err-answer.result c.from_residual-in_err-answer.ensures.1 in
    rw (p.1, p.2) (function_err_answer c.args.source.now 0 c.args.tokens.now _ _ c.in_ok-name.ensures _ c.in_ok-rest.ensures _ _ c.in_ok-params.ensures _ c.in_err-answer.ensures)

pub returns-in_err-body : goal.returns-in_err-body
returns-in_err-body c =
    let p = err_from_is_err_and c.from_residual-in_err-body.result c.from_residual-in_err-body.ensures.1 in
    rw (p.1, p.2) (function_err_body c.args.source.now 0 c.args.tokens.now _ _ c.in_ok-name.ensures _ c.in_ok-rest.ensures _ _ c.in_ok-params.ensures _ _ c.in_ok-answer.ensures _ c.in_err-body.ensures)

pub returns : goal.returns
returns c = function_read c.args.source.now 0 c.args.tokens.now _ _ c.in_ok-name.ensures _ c.in_ok-rest.ensures _ _ c.in_ok-params.ensures _ _ c.in_ok-answer.ensures _ _ _ _ c.in_ok-body.ensures.0 c.in_ok-body.ensures.1
