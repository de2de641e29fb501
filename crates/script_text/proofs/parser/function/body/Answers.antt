use Rattle.std.proofs.lemmas.Result.{err_from_is_err_and}
use Rattle.script_tokens.specs.declared.token.Word.TheVariants as word
use Rattle.script_text.proofs.Parsing.Kept.{passed, passed_not}
use Rattle.script_text.proofs.OneTree.Moved.{body_moved}
use Rattle.script_text.specs.Machine.{body}
use Rattle.script_text.proofs.Parsing.Functions.{body_bracket, body_err_stmts, body_err_return, body_err_result, body_err_close, body_read}
use Rattle.script_text.proofs.parser.function.body.Goals as goal

pub returns-in_err-rest : goal.returns-in_err-rest
returns-in_err-rest c =
    let p = err_from_is_err_and c.from_residual.result c.from_residual.ensures.1 in
    rw (p.1, p.2) (c.in_err-rest.ensures body _ body_bracket)

pub returns-in_err-acts : goal.returns-in_err-acts
returns-in_err-acts c =
    let p = err_from_is_err_and c.from_residual-in_err-acts.result c.from_residual-in_err-acts.ensures.1 in
    rw (p.1, p.2) (body_err_stmts c.args.source.now c.args.depth _ _ c.in_ok-rest.ensures _ c.in_err-acts.ensures)

pub returns-in_default : goal.returns-in_default
returns-in_default c = body_err_return c.args.source.now c.args.depth _ _ c.in_ok-rest.ensures _ _ c.in_ok-acts.ensures _ c.in_default.ensures c.unexpected.ensures

pub returns-in_err-x : goal.returns-in_err-x
returns-in_err-x c =
    let p = err_from_is_err_and c.from_residual-in_err-x.result c.from_residual-in_err-x.ensures.1 in
    rw (p.1, p.2) (body_err_result c.args.source.now c.args.depth _ _ c.in_ok-rest.ensures _ _ c.in_ok-acts.ensures _ _ c.in_ok-rest.ensures.1 c.in-Some.ensures _ c.in_err-x.ensures)

pub returns-in_err-x-2 : goal.returns-in_err-x-2
returns-in_err-x-2 c =
    let p = err_from_is_err_and c.from_residual-in_err-x-2.result c.from_residual-in_err-x-2.ensures.1 in
    rw (p.1, p.2) (body_err_close c.args.source.now c.args.depth _ _ c.in_ok-rest.ensures _ _ c.in_ok-acts.ensures _ _ c.in_ok-rest.ensures.1 c.in-Some.ensures _ _ c.in_ok-x.ensures _ (passed_not word.CloseBlock c.args.source.now c.args.depth _ _ _ c.in_err-x-2.ensures c.expect.ensures))

pub returns : goal.returns
returns c =
    let m = body_read c.args.source.now c.args.depth _ _ c.in_ok-rest.ensures _ _ c.in_ok-acts.ensures _ _ c.in_ok-rest.ensures.1 c.in-Some.ensures _ _ c.in_ok-x.ensures _ (passed word.CloseBlock c.args.source.now c.args.depth _ _ _ c.in_ok-x-2.ensures.1 c.expect.ensures) in
    body_moved c.in_ok-x-2.ensures.0 m
