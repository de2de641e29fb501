use Rattle.std.specs.Prelude.{[], ◌∷◌}
use Rattle.std.proofs.Common.{◌∙◌}
use Rattle.std.proofs.lemmas.Result.{err_from_is_err_and}
use Rattle.script_tokens.specs.declared.token.Word.TheVariants as word
use Rattle.script_text.specs.Machine.{only, expr_then}
use Rattle.script_text.specs.Reads.{IsEnded}
use Rattle.script_text.proofs.Parsing.Kept.{passed, passed_not, came, came_not}
use Rattle.script_text.proofs.OneTree.Moved.{element_moved}
use Rattle.script_text.proofs.Parsing.Statements.{element_missing, element_deep, element_read, element_err_place, element_err_close, element_err_assign, element_err_value}
use Rattle.script_text.proofs.parser.statement.element.Goals as goal

pub returns-in_default : goal.returns-in_default
returns-in_default c = element_missing c.args.source.now c.args.depth c.args.tokens.now _ c.requires.other c.in_default.ensures c.unexpected.ensures

pub returns-in_err-inside : goal.returns-in_err-inside
returns-in_err-inside c =
    let p = err_from_is_err_and c.from_residual.result c.from_residual.ensures.1 in
    rw (p.1, p.2) (element_deep c.args.source.now c.args.depth _ 0 c.args.tokens.now _ c.in-Some.ensures _ c.in_err-inside.ensures)

pub returns-in_err-place : goal.returns-in_err-place
returns-in_err-place c =
    let p = err_from_is_err_and c.from_residual-in_err-place.result c.from_residual-in_err-place.ensures.1 in
    rw (p.1, p.2) (element_err_place c.args.source.now c.args.depth _ _ c.args.tokens.now _ c.in-Some.ensures _ c.in_ok-inside.ensures c.in_err-place.ensures)

pub returns-in_err-place-2 : goal.returns-in_err-place-2
returns-in_err-place-2 c =
    let p = err_from_is_err_and c.from_residual-in_err-place-2.result c.from_residual-in_err-place-2.ensures.1 in
    rw (p.1, p.2) (element_err_close c.args.source.now c.args.depth _ _ c.args.tokens.now _ c.in-Some.ensures _ _ _ c.in_ok-inside.ensures c.in_ok-place.ensures (passed_not word.CloseItem c.args.source.now c.args.depth _ _ _ c.in_err-place-2.ensures c.expect.ensures))

pub returns-in_err-place-3 : goal.returns-in_err-place-3
returns-in_err-place-3 c =
    let p = err_from_is_err_and c.from_residual-in_err-place-3.result c.from_residual-in_err-place-3.ensures.1 in
    rw (p.1, p.2) (element_err_assign c.args.source.now c.args.depth _ _ c.args.tokens.now _ c.in-Some.ensures _ _ _ _ c.in_ok-inside.ensures c.in_ok-place.ensures (passed word.CloseItem c.args.source.now c.args.depth _ _ _ c.in_ok-place-2.ensures.1 c.expect.ensures)
    (passed_not word.Assign c.args.source.now c.args.depth _ _ _ c.in_err-place-3.ensures c.expect-2.ensures))

pub returns-in_err-place-4 : goal.returns-in_err-place-4
returns-in_err-place-4 c =
    let p = err_from_is_err_and c.from_residual-in_err-place-4.result c.from_residual-in_err-place-4.ensures.1 in
    rw (p.1, p.2) (element_err_value c.args.source.now c.args.depth _ _ c.args.tokens.now _ c.in-Some.ensures _ _ _ _ _ c.in_ok-inside.ensures c.in_ok-place.ensures (passed word.CloseItem c.args.source.now c.args.depth _ _ _ c.in_ok-place-2.ensures.1 c.expect.ensures)
    (passed word.Assign c.args.source.now c.args.depth _ _ _ c.in_ok-place-3.ensures.1 c.expect-2.ensures) (came_not IsEnded (expr_then (only word.Semicolon ∷ [])) c.args.source.now c.args.depth _ _ _ c.in_err-place-4.ensures c.ended_expr.ensures))

pub returns : goal.returns
returns c =
    let m = element_read c.args.source.now c.args.depth _ _ c.args.tokens.now _ c.in-Some.ensures _ _ _ _ _ _ c.in_ok-inside.ensures c.in_ok-place.ensures (passed word.CloseItem c.args.source.now c.args.depth _ _ _ c.in_ok-place-2.ensures.1 c.expect.ensures)
    (passed word.Assign c.args.source.now c.args.depth _ _ _ c.in_ok-place-3.ensures.1 c.expect-2.ensures) (came IsEnded (expr_then (only word.Semicolon ∷ [])) c.args.source.now c.args.depth _ _ _ c.in_ok-place-4.ensures.1 c.ended_expr.ensures) in
    element_moved (c.in_ok-place-4.ensures.0 ∙ c.in_ok-place-3.ensures.0 ∙ c.in_ok-place-2.ensures.0) m
