use Rattle.std.specs.Prelude.{[]}
use Rattle.std.proofs.Common.{◌∙◌}
use Rattle.std.proofs.lemmas.Result.{err_from_is_err_and}
use Rattle.script_tokens.specs.declared.token.Word.TheVariants as word
use Rattle.script_grammar.specs.Grammar.{IsExpr}
use Rattle.script_text.specs.Machine.{expr_then}
use Rattle.script_text.proofs.Parsing.Kept.{passed, passed_not, came, came_not}
use Rattle.script_text.proofs.OneTree.Moved.{bounds_moved}
use Rattle.script_text.proofs.Parsing.Loops.{bounds_err_in, bounds_err_lo, bounds_err_range, bounds_err_hi, bounds_read}
use Rattle.script_text.proofs.parser.parallel_loop.bounds.Goals as goal

pub returns-in_err-rest : goal.returns-in_err-rest
returns-in_err-rest c =
    let p = err_from_is_err_and c.from_residual.result c.from_residual.ensures.1 in
    rw (p.1, p.2) (bounds_err_in c.args.source.now c.args.depth c.args.tokens.now _ c.in_err-rest.ensures)

pub returns-in_err-lo : goal.returns-in_err-lo
returns-in_err-lo c =
    let p = err_from_is_err_and c.from_residual-in_err-lo.result c.from_residual-in_err-lo.ensures.1 in
    rw (p.1, p.2) (bounds_err_lo c.args.source.now c.args.depth c.args.tokens.now _ _ c.in_ok-rest.ensures c.in_err-lo.ensures)

pub returns-in_err-lo-2 : goal.returns-in_err-lo-2
returns-in_err-lo-2 c =
    let p = err_from_is_err_and c.from_residual-in_err-lo-2.result c.from_residual-in_err-lo-2.ensures.1 in
    rw (p.1, p.2) (bounds_err_range c.args.source.now c.args.depth c.args.tokens.now _ _ _ _ c.in_ok-rest.ensures c.in_ok-lo.ensures (passed_not word.Range c.args.source.now c.args.depth _ _ _ c.in_err-lo-2.ensures c.expect-2.ensures))

pub returns-in_err-lo-3 : goal.returns-in_err-lo-3
returns-in_err-lo-3 c =
    let p = err_from_is_err_and c.from_residual-in_err-lo-3.result c.from_residual-in_err-lo-3.ensures.1 in
    rw (p.1, p.2) (bounds_err_hi c.args.source.now c.args.depth c.args.tokens.now _ _ _ _ _ c.in_ok-rest.ensures c.in_ok-lo.ensures (passed word.Range c.args.source.now c.args.depth _ _ _ c.in_ok-lo-2.ensures.1 c.expect-2.ensures)
    (came_not IsExpr (expr_then []) c.args.source.now c.args.depth _ _ _ c.in_err-lo-3.ensures c.expr-2.ensures))

pub returns : goal.returns
returns c =
    let m = bounds_read c.args.source.now c.args.depth c.args.tokens.now _ _ _ _ _ _ c.in_ok-rest.ensures c.in_ok-lo.ensures (passed word.Range c.args.source.now c.args.depth _ _ _ c.in_ok-lo-2.ensures.1 c.expect-2.ensures) (came IsExpr (expr_then []) c.args.source.now c.args.depth _ _ _ c.in_ok-lo-3.ensures.1 c.expr-2.ensures) in
    bounds_moved (c.in_ok-lo-3.ensures.0 ∙ c.in_ok-lo-2.ensures.0) m
