use Rattle.std.proofs.Common.{rules, arith}
use Rattle.std.proofs.lemmas.Result.{err_from_is_err_and}
use Rattle.script_text.proofs.Parsing.Functions.{functions_end, functions_err, one_more_fn, functions_turn}
use Rattle.script_text.proofs.parser.function.functions.Goals as goal

pub returns-in_err-next : goal.returns-in_err-next
returns-in_err-next c =
    let p = err_from_is_err_and c.from_residual.result c.from_residual.ensures.1 in
    rw (p.1, p.2) (functions_err c.args.source.now c.args.tokens.now _ _ c.loop-at.invariant _ _ c.in-Some.ensures _ (omega arith) c.in_err-next.ensures)

pub loop-at-smaller : goal.loop-at-smaller
loop-at-smaller c = functions_turn c.args.source.now c.args.tokens.now _ _ c.loop-at.invariant _ _ c.in-Some.ensures _ _ c.in_ok-next.ensures.0

pub loop-at-preserved : goal.loop-at-preserved
loop-at-preserved c = one_more_fn c.args.source.now c.args.tokens.now _ _ c.loop-at.invariant _ _ c.in-Some.ensures _ _ _ (search rules) (omega arith) c.in_ok-next.ensures

pub returns : goal.returns
returns c = functions_end c.args.source.now c.args.tokens.now _ _ c.loop-at.invariant c.in_default.ensures
