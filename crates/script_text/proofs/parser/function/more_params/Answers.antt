use Rattle.std.proofs.Common.{refl, rules}
use Rattle.std.proofs.lemmas.Result.{err_from_is_err_and}
use Rattle.script_text.proofs.Parsing.Functions.{params_begin, params_end, one_more_parameter, more_params_err, params_turn}
use Rattle.script_text.proofs.parser.function.more_params.Goals as goal

pub returns-in_err-next : goal.returns-in_err-next
returns-in_err-next c =
    let p = err_from_is_err_and c.from_residual.result c.from_residual.ensures.1 in
    rw (p.1, p.2) (more_params_err c.args.source.now c.args.depth _ _ _ _ _ _ _ c.requires c.loop-rest.invariant c.in-Some.ensures c.in_err-next.ensures)

pub loop-rest-init : goal.loop-rest-init
loop-rest-init c = params_begin c.args.source.now c.args.depth _ _ _ refl

pub loop-rest-smaller : goal.loop-rest-smaller
loop-rest-smaller c = params_turn c.args.source.now _ _ _ _ _ c.in-Some.ensures c.in_ok-next.ensures.0

pub loop-rest-preserved : goal.loop-rest-preserved
loop-rest-preserved c = one_more_parameter c.args.source.now c.args.depth _ _ _ _ _ _ _ _ _ (search rules) c.requires c.loop-rest.invariant c.in-Some.ensures c.in_ok-next.ensures

pub returns : goal.returns
returns c = params_end c.args.source.now c.args.depth _ _ _ _ c.loop-rest.invariant c.in_default.ensures
