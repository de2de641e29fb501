use Rattle.std.proofs.Common.{refl, rules}
use Rattle.std.proofs.lemmas.Result.{err_from_is_err_and}
use Rattle.script_text.proofs.Parsing.Calls.{args_begin, args_end, one_more_argument, more_args_err, args_turn}
use Rattle.script_text.proofs.parser.call.more_args.Goals as goal

pub returns-in_err-x : goal.returns-in_err-x
returns-in_err-x c =
    let p = err_from_is_err_and c.from_residual.result c.from_residual.ensures.1 in
    rw (p.1, p.2) (more_args_err c.args.source.now c.args.depth _ _ _ _ _ _ _ c.requires c.loop-rest.invariant c.in-Some.ensures c.in_err-x.ensures)

pub loop-rest-init : goal.loop-rest-init
loop-rest-init c = args_begin c.args.source.now c.args.depth _ _ _ refl

pub loop-rest-smaller : goal.loop-rest-smaller
loop-rest-smaller c = args_turn c.args.source.now _ _ _ _ _ c.in-Some.ensures c.in_ok-x.ensures.0

pub loop-rest-preserved : goal.loop-rest-preserved
loop-rest-preserved c = one_more_argument c.args.source.now c.args.depth _ _ _ _ _ _ _ _ _ (search rules) c.requires c.loop-rest.invariant c.in-Some.ensures c.in_ok-x.ensures

pub returns : goal.returns
returns c = args_end c.args.source.now c.args.depth _ _ _ _ c.loop-rest.invariant c.in_default.ensures
