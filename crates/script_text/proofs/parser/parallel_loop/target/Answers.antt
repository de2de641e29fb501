use Rattle.std.proofs.lemmas.Result.{err_from_is_err_and}
use Rattle.script_text.proofs.Parsing.Loops.{no_target, target_read, target_err}
use Rattle.script_text.proofs.parser.parallel_loop.target.Goals as goal

pub returns-in_err-name : goal.returns-in_err-name
returns-in_err-name c =
    let p = err_from_is_err_and c.from_residual.result c.from_residual.ensures.1 in
    rw (p.1, p.2) (target_err c.args.source.now c.args.depth c.args.tokens.now _ _ _ c.requires c.in-Some.ensures c.in_err-name.ensures)

pub returns-in-Some : goal.returns-in-Some
returns-in-Some c = target_read c.args.source.now c.args.depth c.args.tokens.now _ _ _ _ c.requires c.in-Some.ensures c.in_ok-name.ensures

pub returns : goal.returns
returns c = no_target c.args.source.now c.args.depth c.args.tokens.now c.in_default.ensures
