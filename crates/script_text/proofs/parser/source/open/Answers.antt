use Rattle.std.proofs.lemmas.Result.{err_from_is_err_and}
use Rattle.script_text.proofs.Parsing.Steps.{opens, opens_not, opens_deep}
use Rattle.script_text.proofs.parser.source.open.Goals as goal

pub returns-in_err-deeper-in-Some : goal.returns-in_err-deeper-in-Some
returns-in_err-deeper-in-Some c =
    let p = err_from_is_err_and c.from_residual.result c.from_residual.ensures.1 in
    rw (p.1, p.2) (opens_deep _ c.args.source.now _ _ _ _ _ c.requires.plain c.in-Some.ensures c.in_err-deeper-in-Some.ensures)

pub returns-in_ok-deeper-in-Some : goal.returns-in_ok-deeper-in-Some
returns-in_ok-deeper-in-Some c = opens _ c.args.source.now _ _ _ _ c.requires.plain c.in_ok-deeper-in-Some.ensures.1 c.in-Some.ensures

pub returns-in-None : goal.returns-in-None
returns-in-None c = opens_not _ c.args.source.now _ _ _ c.in-None.ensures c.unexpected.ensures
