use Rattle.std.proofs.lemmas.Result.{err_from_is_err_and}
use Rattle.script_text.proofs.Parsing.Statements.{right_value_read, right_value_err, right_draw_read, right_new_read, right_call_read, right_spawn_read, right_call_err, right_spawn_err}
use Rattle.script_text.proofs.parser.statement.right_side.Goals as goal

pub returns-in_err-called-in-Call : goal.returns-in_err-called-in-Call
returns-in_err-called-in-Call c =
    let p = err_from_is_err_and c.from_residual.result c.from_residual.ensures.1 in
    rw (p.1, p.2) (right_call_err c.args.source.now c.args.depth c.args.tokens.now _ _ c.in-Some.ensures.cases.0 _ c.in-Call.is c.requires c.in_err-called-in-Call.ensures)

pub returns-in_err-called-in-Spawn : goal.returns-in_err-called-in-Spawn
returns-in_err-called-in-Spawn c =
    let p = err_from_is_err_and c.from_residual-in_err-called-in-Spawn.result c.from_residual-in_err-called-in-Spawn.ensures.1 in
    rw (p.1, p.2) (right_spawn_err c.args.source.now c.args.depth c.args.tokens.now _ _ c.in-Some.ensures.cases.0 _ c.in-Spawn.is c.requires c.in_err-called-in-Spawn.ensures)

pub returns-in_err-x-in_default-word : goal.returns-in_err-x-in_default-word
returns-in_err-x-in_default-word c =
    let p = err_from_is_err_and c.from_residual-in_err-x-in_default-word.result c.from_residual-in_err-x-in_default-word.ensures.1 in
    rw (p.1, p.2) (right_value_err c.args.source.now c.args.depth c.args.tokens.now _ _ c.in-Some.ensures.cases.0 _ c.in_default-word.not-Draw c.in_default-word.not-New c.in_default-word.not-Call c.in_default-word.not-Spawn c.in_err-x-in_default-word.ensures)

pub returns-in-Draw : goal.returns-in-Draw
returns-in-Draw c = right_draw_read c.args.source.now c.args.depth c.args.tokens.now _ _ c.in-Some.ensures.cases.0 c.in-Draw.is c.requires

pub returns-in-New : goal.returns-in-New
returns-in-New c = right_new_read c.args.source.now c.args.depth c.args.tokens.now _ _ c.in-Some.ensures.cases.0 c.in-New.is c.requires

pub returns-in_ok-called-in-Call : goal.returns-in_ok-called-in-Call
returns-in_ok-called-in-Call c = right_call_read c.args.source.now c.args.depth c.args.tokens.now _ _ c.in-Some.ensures.cases.0 _ _ c.in-Call.is c.requires c.in_ok-called-in-Call.ensures

pub returns-in_ok-called-in-Spawn : goal.returns-in_ok-called-in-Spawn
returns-in_ok-called-in-Spawn c = right_spawn_read c.args.source.now c.args.depth c.args.tokens.now _ _ c.in-Some.ensures.cases.0 _ _ c.in-Spawn.is c.requires c.in_ok-called-in-Spawn.ensures

pub returns-in_ok-x-in_default-word : goal.returns-in_ok-x-in_default-word
returns-in_ok-x-in_default-word c = right_value_read c.args.source.now c.args.depth c.args.tokens.now _ _ c.in-Some.ensures.cases.0 _ _ c.in_default-word.not-Draw c.in_default-word.not-New c.in_default-word.not-Call c.in_default-word.not-Spawn c.in_ok-x-in_default-word.ensures
