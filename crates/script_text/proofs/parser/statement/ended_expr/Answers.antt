use Rattle.std.specs.Prelude.{[], ◌∷◌}
use Rattle.std.proofs.lemmas.Result.{err_from_is_err_and}
use Rattle.script_tokens.specs.declared.token.Word.TheVariants as word
use Rattle.script_text.specs.Machine.{only, expr_then}
use Rattle.script_text.specs.Reads.{IsEnded}
use Rattle.script_text.proofs.Parsing.Kept.{kept}
use Rattle.script_text.proofs.Parsing.Statements.{ended_read, ended_err, ended_err_end}
use Rattle.script_text.proofs.parser.statement.ended_expr.Goals as goal

pub returns-in_err-x : goal.returns-in_err-x
returns-in_err-x c =
    let p = err_from_is_err_and c.from_residual.result c.from_residual.ensures.1 in
    rw (p.1, p.2) (ended_err c.args.source.now c.args.depth c.args.tokens.now _ c.in_err-x.ensures)

pub returns : goal.returns
returns c =
    kept IsEnded (expr_then (only word.Semicolon ∷ [])) c.args.source.now c.args.depth c.args.tokens.now word.Semicolon c.args.depth _ _ _ _ c.expect.ensures c.zip.ensures
    (λ last k. ended_read c.args.source.now c.args.depth c.args.tokens.now _ last _ c.in_ok-x.ensures k)
    (λ e f. ended_err_end c.args.source.now c.args.depth c.args.tokens.now e _ _ c.in_ok-x.ensures f)
