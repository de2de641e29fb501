use Rattle.std.specs.Prelude.{[], ◌∷◌}
use Rattle.std.proofs.lemmas.Result.{err_from_is_err_and}
use Rattle.script_tokens.specs.declared.token.Word.TheVariants as word
use Rattle.script_text.specs.Machine.{only, call_args}
use Rattle.script_text.specs.Reads.{IsCallOf}
use Rattle.script_text.proofs.Parsing.Kept.{kept}
use Rattle.script_text.proofs.Parsing.Statements.{call_of_read, call_of_err, call_of_err_end}
use Rattle.script_text.proofs.parser.statement.ended_call.Goals as goal

pub returns-in_err-called : goal.returns-in_err-called
returns-in_err-called c =
    let p = err_from_is_err_and c.from_residual.result c.from_residual.ensures.1 in
    rw (p.1, p.2) (call_of_err c.args.source.now c.args.depth c.args.tokens.now _ c.in_err-called.ensures)

pub returns : goal.returns
returns c =
    kept IsCallOf (only word.Name ∷ call_args ∷ only word.Semicolon ∷ []) c.args.source.now c.args.depth c.args.tokens.now word.Semicolon c.args.depth _ _ _ _ c.expect.ensures c.zip.ensures
    (λ last k. call_of_read c.args.source.now c.args.depth c.args.tokens.now _ last _ c.in_ok-called.ensures k)
    (λ e f. call_of_err_end c.args.source.now c.args.depth c.args.tokens.now e _ _ c.in_ok-called.ensures f)
