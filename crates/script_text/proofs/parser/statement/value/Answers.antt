use Rattle.std.specs.Prelude.{[], ◌∷◌}
use Rattle.std.proofs.lemmas.Result.{err_from_is_err_and}
use Rattle.script_tokens.specs.declared.token.Word.TheVariants as word
use Rattle.script_text.specs.Machine.{only, right}
use Rattle.script_text.specs.Reads.{IsValueOf}
use Rattle.script_text.proofs.Parsing.Kept.{kept}
use Rattle.script_text.proofs.Parsing.Statements.{value_read, value_err, value_err_end}
use Rattle.script_text.proofs.parser.statement.value.Goals as goal

pub returns-in_err-side : goal.returns-in_err-side
returns-in_err-side c =
    let p = err_from_is_err_and c.from_residual.result c.from_residual.ensures.1 in
    rw (p.1, p.2) (value_err c.args.source.now c.args.depth c.args.tokens.now _ c.in_err-side.ensures)

pub returns : goal.returns
returns c =
    kept IsValueOf (right ∷ only word.Semicolon ∷ []) c.args.source.now c.args.depth c.args.tokens.now word.Semicolon c.args.depth _ _ _ _ c.expect.ensures c.zip.ensures
    (λ last k. value_read c.args.source.now c.args.depth c.args.tokens.now _ last _ c.in_ok-side.ensures k)
    (λ e f. value_err_end c.args.source.now c.args.depth c.args.tokens.now e _ _ c.in_ok-side.ensures f)
