use Rattle.std.specs.Prelude.{[], ◌∷◌}
use Rattle.std.proofs.Common.{ap, ◌∙◌}
use Rattle.std.proofs.lemmas.Result.{err_from_is_err_and}
use Rattle.script_tokens.specs.declared.token.Word.TheVariants as word
use Rattle.script_grammar.specs.Grammar.{IsInto}
use Rattle.script_text.specs.Machine.{only, into, loop_args}
use Rattle.script_text.specs.Reads.{IsLoopCall}
use Rattle.script_text.proofs.Parsing.Kept.{came, came_not}
use Rattle.script_text.proofs.OneTree.Moved.{pfor_moved}
use Rattle.script_text.proofs.Parsing.Loops.{pfor_missing, pfor_err_name, pfor_err_bounds, pfor_err_target, pfor_err_call, pfor_read}
use Rattle.script_text.proofs.parser.parallel_loop.pfor.Goals as goal

pub returns-in_default : goal.returns-in_default
returns-in_default c = pfor_missing c.args.source.now c.args.depth c.args.first c.args.rest.now _ c.requires.keyword c.requires.depth c.in_default.ensures c.unexpected.ensures

pub returns-in_err-var : goal.returns-in_err-var
returns-in_err-var c =
    let p = err_from_is_err_and c.from_residual.result c.from_residual.ensures.1 in
    rw (p.1, p.2) (pfor_err_name c.args.source.now c.args.depth c.args.first c.args.rest.now _ _ c.in-Some.ensures _ c.requires.keyword c.requires.depth c.in_err-var.ensures)

pub returns-in_err-lo : goal.returns-in_err-lo
returns-in_err-lo c =
    let p = err_from_is_err_and c.from_residual-in_err-lo.result c.from_residual-in_err-lo.ensures.1 in
    rw (p.1, p.2) (pfor_err_bounds c.args.source.now c.args.depth c.args.first c.args.rest.now _ _ c.in-Some.ensures _ c.requires.keyword c.requires.depth c.in_ok-var.ensures _ c.in_err-lo.ensures)

pub returns-in_err-lo-2 : goal.returns-in_err-lo-2
returns-in_err-lo-2 c =
    let p = err_from_is_err_and c.from_residual-in_err-lo-2.result c.from_residual-in_err-lo-2.ensures.1 in
    rw (p.1, p.2) (pfor_err_target c.args.source.now c.args.depth c.args.first c.args.rest.now _ _ c.in-Some.ensures _ c.requires.keyword c.requires.depth c.in_ok-var.ensures _ _ _ c.in_ok-lo.ensures.0 c.in_ok-lo.ensures.1 _ (came_not IsInto (into ∷ []) c.args.source.now c.args.depth _ _ _ c.in_err-lo-2.ensures c.target.ensures))

pub returns-in_err-lo-3 : goal.returns-in_err-lo-3
returns-in_err-lo-3 c =
    let p = err_from_is_err_and c.from_residual-in_err-lo-3.result c.from_residual-in_err-lo-3.ensures.1 in
    rw (p.1, p.2) (pfor_err_call c.args.source.now c.args.depth c.args.first c.args.rest.now _ _ c.in-Some.ensures _ c.requires.keyword c.requires.depth c.in_ok-var.ensures _ _ _ c.in_ok-lo.ensures.0 c.in_ok-lo.ensures.1 _ _ (came IsInto (into ∷ []) c.args.source.now c.args.depth _ _ _ c.in_ok-lo-2.ensures.1 c.target.ensures) _ (came_not (IsLoopCall c.in_ok-var.var.bytes) (only word.Call ∷ only word.Name ∷ loop_args c.in_ok-var.var.bytes ∷ only word.Semicolon ∷ []) c.args.source.now c.args.depth _ _ _ c.in_err-lo-3.ensures c.loop_call.ensures))

pub returns : goal.returns
returns c =
    pfor_moved c.args.source.now c.args.depth c.args.first c.args.rest.now _ _ _ _ _ _ _ _ _
    (ap (λ z. z.0) c.in_ok-lo-3.ensures.0 ∙ ap (λ z. z.0) c.in_ok-lo-2.ensures.0) (ap (λ z. z.1) c.in_ok-lo-3.ensures.0 ∙ ap (λ z. z.1) c.in_ok-lo-2.ensures.0) (ap (λ z. z.2) c.in_ok-lo-3.ensures.0)
    (pfor_read c.args.source.now c.args.depth c.args.first c.args.rest.now _ _ c.in-Some.ensures _ c.requires.keyword c.requires.depth c.in_ok-var.ensures _ _ _ c.in_ok-lo.ensures.0 c.in_ok-lo.ensures.1 _ _ (came IsInto (into ∷ []) c.args.source.now c.args.depth _ _ _ c.in_ok-lo-2.ensures.1 c.target.ensures) _ _ (came (IsLoopCall c.in_ok-var.var.bytes) (only word.Call ∷ only word.Name ∷ loop_args c.in_ok-var.var.bytes ∷ only word.Semicolon ∷ []) c.args.source.now c.args.depth _ _ _ c.in_ok-lo-3.ensures.1 c.loop_call.ensures))
