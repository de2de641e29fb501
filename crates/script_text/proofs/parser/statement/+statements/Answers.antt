use Rattle.std.proofs.Common.{refl, ap, ◌∙◌, rules}
use Rattle.std.proofs.lemmas.Result.{err_from_is_err_and}
use Rattle.script_tokens.specs.declared.token.Word.TheVariants as word
use Rattle.std.specs.Prelude.{◌∷◌, []}
use Rattle.script_grammar.specs.Grammar.{IsBlock, IsElse}
use Rattle.script_text.specs.Machine.{only, call_args, expr_then, block, otherwise}
use Rattle.script_text.proofs.Parsing.Kept.{came, came_not}
use Rattle.script_text.proofs.OneTree.Moved.{if_moved, while_moved}
use Rattle.script_text.proofs.Parsing.Statements.{spawn_read, call_stmt_read, sync_read, print_read, stmt_err, if_read, while_read, if_err, if_err_block, if_err_else, while_err, while_err_block, scope_read, scope_err, block_bracket, block_read, block_err_stmts, block_err_close, else_missing, else_read, else_err, stmts_end, one_more_stmt, stmts_err, stmt_turn}
use Rattle.script_text.proofs.parser.statement.+statements.Goals as goal

pub act-returns-in_err-called-in-Spawn : goal.act-returns-in_err-called-in-Spawn
act-returns-in_err-called-in-Spawn t c =
    let p = err_from_is_err_and c.from_residual.result c.from_residual.ensures.1 in
    rw (p.1, p.2) (stmt_err c.args.source.now c.args.depth c.args.first c.args.rest.now word.Spawn (only word.Name ∷ call_args ∷ only word.Semicolon ∷ []) _ c.in-Spawn.is refl (λ t s. refl) (λ s. refl) c.requires.depth c.in_err-called-in-Spawn.ensures)

pub act-returns-in_err-called-in-Call : goal.act-returns-in_err-called-in-Call
act-returns-in_err-called-in-Call t c =
    let p = err_from_is_err_and c.from_residual-in_err-called-in-Call.result c.from_residual-in_err-called-in-Call.ensures.1 in
    rw (p.1, p.2) (stmt_err c.args.source.now c.args.depth c.args.first c.args.rest.now word.Call (only word.Name ∷ call_args ∷ only word.Semicolon ∷ []) _ c.in-Call.is refl (λ t s. refl) (λ s. refl) c.requires.depth c.in_err-called-in-Call.ensures)

pub act-returns-in_err-rest-in-Sync : goal.act-returns-in_err-rest-in-Sync
act-returns-in_err-rest-in-Sync t c =
    let p = err_from_is_err_and c.from_residual-in_err-rest-in-Sync.result c.from_residual-in_err-rest-in-Sync.ensures.1 in
    rw (p.1, p.2) (stmt_err c.args.source.now c.args.depth c.args.first c.args.rest.now word.Sync (only word.Semicolon ∷ []) _ c.in-Sync.is refl (λ t s. refl) (λ s. refl) c.requires.depth c.in_err-rest-in-Sync.ensures)

pub act-returns-in_err-x-in-Print : goal.act-returns-in_err-x-in-Print
act-returns-in_err-x-in-Print t c =
    let p = err_from_is_err_and c.from_residual-in_err-x-in-Print.result c.from_residual-in_err-x-in-Print.ensures.1 in
    rw (p.1, p.2) (stmt_err c.args.source.now c.args.depth c.args.first c.args.rest.now word.Print (expr_then (only word.Semicolon ∷ [])) _ c.in-Print.is refl (λ t s. refl) (λ s. refl) c.requires.depth c.in_err-x-in-Print.ensures)

pub act-returns-in_ok-called-in-Spawn : goal.act-returns-in_ok-called-in-Spawn
act-returns-in_ok-called-in-Spawn t c = spawn_read c.args.source.now c.args.depth c.args.first c.args.rest.now _ _ c.in-Spawn.is c.requires.depth c.in_ok-called-in-Spawn.ensures

pub act-returns-in_ok-called-in-Call : goal.act-returns-in_ok-called-in-Call
act-returns-in_ok-called-in-Call t c = call_stmt_read c.args.source.now c.args.depth c.args.first c.args.rest.now _ _ c.in-Call.is c.requires.depth c.in_ok-called-in-Call.ensures

pub act-returns-in_ok-rest-in-Sync : goal.act-returns-in_ok-rest-in-Sync
act-returns-in_ok-rest-in-Sync t c = sync_read c.args.source.now c.args.depth c.args.first c.args.rest.now _ c.in-Sync.is c.requires.depth c.in_ok-rest-in-Sync.ensures

pub act-returns-in_ok-x-in-Print : goal.act-returns-in_ok-x-in-Print
act-returns-in_ok-x-in-Print t c = print_read c.args.source.now c.args.depth c.args.first c.args.rest.now _ _ c.in-Print.is c.requires.depth c.in_ok-x-in-Print.ensures

pub choice-returns-in_err-condition : goal.choice-returns-in_err-condition
choice-returns-in_err-condition t c =
    let p = err_from_is_err_and c.from_residual.result c.from_residual.ensures.1 in
    rw (p.1, p.2) (if_err c.args.source.now c.args.depth c.args.first c.args.rest.now _ c.requires.keyword c.requires.depth c.in_err-condition.ensures)

pub choice-returns-in_err-condition-2 : goal.choice-returns-in_err-condition-2
choice-returns-in_err-condition-2 t c =
    let p = err_from_is_err_and c.from_residual-in_err-condition-2.result c.from_residual-in_err-condition-2.ensures.1 in
    rw (p.1, p.2) (if_err_block c.args.source.now c.args.depth c.args.first c.args.rest.now _ _ _ c.requires.keyword c.requires.depth c.in_ok-condition.ensures (came_not IsBlock (block ∷ []) c.args.source.now c.args.depth _ _ _ c.in_err-condition-2.ensures c.block.ensures))

pub choice-returns-in_err-condition-3 : goal.choice-returns-in_err-condition-3
choice-returns-in_err-condition-3 t c =
    let p = err_from_is_err_and c.from_residual-in_err-condition-3.result c.from_residual-in_err-condition-3.ensures.1 in
    rw (p.1, p.2) (if_err_else c.args.source.now c.args.depth c.args.first c.args.rest.now _ _ _ _ _ c.requires.keyword c.requires.depth c.in_ok-condition.ensures (came IsBlock (block ∷ []) c.args.source.now c.args.depth _ _ _ c.in_ok-condition-2.ensures.1 c.block.ensures)
    (came_not IsElse (otherwise ∷ []) c.args.source.now c.args.depth _ _ _ c.in_err-condition-3.ensures c.otherwise.ensures))

pub choice-returns : goal.choice-returns
choice-returns t c =
    if_moved c.args.source.now c.args.depth c.args.first c.args.rest.now _ _ _ _ _ _ (ap (λ z. z.0) c.in_ok-condition-3.ensures.0 ∙ c.in_ok-condition-2.ensures.0) (ap (λ z. z.1) c.in_ok-condition-3.ensures.0)
    (if_read c.args.source.now c.args.depth c.args.first c.args.rest.now _ _ _ _ _ _ c.requires.keyword c.requires.depth c.in_ok-condition.ensures (came IsBlock (block ∷ []) c.args.source.now c.args.depth _ _ _ c.in_ok-condition-2.ensures.1 c.block.ensures)
    (came IsElse (otherwise ∷ []) c.args.source.now c.args.depth _ _ _ c.in_ok-condition-3.ensures.1 c.otherwise.ensures))

pub repetition-returns-in_err-condition : goal.repetition-returns-in_err-condition
repetition-returns-in_err-condition t c =
    let p = err_from_is_err_and c.from_residual.result c.from_residual.ensures.1 in
    rw (p.1, p.2) (while_err c.args.source.now c.args.depth c.args.first c.args.rest.now _ c.requires.keyword c.requires.depth c.in_err-condition.ensures)

pub repetition-returns-in_err-condition-2 : goal.repetition-returns-in_err-condition-2
repetition-returns-in_err-condition-2 t c =
    let p = err_from_is_err_and c.from_residual-in_err-condition-2.result c.from_residual-in_err-condition-2.ensures.1 in
    rw (p.1, p.2) (while_err_block c.args.source.now c.args.depth c.args.first c.args.rest.now _ _ _ c.requires.keyword c.requires.depth c.in_ok-condition.ensures (came_not IsBlock (block ∷ []) c.args.source.now c.args.depth _ _ _ c.in_err-condition-2.ensures c.block.ensures))

pub repetition-returns : goal.repetition-returns
repetition-returns t c =
    while_moved c.args.source.now c.args.depth c.args.first c.args.rest.now _ _ _ _ c.in_ok-condition-2.ensures.0
    (while_read c.args.source.now c.args.depth c.args.first c.args.rest.now _ _ _ _ c.requires.keyword c.requires.depth c.in_ok-condition.ensures (came IsBlock (block ∷ []) c.args.source.now c.args.depth _ _ _ c.in_ok-condition-2.ensures.1 c.block.ensures))

pub level-returns-in_err-body : goal.level-returns-in_err-body
level-returns-in_err-body t c =
    let p = err_from_is_err_and c.from_residual.result c.from_residual.ensures.1 in
    rw (p.1, p.2) (scope_err c.args.source.now c.args.depth c.args.first c.args.rest.now _ c.requires.keyword c.requires.depth c.in_err-body.ensures)

pub level-returns : goal.level-returns
level-returns t c = scope_read c.args.source.now c.args.depth c.args.first c.args.rest.now _ _ c.requires.keyword c.requires.depth c.in_ok-body.ensures

pub block-returns-in_err-rest : goal.block-returns-in_err-rest
block-returns-in_err-rest t c =
    let p = err_from_is_err_and c.from_residual.result c.from_residual.ensures.1 in
    rw (p.1, p.2) (c.in_err-rest.ensures block _ block_bracket)

pub block-returns-in_err-body : goal.block-returns-in_err-body
block-returns-in_err-body t c =
    let p = err_from_is_err_and c.from_residual-in_err-body.result c.from_residual-in_err-body.ensures.1 in
    rw (p.1, p.2) (block_err_stmts c.args.source.now c.args.depth _ _ c.in_ok-rest.ensures _ c.in_err-body.ensures)

pub block-returns-in_err-rest-2 : goal.block-returns-in_err-rest-2
block-returns-in_err-rest-2 t c =
    let p = err_from_is_err_and c.from_residual-in_err-rest-2.result c.from_residual-in_err-rest-2.ensures.1 in
    rw (p.1, p.2) (block_err_close c.args.source.now c.args.depth _ _ c.in_ok-rest.ensures _ _ _ c.in_ok-body.ensures c.in_err-rest-2.ensures)

pub block-returns : goal.block-returns
block-returns t c = block_read c.args.source.now c.args.depth _ _ c.in_ok-rest.ensures _ _ _ c.in_ok-body.ensures c.in_ok-rest-2.ensures

pub otherwise-returns-in_err-body : goal.otherwise-returns-in_err-body
otherwise-returns-in_err-body t c =
    let p = err_from_is_err_and c.from_residual.result c.from_residual.ensures.1 in
    rw (p.1, p.2) (else_err c.args.source.now c.args.depth c.args.tokens.now _ _ _ c.requires c.in-Some.ensures c.in_err-body.ensures)

pub otherwise-returns-in-Some : goal.otherwise-returns-in-Some
otherwise-returns-in-Some t c = else_read c.args.source.now c.args.depth c.args.tokens.now _ _ _ _ c.requires c.in-Some.ensures c.in_ok-body.ensures

pub otherwise-returns : goal.otherwise-returns
otherwise-returns t c = else_missing c.args.source.now c.args.depth c.args.tokens.now _ (search rules) c.in_default.ensures

pub stmts-returns-in_err-act : goal.stmts-returns-in_err-act
stmts-returns-in_err-act t c =
    let p = err_from_is_err_and c.from_residual.result c.from_residual.ensures.1 in
    rw (p.1, p.2) (stmts_err c.args.source.now c.args.depth _ _ _ _ _ _ c.loop-first.invariant c.in-Some.ensures.0 c.in_err-act.ensures)

pub stmts-loop-first-preserved : goal.stmts-loop-first-preserved
stmts-loop-first-preserved t c = one_more_stmt c.args.source.now c.args.depth _ _ _ _ _ _ _ _ (search rules) c.loop-first.invariant c.in-Some.ensures.0 c.in_ok-act.ensures

pub stmts-loop-first-smaller : goal.stmts-loop-first-smaller
stmts-loop-first-smaller t c = stmt_turn c.args.source.now _ _ _ _ _ c.in-Some.ensures.0 c.in_ok-act.ensures.0

pub stmts-returns : goal.stmts-returns
stmts-returns t c = stmts_end c.args.source.now c.args.depth _ _ _ c.loop-first.invariant c.in_default.ensures
