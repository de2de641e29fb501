use Rattle.std.proofs.Common.{◌∙◌, refl}
use Rattle.std.proofs.lemmas.Option.{slice_get_read}
use Rattle.script_grammar.specs.declared.tree.Act.TheOpen as act
use Rattle.script_grammar.specs.declared.tree.Act.TheVariants as variant
use Rattle.strand_moves.proofs.Cursors.Loops.{last-block, last-loop}
use Rattle.strand_moves.proofs.Statements.Paying.{act-is}
use Rattle.strand_moves.proofs.cursor.Cursor.loop_around.Goals as goal

pub returns-clause-block : goal.returns-clause-block
returns-clause-block c =
    last-block c.args.body.now c.args.self.now c.as_slice.result.now _ c.innermost-block.result.now c.as_slice.ensures c.in-len1-up.len_at_least c.innermost-block.ensures c.block_in.result.now c.block_in.ensures

pub returns-in-While-clause-block : goal.returns-in-While-clause-block
returns-in-While-clause-block c =
    let st = c.in-Some.statement.now in
    let found = c.in-Some.ensures.lookup in
    let there = slice_get_read _ _ _ st refl found.3.0 found.1 in
    let is = act-is (act.While c.in-While.condition c.in-While.inner) st.act (variant.While c.in-While.condition c.in-While.inner) c.in-While.is (variant.rolls-While c.in-While.condition c.in-While.inner) in
    c.as_slice-in-While.ensures
    ∙ (last-loop c.args.body.now c.args.self.now c.as_slice.result.now _ c.innermost-block.result.now c.as_slice.ensures c.in-len1-up.len_at_least c.innermost-block.ensures st c.in-While.condition c.in-While.inner c.in-LoopBody.is there is).0

pub returns-in-While-clause-around : goal.returns-in-While-clause-around
returns-in-While-clause-around c =
    let st = c.in-Some.statement.now in
    let found = c.in-Some.ensures.lookup in
    let there = slice_get_read _ _ _ st refl found.3.0 found.1 in
    let is = act-is (act.While c.in-While.condition c.in-While.inner) st.act (variant.While c.in-While.condition c.in-While.inner) c.in-While.is (variant.rolls-While c.in-While.condition c.in-While.inner) in
    (last-loop c.args.body.now c.args.self.now c.as_slice.result.now _ c.innermost-block.result.now c.as_slice.ensures c.in-len1-up.len_at_least c.innermost-block.ensures st c.in-While.condition c.in-While.inner c.in-LoopBody.is there is).1
