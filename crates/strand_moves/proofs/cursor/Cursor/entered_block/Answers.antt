use Rattle.script_grammar.specs.declared.tree.Act.TheOpen as act
use Rattle.script_grammar.specs.declared.tree.Act.TheVariants as variant
use Rattle.strand_moves.proofs.Cursors.Loops.{entered-block, entered-loop}
use Rattle.strand_moves.proofs.Statements.Paying.{act-is}
use Rattle.strand_moves.proofs.cursor.Cursor.entered_block.Goals as goal

pub returns-clause-block : goal.returns-clause-block
returns-clause-block c = λ body h. entered-block body c.args.self.now c.args.statement.now h c.as_slice.result.now _ c.as_slice.ensures c.branch_in-block.result.now c.branch_in-block.ensures

pub returns-in-While-clause-block : goal.returns-in-While-clause-block
returns-in-While-clause-block c = λ body h. entered-block body c.args.self.now c.args.statement.now h c.as_slice.result.now _ c.as_slice.ensures c.branch_in-block.result.now c.branch_in-block.ensures

pub returns-in-While-clause-around : goal.returns-in-While-clause-around
returns-in-While-clause-around c = λ body h.
    let st = c.args.statement.now in
    let is = act-is (act.While c.in-While.condition c.in-While.field-1) st.act (variant.While c.in-While.condition c.in-While.field-1) c.in-While.is (variant.rolls-While c.in-While.condition c.in-While.field-1) in
    entered-loop body c.args.self.now st h c.as_slice.result.now _ c.as_slice.ensures c.in-While.condition c.in-While.field-1 c.in-LoopBody.is is
