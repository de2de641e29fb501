use Rattle.std.proofs.Common.{ap, ◌∙◌, inl, inr}
use Rattle.script_grammar.specs.declared.tree.Act.TheOpen as act
use Rattle.script_grammar.specs.declared.tree.Act.TheVariants as variant
use Rattle.script_grammar.specs.declared.tree.Right.{Right}
use Rattle.strand_moves.proofs.Statements.Paying.{act-is}
use Rattle.strand_moves.proofs.plain_run.drawn.Goals as goal

pub returns-in-Draw : goal.returns-in-Draw
returns-in-Draw c =
    let x = c.in-Let.x in
    let r = c.in-Let.r in
    let is = act-is (act.Let x r) c.args.statement.now.act (variant.Let x r) c.in-Let.is (variant.rolls-Let x r) in
    (c.in-Draw.field-0, inl (is ∙ ap (λ (s : Right). act.Let x s) c.in-Draw.is))

pub returns-in-Draw-r : goal.returns-in-Draw-r
returns-in-Draw-r c =
    let x = c.in-Set.x in
    let r = c.in-Set.r in
    let is = act-is (act.Set x r) c.args.statement.now.act (variant.Set x r) c.in-Set.is (variant.rolls-Set x r) in
    (c.in-Draw-r.field-0, inr (is ∙ ap (λ (s : Right). act.Set x s) c.in-Draw-r.is))
