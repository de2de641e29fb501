use Rattle.std.proofs.Common.{sym, ap, ◌∙◌, inl, inr}
use Rattle.script_grammar.specs.declared.tree.Act.TheOpen as act
use Rattle.script_grammar.specs.declared.tree.Act.TheVariants as variant
use Rattle.script_grammar.specs.declared.tree.Name.{Name}
use Rattle.script_grammar.specs.declared.tree.Right.{Right}
use Rattle.strand_moves.proofs.Cursors.Loops.{if-some}
use Rattle.strand_moves.proofs.Statements.Paying.{act-is}
use Rattle.strand_moves.proofs.plain_run.assignment.Goals as goal

pub returns-in-Let : goal.returns-in-Let
returns-in-Let c =
    let x = c.in-Let.x in
    let r = c.in-Let.r in
    let is = act-is (act.Let x r) c.args.statement.now.act (variant.Let x r) c.in-Let.is (variant.rolls-Let x r) in
    if-some c.with_value.result (λ given h. inl (is ∙ ap (λ (n : Name). act.Let n r) (sym h.0) ∙ ap (λ (s : Right). act.Let given.0.now s) h.1)) c.with_value.ensures

pub returns-in-Set : goal.returns-in-Set
returns-in-Set c =
    let x = c.in-Set.x in
    let r = c.in-Set.r in
    let is = act-is (act.Set x r) c.args.statement.now.act (variant.Set x r) c.in-Set.is (variant.rolls-Set x r) in
    if-some c.with_value-in-Set.result (λ given h. inr (is ∙ ap (λ (n : Name). act.Set n r) (sym h.0) ∙ ap (λ (s : Right). act.Set given.0.now s) h.1)) c.with_value-in-Set.ensures
