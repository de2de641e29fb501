use Rattle.std.proofs.Common.{ap, ◌∙◌, ◌&&◌}
use Rattle.script_check.specs.Names.{NameSet, no_names, union}
use Rattle.script_check.specs.Statements.{after}
use Rattle.script_check.specs.Walk.{walk_state, WalkState}
use Rattle.script_check.proofs.Walk.After.{if_names}
use Rattle.script_check.proofs.statement.end_if.Goals as goal

pub returns : goal.returns
returns c =
    let a = after c.args.a.now no_names in
    let b = after c.args.b.now no_names in
    let s = walk_state c.args.symbols.now in
    c.in_ok-collect-2.ensures.state
    ∙ ap (λ (t : WalkState). record t { names = union b t.names })
    (c.in_ok-collect.ensures.state ∙ ap (λ (t : WalkState). record t { names = union a t.names }) c.in_ok-keep_if.ensures)
    ∙ ap (λ (n : NameSet). record s { names = n; keeps = c.args.keeps && s.keeps }) (if_names c.args.a.now c.args.b.now c.args.keeps s.names c.requires)
