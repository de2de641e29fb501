use Rattle.std.proofs.Common.{ap, ◌∙◌}
use Rattle.script_check.specs.Names.{NameSet}
use Rattle.script_check.specs.Walk.{walk_state}
use Rattle.script_check.proofs.Walk.After.{while_names}
use Rattle.script_check.proofs.statement.begin_while.Goals as goal

pub returns : goal.returns
returns c =
    let s = walk_state c.args.symbols.now in
    c.in_ok-collect.ensures.state ∙ ap (λ (n : NameSet). record s { names = n }) (while_names c.args.body.now s.names)
