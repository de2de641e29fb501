use Rattle.script_grammar.specs.declared.tree.Act.TheOpen as act
use Rattle.script_grammar.specs.declared.tree.Act.TheVariants as variant
use Rattle.strand_moves.proofs.SpawnedChildren.Spawning.{does-let, does-set, does-spawn}
use Rattle.strand_moves.proofs.Statements.FoundParts.{every-let, every-set, every-spawn}
use Rattle.strand_moves.proofs.Statements.Paying.{act-is}
use Rattle.strand_moves.proofs.children.spawn_in.Goals as goal

pub returns-in-Spawn-clause-does : goal.returns-in-Spawn-clause-does
returns-in-Spawn-clause-does c =
    let st = c.args.statement.now in
    does-spawn st c.in-Spawn.c (act-is (act.Spawn c.in-Spawn.c) st.act (variant.Spawn c.in-Spawn.c) c.in-Spawn.is (variant.rolls-Spawn c.in-Spawn.c))

pub returns-in-Spawn-r-clause-does : goal.returns-in-Spawn-r-clause-does
returns-in-Spawn-r-clause-does c =
    let st = c.args.statement.now in
    let x = c.in-Let.x in
    let r = c.in-Let.r in
    does-let st x r c.in-Spawn-r.field-0 c.in-Spawn-r.c c.in-Spawn-r.is (act-is (act.Let x r) st.act (variant.Let x r) c.in-Let.is (variant.rolls-Let x r))

pub returns-in-Spawn-r-2-clause-does : goal.returns-in-Spawn-r-2-clause-does
returns-in-Spawn-r-2-clause-does c =
    let st = c.args.statement.now in
    let x = c.in-Set.x in
    let r = c.in-Set.r in
    does-set st x r c.in-Spawn-r-2.field-0 c.in-Spawn-r-2.c c.in-Spawn-r-2.is (act-is (act.Set x r) st.act (variant.Set x r) c.in-Set.is (variant.rolls-Set x r))

pub returns-in-Spawn-clause-every : goal.returns-in-Spawn-clause-every
returns-in-Spawn-clause-every c = λ is calls h.
    let st = c.args.statement.now in
    every-spawn is calls st h c.in-Spawn.c (act-is (act.Spawn c.in-Spawn.c) st.act (variant.Spawn c.in-Spawn.c) c.in-Spawn.is (variant.rolls-Spawn c.in-Spawn.c))

pub returns-in-Spawn-r-clause-every : goal.returns-in-Spawn-r-clause-every
returns-in-Spawn-r-clause-every c = λ is calls h.
    let st = c.args.statement.now in
    let x = c.in-Let.x in
    let r = c.in-Let.r in
    every-let is calls st h x r c.in-Spawn-r.field-0 c.in-Spawn-r.c c.in-Spawn-r.is (act-is (act.Let x r) st.act (variant.Let x r) c.in-Let.is (variant.rolls-Let x r))

pub returns-in-Spawn-r-2-clause-every : goal.returns-in-Spawn-r-2-clause-every
returns-in-Spawn-r-2-clause-every c = λ is calls h.
    let st = c.args.statement.now in
    let x = c.in-Set.x in
    let r = c.in-Set.r in
    every-set is calls st h x r c.in-Spawn-r-2.field-0 c.in-Spawn-r-2.c c.in-Spawn-r-2.is (act-is (act.Set x r) st.act (variant.Set x r) c.in-Set.is (variant.rolls-Set x r))
