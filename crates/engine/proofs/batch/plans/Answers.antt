use Rattle.std.proofs.Common.{◌≡◌, length, map, take, ap, ◌∙◌, rules, arith}
use Rattle.std.proofs.lemmas.List.{take_all}
use Rattle.engine.specs.Batches.{plan_under}
use Rattle.engine.proofs.batch.plans.Goals as goal

pub returns-clause-plans : goal.returns-clause-plans
returns-clause-plans c =
    let seeds = c.args.batch.now.seeds in
    let count : length c.loop-seed.plans.items ≡ length seeds = search rules in
    let end : take c.loop-seed.seed-index seeds ≡ seeds = take_all c.loop-seed.seed-index seeds (omega (arith, count, c.loop-seed.invariant.counted)) in
    c.loop-seed.invariant.planned ∙ ap (map (plan_under c.args.batch.now c.args.script.now)) end
