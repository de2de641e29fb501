use Rattle.std.proofs.Common.{◌≡◌, length, map, take}
use Rattle.std.specs.Arc.{arc_value}
use Rattle.engine.specs.Batches.{plan_under}
use Rattle.engine.proofs.batch.plans.Given as goal

-- The seeds before have their plans.
abbrev pub invariant-loop-seed : goal.invariant-loop-seed
invariant-loop-seed l = record {
  planned : map arc_value l.plans.items ≡ map (plan_under l.batch l.script) (take l.seed-index l.batch.seeds);
  counted : length l.plans.items ≡ l.seed-index;
}
