use Rattle.std.proofs.Common.{◌≡◌, ◌++◌, drop}
use Rattle.script_check.specs.Spawns.{each_spawns}
use Rattle.script_check.proofs.texts.each_spawns.Given as goal

abbrev pub invariant-loop-f : goal.invariant-loop-f
invariant-loop-f l = each_spawns l.functions ≡ l.each.items ++ each_spawns (drop l.f-index l.functions)
