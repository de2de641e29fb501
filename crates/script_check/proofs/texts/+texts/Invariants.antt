use Rattle.std.proofs.Common.{◌≡◌, drop}
use Rattle.script_check.specs.Spawns.{any_spawns}
use Rattle.script_check.proofs.texts.+texts.Given as goal

abbrev pub invariant-any_spawns-loop-statement : goal.invariant-any_spawns-loop-statement
invariant-any_spawns-loop-statement l = any_spawns l.statements ≡ any_spawns (drop l.statement-index l.statements)
