use Rattle.std.proofs.Common.{◌≡◌, ◌≤◌, true, drop, length}
use Rattle.script_check.specs.Names.{no_names, union}
use Rattle.script_check.specs.Statements.{after}
use Rattle.script_check.specs.Walk.{walk_state, keeps_all}
use Rattle.script_check.proofs.spawns.+spawns.Given as goal

abbrev pub invariant-collect-loop-i : goal.invariant-collect-loop-i
invariant-collect-loop-i l =
    (l.i ≤ length l.statements)
    × (keeps_all (drop l.i l.statements) ≡ true)
    × (walk_state l.symbols ≡ record (walk_state l.initial.symbols) { names = union (after (drop l.i l.statements) no_names) (walk_state l.initial.symbols).names })

abbrev pub decreases-collect-loop-i : goal.decreases-collect-loop-i
decreases-collect-loop-i l = l.i
