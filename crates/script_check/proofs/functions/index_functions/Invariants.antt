use Rattle.std.proofs.Common.{◌≡◌, [], take, drop}
use Rattle.script_check.specs.Tables.{table_of}
use Rattle.script_check.specs.Valid.{functions_twice}
use Rattle.script_check.specs.Violations.{earliest}
use Rattle.script_check.specs.Walk.{IsIndex}
use Rattle.script_check.proofs.functions.index_functions.Given as goal

abbrev pub invariant-loop-i : goal.invariant-loop-i
invariant-loop-i l =
    IsIndex (take l.i l.list) (table_of l.first.map)
    × (earliest l.found (functions_twice (take l.i l.list) (drop l.i l.list)) ≡ earliest l.initial.found (functions_twice [] l.list))
