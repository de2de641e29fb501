use Rattle.std.proofs.Common.{◌≡◌, drop}
use Rattle.script_check.specs.Violations.{earliest}
use Rattle.script_check.specs.Statements.{arguments}
use Rattle.script_check.specs.Walk.{known_in, pending_in}
use Rattle.script_check.proofs.call.judge_arguments.Given as goal

abbrev pub invariant-loop-i : goal.invariant-loop-i
invariant-loop-i l =
    earliest l.found (arguments (drop l.i l.params) (drop l.i l.args) (known_in l.symbols) (pending_in l.symbols))
    ≡ earliest l.initial.found (arguments l.params l.args (known_in l.symbols) (pending_in l.symbols))
