use Rattle.std.proofs.Common.{◌≡◌, drop}
use Rattle.script_check.specs.Violations.{earliest}
use Rattle.script_check.specs.Valid.{known_params, param_violations}
use Rattle.script_check.specs.Walk.{known_in, walk_state}
use Rattle.script_check.proofs.function.declare_params.Given as goal

abbrev pub invariant-loop-param : goal.invariant-loop-param
invariant-loop-param l =
    (record (walk_state l.symbols) { known = known_params (drop l.param-index l.params) (known_in l.symbols) }
    ≡ record (walk_state l.initial.symbols) { known = known_params l.params (known_in l.initial.symbols) })
    × (earliest l.found (param_violations (drop l.param-index l.params) (known_in l.symbols)) ≡ earliest l.initial.found (param_violations l.params (known_in l.initial.symbols)))
