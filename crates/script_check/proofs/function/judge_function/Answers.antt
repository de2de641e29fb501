use Rattle.std.proofs.Common.{◌≡◌, false, rules}
use Rattle.script_check.specs.Violations.{earliest}
use Rattle.script_check.specs.Statements.{context, judge_all, violations_each}
use Rattle.script_check.specs.Valid.{known_params, param_violations}
use Rattle.script_check.specs.Walk.{state_after_all, walk_state}
use Rattle.script_check.proofs.Walk.Functioned.{function_judged}
use Rattle.script_check.proofs.function.judge_function.Goals as goal

pub returns : goal.returns
returns c =
    let fs = c.args.functions.now in
    let f = c.args.f.now in
    let new = walk_state c.new-symbols.result in
    let params = walk_state c.declare_params.new.symbols in
    let declared : params ≡ record new { known = known_params f.params new.known } = search rules in
    let first : c.declare_params.new.found ≡ earliest c.args.found.now (param_violations f.params new.known) = search rules in
    let body : walk_state c.judge_each.new.symbols ≡ state_after_all fs f.body params = search rules in
    let second : c.judge_each.new.found ≡ earliest c.declare_params.new.found (violations_each (judge_all f.body) (context fs false) params.known params.names) = search rules in
    function_judged fs f new params (walk_state c.judge_each.new.symbols) (walk_state c.sync.new.self)
    c.args.found.now c.declare_params.new.found c.judge_each.new.found c.want.new.found
    c.new-symbols.ensures.known c.new-symbols.ensures.pending declared first body second c.in_ok-sync.ensures c.want.ensures.found
