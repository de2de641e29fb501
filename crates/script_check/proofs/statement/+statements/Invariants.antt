use Rattle.std.proofs.Common.{◌≡◌, drop}
use Rattle.script_check.specs.Violations.{earliest}
use Rattle.script_check.specs.Statements.{context, judge_all, violations_each}
use Rattle.script_check.specs.Walk.{state_after_all, known_in, pending_in, walk_state}
use Rattle.script_check.proofs.statement.+statements.Given as goal

abbrev pub invariant-judge_each-loop-statement : goal.invariant-judge_each-loop-statement
invariant-judge_each-loop-statement l =
    (state_after_all l.functions (drop l.statement-index l.statements) (walk_state l.symbols) ≡ state_after_all l.functions l.statements (walk_state l.initial.symbols))
    × (earliest l.found (violations_each (judge_all (drop l.statement-index l.statements)) (context l.functions l.in_block) (known_in l.symbols) (pending_in l.symbols))
    ≡ earliest l.initial.found (violations_each (judge_all l.statements) (context l.functions l.in_block) (known_in l.initial.symbols) (pending_in l.initial.symbols)))
