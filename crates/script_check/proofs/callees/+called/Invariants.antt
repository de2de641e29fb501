use Rattle.std.proofs.Common.{◌≡◌, ◌++◌, drop}
use Rattle.script_check.specs.Slots.{called_in_block}
use Rattle.script_check.proofs.callees.+called.Given as goal

abbrev pub invariant-in_block-loop-statement : goal.invariant-in_block-loop-statement
invariant-in_block-loop-statement l = l.fn.called.items ++ called_in_block l.statements ≡ l.called.items ++ called_in_block (drop l.statement-index l.statements)
