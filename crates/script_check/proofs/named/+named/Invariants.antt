use Rattle.std.proofs.Common.{◌≡◌, ◌++◌, drop}
use Rattle.script_check.specs.Slots.{named_in_block}
use Rattle.script_check.proofs.named.+named.Given as goal

abbrev pub invariant-in_block-loop-statement : goal.invariant-in_block-loop-statement
invariant-in_block-loop-statement l = l.fn.named.items ++ named_in_block l.statements ≡ l.named.items ++ named_in_block (drop l.statement-index l.statements)
