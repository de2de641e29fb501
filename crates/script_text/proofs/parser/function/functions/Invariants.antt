use Rattle.std.proofs.Common.{length}
use Rattle.script_text.proofs.Parsing.Functions.{FunctionsSoFar}
use Rattle.script_text.proofs.parser.function.functions.Given as goal

abbrev pub invariant-loop-at : goal.invariant-loop-at
invariant-loop-at l = FunctionsSoFar l.source l.tokens l.found.items l.left

abbrev pub decreases-loop-at : goal.decreases-loop-at
decreases-loop-at l = length l.left
