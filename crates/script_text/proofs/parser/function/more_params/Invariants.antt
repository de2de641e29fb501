use Rattle.std.proofs.Common.{length}
use Rattle.script_text.proofs.Parsing.Functions.{ParamsSoFar}
use Rattle.script_text.proofs.parser.function.more_params.Given as goal

abbrev pub invariant-loop-rest : goal.invariant-loop-rest
invariant-loop-rest l = ParamsSoFar l.source l.depth l.initial.found.items l.tokens l.found.items l.left

abbrev pub decreases-loop-rest : goal.decreases-loop-rest
decreases-loop-rest l = length l.left
