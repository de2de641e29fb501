use Rattle.std.proofs.Common.{length}
use Rattle.script_text.proofs.Parsing.Calls.{ArgsSoFar}
use Rattle.script_text.proofs.parser.call.more_args.Given as goal

abbrev pub invariant-loop-rest : goal.invariant-loop-rest
invariant-loop-rest l = ArgsSoFar l.source l.depth l.initial.found.items l.tokens l.found.items l.left

abbrev pub decreases-loop-rest : goal.decreases-loop-rest
decreases-loop-rest l = length l.left
