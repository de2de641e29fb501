use Rattle.std.proofs.Common.{length, ◌+◌, ◌-◌, ◌*◌}
use Rattle.script_text.proofs.Parsing.Statements.{StmtsSoFar}
use Rattle.script_text.proofs.parser.statement.+statements.Given as goal

abbrev pub decreases-block : goal.decreases-block
decreases-block l = 5 * (65 - l.depth)

abbrev pub decreases-otherwise : goal.decreases-otherwise
decreases-otherwise l = 5 * (65 - l.depth) + 1

abbrev pub decreases-choice : goal.decreases-choice
decreases-choice l = 5 * (65 - l.depth) + 2

abbrev pub decreases-repetition : goal.decreases-repetition
decreases-repetition l = 5 * (65 - l.depth) + 2

abbrev pub decreases-level : goal.decreases-level
decreases-level l = 5 * (65 - l.depth) + 2

abbrev pub decreases-act : goal.decreases-act
decreases-act l = 5 * (65 - l.depth) + 3

abbrev pub decreases-stmts : goal.decreases-stmts
decreases-stmts l = 5 * (65 - l.depth) + 4

abbrev pub invariant-stmts-loop-first : goal.invariant-stmts-loop-first
invariant-stmts-loop-first l = StmtsSoFar l.source l.depth l.tokens l.found.items l.left

abbrev pub decreases-stmts-loop-first : goal.decreases-stmts-loop-first
decreases-stmts-loop-first l = length l.left
