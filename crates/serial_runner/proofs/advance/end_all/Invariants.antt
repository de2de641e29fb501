use Rattle.std.proofs.Common.{length}
use Rattle.serial_runner.specs.Stacks.{lowest_of, task_of_answer}
use Rattle.serial_runner.proofs.Advancing.{EndsAt}
use Rattle.serial_runner.proofs.advance.end_all.Given as goal

-- the answer is of the task above those that are left, and the bottom is the same
abbrev pub invariant-loop-open_task : goal.invariant-loop-open_task
invariant-loop-open_task g l = EndsAt (lowest_of (task_of_answer l.fn.answer) l.fn.below) l.answer l.below

abbrev pub decreases-loop-open_task : goal.decreases-loop-open_task
decreases-loop-open_task g l = length l.below
