use Rattle.strand_meaning.specs.Task.{takes}
use Rattle.strand_machine.specs.Merge.{result_of_outcome}
use Rattle.strand_machine.specs.AwaitedChildren.{destination_of}
use Rattle.strand_machine.proofs.TakenAnswers.Taking.{runs-taken, stands-of}
use Rattle.strand_machine.proofs.TakenAnswers.Targets.{target-of}
use Rattle.strand_machine.proofs.merge.merge_remaining.Goals as goal

pub merge_stage-requires-clause-stands : goal.merge_stage-requires-clause-stands
merge_stage-requires-clause-stands c = stands-of c.args.plan.now c.args.remaining.now _ c.requires.of_plan c.in-Runs.is

pub merge_stage-requires-clause-found : goal.merge_stage-requires-clause-found
merge_stage-requires-clause-found c = target-of c.args.plan.now (destination_of c.args.destination) c.args.remaining.now _ c.in-Runs.is c.requires.found

pub returns-in_ok-merge_stage-in-Runs : goal.returns-in_ok-merge_stage-in-Runs
returns-in_ok-merge_stage-in-Runs c = runs-taken (takes (destination_of c.args.destination) (result_of_outcome c.args.outcome)) c.args.remaining.now _ _ c.in-Runs.is c.in_ok-merge_stage-in-Runs.ensures
