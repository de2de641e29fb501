use Rattle.std.proofs.Common.{ap}
use Rattle.strand_machine.specs.Merge.{result_of_outcome}
use Rattle.strand_machine.specs.AwaitedChildren.{destination_of}
use Rattle.strand_machine.proofs.TakenAnswers.Taking.{on-ok, placed, stage-stays}
use Rattle.strand_machine.specs.Tasks.{stage_of}
use Rattle.strand_machine.proofs.TakenAnswers.Targets.{found-at}
use Rattle.strand_machine.proofs.merge.merge_stage.Goals as goal

pub spawned_stage-requires-clause-found : goal.spawned_stage-requires-clause-found
spawned_stage-requires-clause-found c = found-at c.args.plan.now _ _ (stage_of c.args.plan.now c.args.stage.now) (ap destination_of c.in-Spawned.is) c.requires.found

pub looped_stage-requires-clause-found : goal.looped_stage-requires-clause-found
looped_stage-requires-clause-found c = found-at c.args.plan.now _ _ (stage_of c.args.plan.now c.args.stage.now) (ap destination_of c.in-Looped.is) c.requires.found

pub returns-in-Spawned : goal.returns-in-Spawned
returns-in-Spawned c = placed c.args.destination _ (result_of_outcome c.args.outcome) _ _ (ap destination_of c.in-Spawned.is) c.spawned_stage.ensures

pub returns-in-Looped : goal.returns-in-Looped
returns-in-Looped c = on-ok c.looped_stage.result _ _ (placed c.args.destination _ (result_of_outcome c.args.outcome) _ _ (ap destination_of c.in-Looped.is)) c.looped_stage.ensures

pub returns-in-Half : goal.returns-in-Half
returns-in-Half c = placed c.args.destination _ (result_of_outcome c.args.outcome) _ _ (ap destination_of c.in-Half.is) (stage-stays (result_of_outcome c.args.outcome) _)
