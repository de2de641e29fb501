use Rattle.std.proofs.Common.{refl}
use Rattle.strand_meaning.specs.Machine.{Spawned}
use Rattle.strand_meaning.specs.Task.{takes, changed, frame_with_answer}
use Rattle.strand_machine.specs.Merge.{result_of_outcome}
use Rattle.strand_machine.proofs.TakenAnswers.Taking.{at-goes, at-sync, at-loop, goes-of, loop-of, sync-of}
use Rattle.strand_machine.proofs.TakenAnswers.Targets.{goes-found, loop-found, sync-found}
use Rattle.strand_machine.proofs.merge.spawned_stage.Goals as goal

pub merge_spawned-requires-clause-sound : goal.merge_spawned-requires-clause-sound
merge_spawned-requires-clause-sound c = goes-of c.args.plan.now c.args.stage.now _ c.requires.stands c.in-Running.is

pub merge_spawned-requires-clause-found : goal.merge_spawned-requires-clause-found
merge_spawned-requires-clause-found c = goes-found c.args.plan.now c.args.stage.now _ (Spawned c.args.height c.args.target.now) c.requires.found c.in-Running.is

pub merge_spawned-requires-in-AtSync-clause-sound : goal.merge_spawned-requires-in-AtSync-clause-sound
merge_spawned-requires-in-AtSync-clause-sound c = sync-of c.args.plan.now c.args.stage.now _ c.requires.stands c.in-AtSync.is

pub merge_spawned-requires-in-AtSync-clause-found : goal.merge_spawned-requires-in-AtSync-clause-found
merge_spawned-requires-in-AtSync-clause-found c = sync-found c.args.plan.now c.args.stage.now _ (Spawned c.args.height c.args.target.now) c.requires.found c.in-AtSync.is

pub merge_spawned-requires-in-AtLoop-clause-sound : goal.merge_spawned-requires-in-AtLoop-clause-sound
merge_spawned-requires-in-AtLoop-clause-sound c = loop-of c.args.plan.now c.args.stage.now _ c.requires.stands c.in-AtLoop.is

pub merge_spawned-requires-in-AtLoop-clause-found : goal.merge_spawned-requires-in-AtLoop-clause-found
merge_spawned-requires-in-AtLoop-clause-found c = loop-found c.args.plan.now c.args.stage.now _ (Spawned c.args.height c.args.target.now) c.requires.found c.in-AtLoop.is

pub returns-in-Running : goal.returns-in-Running
returns-in-Running c =
    let e = c.merge_spawned.ensures in
    let ending = result_of_outcome c.args.outcome in
    at-goes (takes (Spawned c.args.height c.args.target.now) ending) (changed c.args.height (frame_with_answer c.args.target.now ending)) c.args.stage.now _ _ (λ m. refl) c.in-Running.is e.machine e.path e.sound

pub returns-in-AtSync : goal.returns-in-AtSync
returns-in-AtSync c =
    let e = c.merge_spawned-in-AtSync.ensures in
    let ending = result_of_outcome c.args.outcome in
    at-sync (takes (Spawned c.args.height c.args.target.now) ending) (changed c.args.height (frame_with_answer c.args.target.now ending)) c.args.stage.now _ _ (λ m. refl) c.in-AtSync.is e.machine e.path e.sound

pub returns-in-AtLoop : goal.returns-in-AtLoop
returns-in-AtLoop c =
    let e = c.merge_spawned-in-AtLoop.ensures in
    let ending = result_of_outcome c.args.outcome in
    at-loop (takes (Spawned c.args.height c.args.target.now) ending) (changed c.args.height (frame_with_answer c.args.target.now ending)) c.args.stage.now _ _ (λ m. refl) c.in-AtLoop.is e.machine e.path e.sound
