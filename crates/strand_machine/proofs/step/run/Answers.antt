use Rattle.std.proofs.Common.{IfOk, sym, subst}
use Rattle.strand_machine.specs.Made.{made, StepsOn}
use Rattle.strand_machine.specs.Tasks.{view_of}
use Rattle.strand_machine.specs.declared.remaining.Stage.{Stage}
use Rattle.strand_machine.specs.declared.remaining.Stage.TheVariants as stage
use Rattle.strand_machine.specs.declared.remaining.Remaining.TheVariants as remaining
use Rattle.strand_machine.proofs.Moves.Arms.{stage-sound, stage-is, sync-sound, sync-is, loop-sound, loop-is, child_fault-ends, child_fault-is}
use Rattle.strand_machine.proofs.step.run.Goals as goal

pub go-requires : goal.go-requires
go-requires g c = stage-sound c.args.parts.now.state c.args.stage (stage.Running c.in-Running.instance) c.in-Running.is c.requires

pub returns-in-Running-clause-step : goal.returns-in-Running-clause-step
returns-in-Running-clause-step g c =
    subst (λ (x : Stage). IfOk c.go.result (λ passed. StepsOn (view_of c.args.parts.now.state (remaining.Runs x)) (made c.go.new.parts passed))) (sym c.in-Running.is) c.go.ensures.step

pub wait-requires : goal.wait-requires
wait-requires g c = sync-sound c.steps_are_sound.ensures c.args.parts.now.state c.args.stage c.in-AtSync.instance c.in-AtSync.is c.requires

pub returns-in-AtSync-clause-step : goal.returns-in-AtSync-clause-step
returns-in-AtSync-clause-step g c = sync-is c.args.parts.now.state c.args.stage c.in-AtSync.instance _ c.in-AtSync.is c.requires c.wait.ensures.made

pub wait-requires-in-AtLoop : goal.wait-requires-in-AtLoop
wait-requires-in-AtLoop g c = loop-sound c.steps_are_sound.ensures c.args.parts.now.state c.args.stage c.in-AtLoop.instance c.in-AtLoop.is c.requires

pub returns-in-AtLoop-clause-step : goal.returns-in-AtLoop-clause-step
returns-in-AtLoop-clause-step g c = loop-is c.args.parts.now.state c.args.stage c.in-AtLoop.instance _ c.in-AtLoop.is c.requires c.wait-in-AtLoop.ensures.made

pub returned-requires : goal.returned-requires
returned-requires g c = stage-sound c.args.parts.now.state c.args.stage (stage.Returned c.in-Returned.value) c.in-Returned.is c.requires

pub returns-in-Returned-clause-step : goal.returns-in-Returned-clause-step
returns-in-Returned-clause-step g c = stage-is c.args.parts.now.state c.args.stage (stage.Returned c.in-Returned.value) _ c.in-Returned.is c.returned.ensures.step

pub faulted-requires : goal.faulted-requires
faulted-requires g c = stage-sound c.args.parts.now.state c.args.stage (stage.Faulted c.in-Faulted.own) c.in-Faulted.is c.requires

pub returns-in-Faulted-clause-step : goal.returns-in-Faulted-clause-step
returns-in-Faulted-clause-step g c = stage-is c.args.parts.now.state c.args.stage (stage.Faulted c.in-Faulted.own) _ c.in-Faulted.is c.faulted.ensures.step

pub returns-in-ChildFaulted-clause-step : goal.returns-in-ChildFaulted-clause-step
returns-in-ChildFaulted-clause-step g c = child_fault-is c.args.parts.now.state c.args.stage c.in-ChildFaulted.fault _ c.in-ChildFaulted.is c.end.ensures.made

pub end-requires : goal.end-requires
end-requires g c = child_fault-ends c.steps_are_sound.ensures c.args.parts.now.state c.args.stage c.in-ChildFaulted.fault c.in-ChildFaulted.is c.requires
