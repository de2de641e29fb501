use Rattle.std.proofs.Common.{IfOk, sym, subst}
use Rattle.strand_machine.specs.Made.{made, StepsOn}
use Rattle.strand_machine.specs.Tasks.{view_of}
use Rattle.strand_machine.specs.declared.remaining.Remaining.{Remaining}
use Rattle.strand_machine.specs.declared.remaining.Remaining.TheVariants as remaining
use Rattle.strand_machine.proofs.Moves.Making.{sound-at}
use Rattle.strand_machine.proofs.step.pass_with.Goals as goal

pub split_loop-requires : goal.split_loop-requires
split_loop-requires g c = sound-at c.args.parts.now.state c.args.remaining (remaining.Splits c.in-Splits.left) c.in-Splits.is c.requires

pub returns-in-Splits-clause-step : goal.returns-in-Splits-clause-step
returns-in-Splits-clause-step g c =
    subst (λ (x : Remaining). IfOk c.split_loop.result (λ passed. StepsOn (view_of c.args.parts.now.state x) (made c.split_loop.new.parts passed))) (sym c.in-Splits.is) c.split_loop.ensures.step

pub run-requires : goal.run-requires
run-requires g c = sound-at c.args.parts.now.state c.args.remaining (remaining.Runs c.in-Runs.stage) c.in-Runs.is c.requires

pub returns-in-Runs-clause-step : goal.returns-in-Runs-clause-step
returns-in-Runs-clause-step g c =
    subst (λ (x : Remaining). IfOk c.run.result (λ passed. StepsOn (view_of c.args.parts.now.state x) (made c.run.new.parts passed))) (sym c.in-Runs.is) c.run.ensures.step

pub end_loop-requires : goal.end_loop-requires
end_loop-requires g c = sound-at c.args.parts.now.state c.args.remaining (remaining.Finished c.in-Finished.value c.in-Finished.has_waited) c.in-Finished.is c.requires

pub returns-in-Finished-clause-step : goal.returns-in-Finished-clause-step
returns-in-Finished-clause-step g c =
    subst (λ (x : Remaining). IfOk c.end_loop.result (λ passed. StepsOn (view_of c.args.parts.now.state x) (made c.end_loop.new.parts passed))) (sym c.in-Finished.is) c.end_loop.ensures.step

pub unreachable-requires : goal.unreachable-requires
unreachable-requires g c = (sound-at c.args.parts.now.state c.args.remaining (remaining.Ends _) c.in-Ends.is c.requires).of_plan
