use Rattle.std.proofs.Common.{false, sym, ◌∙◌}
use Rattle.serial_meaning.specs.declared.answer.Outcome.TheVariants as outcome
use Rattle.strand_machine.specs.declared.remaining.Stage.TheVariants as stage
use Rattle.strand_machine.specs.declared.remaining.Remaining.TheVariants as remaining
use Rattle.strand_machine.proofs.Moves.Dispatch.{end-answers, end-is, pass-sound, pass-is, give-instance, give-loop}
use Rattle.strand_machine.proofs.leave.returned.Goals as goal

pub returns-in-Instance-clause-step : goal.returns-in-Instance-clause-step
returns-in-Instance-clause-step g c =
    let b = c.args.parts.now.state in
    let v = c.args.value in
    end-is b (remaining.Runs (stage.Returned v)) (outcome.Value v) _ (give-instance b v _ _ _ (sym c.origin.ensures ∙ c.in-Instance.is)) c.end.ensures.made

pub end-requires : goal.end-requires
end-requires g c =
    let b = c.args.parts.now.state in
    let v = c.args.value in
    end-answers c.steps_are_sound.ensures b (remaining.Runs (stage.Returned v)) (outcome.Value v) c.requires (give-instance b v _ _ _ (sym c.origin.ensures ∙ c.in-Instance.is))

pub pass-requires : goal.pass-requires
pass-requires g c =
    let b = c.args.parts.now.state in
    let v = c.args.value in
    pass-sound c.steps_are_sound.ensures b (remaining.Runs (stage.Returned v)) (remaining.Finished v false) c.requires (give-loop b v _ _ _ _ _ (sym c.origin.ensures ∙ c.in-Loop.is)) tt

pub returns-in-Loop-clause-step : goal.returns-in-Loop-clause-step
returns-in-Loop-clause-step g c =
    let b = c.args.parts.now.state in
    let v = c.args.value in
    pass-is b (remaining.Runs (stage.Returned v)) (remaining.Finished v false) _ tt (give-loop b v _ _ _ _ _ (sym c.origin.ensures ∙ c.in-Loop.is)) c.pass.ensures.made
