use Rattle.std.proofs.Common.{false, refl, sym, ◌∙◌}
use Rattle.serial_meaning.specs.declared.answer.Outcome.TheVariants as outcome
use Rattle.strand_machine.specs.Made.{IsRun}
use Rattle.strand_machine.specs.Stops.{IsStep}
use Rattle.strand_machine.specs.Tasks.{gone, view_of}
use Rattle.strand_machine.specs.declared.remaining.Stage.TheVariants as stage
use Rattle.strand_machine.specs.declared.remaining.Remaining.TheVariants as remaining
use Rattle.strand_machine.proofs.NextStops.Advancing.{one-step}
use Rattle.strand_machine.proofs.Moves.Dispatch.{end-answers, end-is, pass-sound, give-instance, give-loop}
use Rattle.strand_machine.proofs.Moves.Making.{made-ok}
use Rattle.strand_machine.proofs.Moves.Moving.{pass-run}
use Rattle.strand_machine.proofs.run.end_by_value.Goals as goal

pub returns-in-Instance-clause-step : goal.returns-in-Instance-clause-step
returns-in-Instance-clause-step g c =
    let b = c.args.parts.now.state in
    let v = c.args.value in
    one-step (view_of b (remaining.Runs (stage.Returned v))) _ refl
    (end-is b (remaining.Runs (stage.Returned v)) (outcome.Value v) _ (give-instance b v _ _ _ (sym c.origin.ensures ∙ c.in-Instance.is)) c.end.ensures.made)

pub end-requires : goal.end-requires
end-requires g c =
    let b = c.args.parts.now.state in
    let v = c.args.value in
    end-answers c.steps_are_sound.ensures b (remaining.Runs (stage.Returned v)) (outcome.Value v) c.requires (give-instance b v _ _ _ (sym c.origin.ensures ∙ c.in-Instance.is))

pub end_loop-requires : goal.end_loop-requires
end_loop-requires g c =
    let b = c.args.parts.now.state in
    let v = c.args.value in
    pass-sound c.steps_are_sound.ensures b (remaining.Runs (stage.Returned v)) (remaining.Finished v false) c.requires (give-loop b v _ _ _ _ _ (sym c.origin.ensures ∙ c.in-Loop.is)) tt

pub returns-in-Loop-clause-step : goal.returns-in-Loop-clause-step
returns-in-Loop-clause-step g c =
    let b = c.args.parts.now.state in
    let v = c.args.value in
    let gave = remaining.Runs (stage.Returned v) in
    let over = remaining.Finished v false in
    made-ok c.end_loop.new.parts c.end_loop.result (IsStep (view_of (gone b) over)) (IsRun (view_of b gave))
    (λ s h. pass-run c.moves_fall.ensures b gave over refl tt (give-loop b v _ _ _ _ _ (sym c.origin.ensures ∙ c.in-Loop.is)) s (one-step (view_of (gone b) over) s refl h))
    c.end_loop.ensures.step
