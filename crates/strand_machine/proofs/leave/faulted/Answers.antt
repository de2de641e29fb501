use Rattle.std.proofs.Common.{sym, ◌∙◌}
use Rattle.std.proofs.lemmas.Bool.{true≢false}
use Rattle.serial_meaning.specs.declared.answer.Outcome.TheVariants as outcome
use Rattle.strand_machine.specs.declared.remaining.Stage.TheVariants as stage
use Rattle.strand_machine.specs.declared.remaining.Remaining.TheVariants as remaining
use Rattle.strand_machine.proofs.Moves.Dispatch.{end-answers, end-is, wait-sound, wait-is, fault-alone, fault-after}
use Rattle.strand_machine.proofs.leave.faulted.Goals as goal

pub returns-then-awaits_none-clause-step : goal.returns-then-awaits_none-clause-step
returns-then-awaits_none-clause-step g c =
    let b = c.args.parts.now.state in
    let f = c.args.fault in
    end-is b (remaining.Runs (stage.Faulted f)) (outcome.Fault f) _ (fault-alone b f (c.awaits_none.ensures.0 c.if-awaits_none.true)) c.end.ensures.made

pub end-requires : goal.end-requires
end-requires g c =
    let b = c.args.parts.now.state in
    let f = c.args.fault in
    end-answers c.steps_are_sound.ensures b (remaining.Runs (stage.Faulted f)) (outcome.Fault f) c.requires (fault-alone b f (c.awaits_none.ensures.0 c.if-awaits_none.true))

pub wait-requires : goal.wait-requires
wait-requires g c =
    let b = c.args.parts.now.state in
    let f = c.args.fault in
    wait-sound c.steps_are_sound.ensures b (remaining.Runs (stage.Faulted f)) (remaining.Runs (stage.Faulted f)) c.requires
    (fault-after b f (λ none. true≢false (sym (c.awaits_none.ensures.1 none) ∙ c.if-awaits_none.false))) tt

pub returns-clause-step : goal.returns-clause-step
returns-clause-step g c =
    let b = c.args.parts.now.state in
    let f = c.args.fault in
    wait-is b (remaining.Runs (stage.Faulted f)) (remaining.Runs (stage.Faulted f)) _ tt
    (fault-after b f (λ none. true≢false (sym (c.awaits_none.ensures.1 none) ∙ c.if-awaits_none.false))) c.wait.ensures.made
