use Rattle.std.proofs.Common.{false, [], ◌∷◌, ◌++◌, ◌≡◌, sym, ◌∙◌}
use Rattle.serial_meaning.specs.declared.answer.Outcome.TheVariants as outcome
use Rattle.strand_machine.specs.Made.{ended_move}
use Rattle.strand_machine.specs.Stops.{IsStep}
use Rattle.strand_machine.specs.Tasks.{view_of}
use Rattle.strand_machine.specs.declared.remaining.Remaining.TheVariants as remaining
use Rattle.strand_machine.proofs.Moves.Dispatch.{end-answers, end-is, wait-sound, wait-is, over-on, over-long, over-short}
use Rattle.strand_machine.proofs.Moves.Making.{made-ok}
use Rattle.strand_machine.proofs.step.end_loop.Goals as goal

pub end_loop_with-requires : goal.end_loop_with-requires
end_loop_with-requires g c =
    let b = c.args.parts.now.state in
    let v = c.args.value in
    end-answers c.steps_are_sound.ensures b (remaining.Finished v c.args.has_waited) (outcome.Values (b.values ++ v ∷ [])) c.requires (over-on b v c.args.has_waited c.if-has_waited.true)

pub returns-then-has_waited-clause-step : goal.returns-then-has_waited-clause-step
returns-then-has_waited-clause-step g c =
    let b = c.args.parts.now.state in
    let v = c.args.value in
    let w = remaining.Finished v c.args.has_waited in
    let o = outcome.Values (b.values ++ v ∷ []) in
    made-ok c.end_loop_with.new.parts c.end_loop_with.result (λ s. s ≡ ended_move b o) (IsStep (view_of b w)) (λ s h. end-is b w o s (over-on b v c.args.has_waited c.if-has_waited.true) h) c.end_loop_with.ensures.made

pub wait-requires : goal.wait-requires
wait-requires g c =
    let b = c.args.parts.now.state in
    let v = c.args.value in
    wait-sound c.steps_are_sound.ensures b (remaining.Finished v c.args.has_waited) (remaining.Finished v false) c.requires
    (over-long b v c.args.has_waited c.if-has_waited.false (sym c.is_long.ensures ∙ c.if-is_long.true)) tt

pub returns-then-is_long-clause-step : goal.returns-then-is_long-clause-step
returns-then-is_long-clause-step g c =
    let b = c.args.parts.now.state in
    let v = c.args.value in
    wait-is b (remaining.Finished v c.args.has_waited) (remaining.Finished v false) _ tt (over-long b v c.args.has_waited c.if-has_waited.false (sym c.is_long.ensures ∙ c.if-is_long.true)) c.wait.ensures.made

pub end_loop_with-requires-2 : goal.end_loop_with-requires-2
end_loop_with-requires-2 g c =
    let b = c.args.parts.now.state in
    let v = c.args.value in
    end-answers c.steps_are_sound.ensures b (remaining.Finished v c.args.has_waited) (outcome.Values (b.values ++ v ∷ [])) c.requires (over-short b v c.args.has_waited c.if-has_waited.false (sym c.is_long.ensures ∙ c.if-is_long.false))

pub returns-clause-step : goal.returns-clause-step
returns-clause-step g c =
    let b = c.args.parts.now.state in
    let v = c.args.value in
    let w = remaining.Finished v c.args.has_waited in
    let o = outcome.Values (b.values ++ v ∷ []) in
    made-ok c.end_loop_with-2.new.parts c.end_loop_with-2.result (λ s. s ≡ ended_move b o) (IsStep (view_of b w))
    (λ s h. end-is b w o s (over-short b v c.args.has_waited c.if-has_waited.false (sym c.is_long.ensures ∙ c.if-is_long.false)) h) c.end_loop_with-2.ensures.made
