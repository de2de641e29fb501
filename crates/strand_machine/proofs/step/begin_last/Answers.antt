use Rattle.std.proofs.Common.{◌≡◌, refl, sym, subst}
use Rattle.strand_meaning.specs.Task.{begins_last}
use Rattle.strand_machine.specs.Made.{IsRun}
use Rattle.strand_machine.specs.Tasks.{IsSound, RemainsAt, gone, remaining_of, view_of}
use Rattle.strand_machine.specs.declared.remaining.Remaining.{Remaining}
use Rattle.strand_machine.specs.declared.remaining.Remaining.TheVariants as remaining
use Rattle.strand_machine.specs.declared.remaining.Stage.TheVariants as stage
use Rattle.strand_machine.proofs.NextStops.Advancing.{one-step}
use Rattle.strand_machine.proofs.Moves.Dispatch.{pass-sound, pass-is, split-one}
use Rattle.strand_machine.proofs.Moves.Making.{made-ok}
use Rattle.strand_machine.proofs.Moves.Moving.{pass-run}
use Rattle.strand_machine.proofs.step.begin_last.Goals as goal

pub go-requires : goal.go-requires
go-requires g c =
    let b = c.args.parts.now.state in
    let l = c.args.left in
    let is = c.in-Some.ensures.some in
    let at = subst (RemainsAt b.links.plan b.links.origin) is (rw (c.plan.ensures, c.origin.ensures) at c.in_ok-remaining.ensures.of_plan) in
    let begun = subst (λ (x : Remaining). remaining_of b.links.plan x ≡ begins_last b.links.plan b.links.origin) is (rw (c.plan.ensures, c.origin.ensures) at c.in_ok-remaining.ensures.begun) in
    let next = remaining.Runs (stage.Running c.in-Some.instance) in
    pass-sound c.steps_are_sound.ensures b (remaining.Splits l) next c.requires.sound (split-one b l next c.requires.one begun) at

pub returns-in-Some-clause-step : goal.returns-in-Some-clause-step
returns-in-Some-clause-step g c =
    let b = c.args.parts.now.state in
    let l = c.args.left in
    let is = c.in-Some.ensures.some in
    let at = subst (RemainsAt b.links.plan b.links.origin) is (rw (c.plan.ensures, c.origin.ensures) at c.in_ok-remaining.ensures.of_plan) in
    let begun = subst (λ (x : Remaining). remaining_of b.links.plan x ≡ begins_last b.links.plan b.links.origin) is (rw (c.plan.ensures, c.origin.ensures) at c.in_ok-remaining.ensures.begun) in
    let next = remaining.Runs (stage.Running c.in-Some.instance) in
    made-ok c.go.new.parts c.go.result (IsRun (view_of (gone b) next)) (IsRun (view_of b (remaining.Splits l)))
    (λ s h. pass-run c.moves_fall.ensures b (remaining.Splits l) next refl at (split-one b l next c.requires.one begun) s h)
    c.go.ensures.step

pub pass-requires : goal.pass-requires
pass-requires g c =
    let b = c.args.parts.now.state in
    let l = c.args.left in
    let next = c.in_ok-remaining.remaining in
    subst (IsSound (gone b)) (sym c.in_default.ensures.none)
    (pass-sound c.steps_are_sound.ensures b (remaining.Splits l) next c.requires.sound
    (split-one b l next c.requires.one (rw (c.plan.ensures, c.origin.ensures) at c.in_ok-remaining.ensures.begun)) (rw (c.plan.ensures, c.origin.ensures) at c.in_ok-remaining.ensures.of_plan))

pub returns-clause-step : goal.returns-clause-step
returns-clause-step g c =
    let b = c.args.parts.now.state in
    let l = c.args.left in
    let is = sym c.in_default.ensures.none in
    let at = subst (RemainsAt b.links.plan b.links.origin) is (rw (c.plan.ensures, c.origin.ensures) at c.in_ok-remaining.ensures.of_plan) in
    let begun = subst (λ (x : Remaining). remaining_of b.links.plan x ≡ begins_last b.links.plan b.links.origin) is (rw (c.plan.ensures, c.origin.ensures) at c.in_ok-remaining.ensures.begun) in
    let next = c.take_running.new.self in
    one-step (view_of b (remaining.Splits l)) _ refl (pass-is b (remaining.Splits l) next _ at (split-one b l next c.requires.one begun) c.pass.ensures.made)
