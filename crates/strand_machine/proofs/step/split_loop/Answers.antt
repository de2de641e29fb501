use Rattle.std.proofs.Common.{◌≡◌, ◌-◌, sym, ap, ◌∙◌}
use Rattle.serial_meaning.specs.declared.origin.Origin.{Origin}
use Rattle.serial_meaning.specs.declared.answer.Outcome.TheVariants as outcome
use Rattle.strand_family.specs.Origins.{loop_part}
use Rattle.strand_machine.specs.Made.{IsSpawn}
use Rattle.strand_machine.specs.Stops.{IsStep}
use Rattle.strand_machine.specs.Tasks.{view_of}
use Rattle.strand_machine.specs.declared.destination.Destination.TheVariants as destination
use Rattle.strand_machine.specs.declared.remaining.Left.{Left}
use Rattle.strand_machine.specs.declared.remaining.Remaining.TheVariants as remaining
use Rattle.strand_machine.proofs.Moves.Dispatch.{end-answers, end-is, part-trail, pass-sound, pass-is, spawn-sound, spawn-is, split-many, split-none, split-one}
use Rattle.strand_machine.proofs.Moves.Making.{made-ok}
use Rattle.strand_machine.proofs.Moves.Halves.{many, halves, only-one}
use Rattle.strand_machine.proofs.step.split_loop.Goals as goal

pub spawn-requires-clause-known : goal.spawn-requires-clause-known
spawn-requires-clause-known g c =
    let b = c.args.parts.now.state in
    let l = c.args.left in
    let p = c.in-Some.halves in
    let upper : Left = record { range = p.1; trail = l.trail } in
    let parts = halves l.range c.split.result p c.in-Some.is c.split.ensures.halves in
    let two = many (l.range.hi - l.range.lo) c.split.result p c.in-Some.is c.split.ensures.too_few in
    let child : c.in_ok-origin.origin ≡ loop_part b.links.origin p.0 = c.in_ok-origin.ensures ∙ ap (λ (o : Origin). loop_part o p.0) c.origin.ensures in
    (spawn-sound c.steps_are_sound.ensures b (remaining.Splits l) (remaining.Splits upper) c.in_ok-origin.origin destination.Half c.requires
    (split-many b l upper p.0 c.in_ok-origin.origin two parts.0 parts.1 child) c.requires.of_plan).0

pub spawn-requires-clause-trail : goal.spawn-requires-clause-trail
spawn-requires-clause-trail g c =
    let b = c.args.parts.now.state in
    let p = c.in-Some.halves in
    let child : c.in_ok-origin.origin ≡ loop_part b.links.origin p.0 = c.in_ok-origin.ensures ∙ ap (λ (o : Origin). loop_part o p.0) c.origin.ensures in
    part-trail b.links.plan b.links.origin c.in_ok-origin.origin p.0 c.args.left.trail c.in_ok-shared.shared child c.in_ok-shared.ensures c.requires.of_plan

pub spawn-requires-clause-sound : goal.spawn-requires-clause-sound
spawn-requires-clause-sound g c =
    let b = c.args.parts.now.state in
    let l = c.args.left in
    let p = c.in-Some.halves in
    let upper : Left = record { range = p.1; trail = l.trail } in
    let parts = halves l.range c.split.result p c.in-Some.is c.split.ensures.halves in
    let two = many (l.range.hi - l.range.lo) c.split.result p c.in-Some.is c.split.ensures.too_few in
    let child : c.in_ok-origin.origin ≡ loop_part b.links.origin p.0 = c.in_ok-origin.ensures ∙ ap (λ (o : Origin). loop_part o p.0) c.origin.ensures in
    (spawn-sound c.steps_are_sound.ensures b (remaining.Splits l) (remaining.Splits upper) c.in_ok-origin.origin destination.Half c.requires
    (split-many b l upper p.0 c.in_ok-origin.origin two parts.0 parts.1 child) c.requires.of_plan).1

pub returns-in-Some-clause-step : goal.returns-in-Some-clause-step
returns-in-Some-clause-step g c =
    let b = c.args.parts.now.state in
    let l = c.args.left in
    let p = c.in-Some.halves in
    let upper : Left = record { range = p.1; trail = l.trail } in
    let parts = halves l.range c.split.result p c.in-Some.is c.split.ensures.halves in
    let two = many (l.range.hi - l.range.lo) c.split.result p c.in-Some.is c.split.ensures.too_few in
    let child : c.in_ok-origin.origin ≡ loop_part b.links.origin p.0 = c.in_ok-origin.ensures ∙ ap (λ (o : Origin). loop_part o p.0) c.origin.ensures in
    made-ok c.spawn.new.parts c.spawn.result
    (IsSpawn b c.in_ok-origin.origin destination.Half (remaining.Splits upper)) (IsStep (view_of b (remaining.Splits l)))
    (λ s h. spawn-is b (remaining.Splits l) (remaining.Splits upper) c.in_ok-origin.origin destination.Half s c.requires.of_plan (split-many b l upper p.0 c.in_ok-origin.origin two parts.0 parts.1 child) h)
    c.spawn.ensures.made

pub returns-then-len-eq0-clause-step : goal.returns-then-len-eq0-clause-step
returns-then-len-eq0-clause-step g c =
    let b = c.args.parts.now.state in
    let l = c.args.left in
    end-is b (remaining.Splits l) (outcome.Values b.values) _ (split-none b l (sym c.len.ensures.count ∙ c.if-len-eq0.true)) (rw (c.take_values-values.ensures.rest, c.take_values-values.ensures.values) at c.end.ensures.made)

pub end-requires : goal.end-requires
end-requires g c =
    let b = c.args.parts.now.state in
    let l = c.args.left in
    rw (c.take_values-values.ensures.rest, c.take_values-values.ensures.values)
    (end-answers c.steps_are_sound.ensures b (remaining.Splits l) (outcome.Values b.values) c.requires (split-none b l (sym c.len.ensures.count ∙ c.if-len-eq0.true)))

pub pass-requires : goal.pass-requires
pass-requires g c =
    let b = c.args.parts.now.state in
    let l = c.args.left in
    let one = only-one (l.range.hi - l.range.lo) c.split.result c.in_default.is c.split.ensures.too_few (λ z. c.if-len-eq0.false (c.len.ensures.count ∙ z)) in
    pass-sound c.steps_are_sound.ensures b (remaining.Splits l) c.in_ok-remaining.remaining c.requires
    (split-one b l c.in_ok-remaining.remaining one (rw (c.plan.ensures, c.origin-2.ensures) at c.in_ok-remaining.ensures.begun)) (rw (c.plan.ensures, c.origin-2.ensures) at c.in_ok-remaining.ensures.of_plan)

pub returns-clause-step : goal.returns-clause-step
returns-clause-step g c =
    let b = c.args.parts.now.state in
    let l = c.args.left in
    let one = only-one (l.range.hi - l.range.lo) c.split.result c.in_default.is c.split.ensures.too_few (λ z. c.if-len-eq0.false (c.len.ensures.count ∙ z)) in
    pass-is b (remaining.Splits l) c.in_ok-remaining.remaining _ (rw (c.plan.ensures, c.origin-2.ensures) at c.in_ok-remaining.ensures.of_plan) (split-one b l c.in_ok-remaining.remaining one (rw (c.plan.ensures, c.origin-2.ensures) at c.in_ok-remaining.ensures.begun)) c.pass.ensures.made
