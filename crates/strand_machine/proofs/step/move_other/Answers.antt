use Rattle.std.proofs.Common.{◌≡◌, IfOk, sym, subst, ◌∙◌}
use Rattle.strand_family.specs.Origins.{loop_part}
use Rattle.strand_machine.specs.Made.{IsHalved, IsRun, IsSpawn, made, StepsOn}
use Rattle.strand_machine.specs.Tasks.{view_of}
use Rattle.strand_machine.specs.declared.remaining.Remaining.{Remaining}
use Rattle.strand_machine.specs.declared.destination.Destination.TheVariants as destination
use Rattle.strand_machine.proofs.NextStops.Advancing.{runs}
use Rattle.strand_machine.proofs.Moves.Dispatch.{of_plan-on}
use Rattle.strand_machine.proofs.Moves.Halving.{half-known, half-trail, half-sound, half-runs}
use Rattle.strand_machine.proofs.Moves.Making.{made-ok, sound-at}
use Rattle.strand_machine.proofs.step.move_other.Goals as goal

-- the lower half of a loop's iterations

pub begin_half-requires-clause-known : goal.begin_half-requires-clause-known
begin_half-requires-clause-known g c =
    let p = c.args.parts.now in
    let halved : IsHalved p.remaining c.take_half.new.self c.in-Some.half.0 c.in-Some.half.1 = rw c.in-Some.is at c.in_ok-half.ensures.some in
    half-known p.state p.remaining c.take_half.new.self c.in-Some.half.0 c.in-Some.half.1 halved c.requires c.steps_are_sound.ensures

pub begin_half-requires-clause-trail : goal.begin_half-requires-clause-trail
begin_half-requires-clause-trail g c =
    let p = c.args.parts.now in
    let halved : IsHalved p.remaining c.take_half.new.self c.in-Some.half.0 c.in-Some.half.1 = rw c.in-Some.is at c.in_ok-half.ensures.some in
    half-trail p.state p.remaining c.take_half.new.self c.in-Some.half.0 c.in-Some.half.1 halved c.requires

pub begin_half-requires-clause-sound : goal.begin_half-requires-clause-sound
begin_half-requires-clause-sound g c =
    let p = c.args.parts.now in
    let halved : IsHalved p.remaining c.take_half.new.self c.in-Some.half.0 c.in-Some.half.1 = rw c.in-Some.is at c.in_ok-half.ensures.some in
    half-sound p.state p.remaining c.take_half.new.self c.in-Some.half.0 c.in-Some.half.1 halved c.requires c.steps_are_sound.ensures

pub returns-in-Some-clause-step : goal.returns-in-Some-clause-step
returns-in-Some-clause-step g c =
    let p = c.args.parts.now in
    let halved : IsHalved p.remaining c.take_half.new.self c.in-Some.half.0 c.in-Some.half.1 = rw c.in-Some.is at c.in_ok-half.ensures.some in
    made-ok c.begin_half.new.parts c.begin_half.result
    (IsSpawn p.state (loop_part p.state.links.origin c.in-Some.half.0) destination.Half c.take_half.new.self) (IsRun (view_of p.state p.remaining))
    (half-runs p.state p.remaining c.take_half.new.self c.in-Some.half.0 c.in-Some.half.1 halved c.requires)
    c.begin_half.ensures.made

-- the last iteration of a loop

pub begin_last-requires-clause-sound : goal.begin_last-requires-clause-sound
begin_last-requires-clause-sound g c =
    let p = c.args.parts.now in
    let same : c.take_half.new.self ≡ p.remaining = rw c.in_default.is at c.in_ok-half.ensures.none in
    sound-at p.state p.remaining _ (sym same ∙ c.in-Some-take_last.ensures.some.0) c.requires

pub begin_last-requires-clause-one : goal.begin_last-requires-clause-one
begin_last-requires-clause-one g c = c.in-Some-take_last.ensures.some.1

pub returns-in-Some-take_last-clause-step : goal.returns-in-Some-take_last-clause-step
returns-in-Some-take_last-clause-step g c =
    let p = c.args.parts.now in
    let same : c.take_half.new.self ≡ p.remaining = rw c.in_default.is at c.in_ok-half.ensures.none in
    subst (λ (x : Remaining). IfOk c.begin_last.result (λ passed. IsRun (view_of p.state x) (made c.begin_last.new.parts passed))) (sym c.in-Some-take_last.ensures.some.0 ∙ same) c.begin_last.ensures.step

-- another move

pub pass_with-requires : goal.pass_with-requires
pass_with-requires g c =
    let p = c.args.parts.now in
    let half : c.take_half.new.self ≡ p.remaining = rw c.in_default.is at c.in_ok-half.ensures.none in
    let same : c.take_last.new.self ≡ p.remaining = c.in_default-take_last.ensures.none ∙ half in
    sound-at p.state p.remaining _ (sym (c.replace-remaining.ensures.value ∙ same)) c.requires

pub returns-clause-step : goal.returns-clause-step
returns-clause-step g c =
    let p = c.args.parts.now in
    let half : c.take_half.new.self ≡ p.remaining = rw c.in_default.is at c.in_ok-half.ensures.none in
    let same : c.take_last.new.self ≡ p.remaining = c.in_default-take_last.ensures.none ∙ half in
    let steps = subst (λ (x : Remaining). IfOk c.pass_with.result (λ passed. StepsOn (view_of p.state x) (made c.pass_with.new.parts passed))) (c.replace-remaining.ensures.value ∙ same) c.pass_with.ensures.step in
    made-ok c.pass_with.new.parts c.pass_with.result (StepsOn (view_of p.state p.remaining)) (IsRun (view_of p.state p.remaining))
    (λ s h. runs (view_of p.state p.remaining) s (of_plan-on p.state.links.plan p.state.links.origin p.remaining c.requires.of_plan) h)
    steps
