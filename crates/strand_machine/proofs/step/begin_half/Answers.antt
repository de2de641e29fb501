use Rattle.std.proofs.Common.{◌≡◌, IfOk, sym, ap, subst, ◌∙◌}
use Rattle.serial_meaning.specs.Laws.{IsOriginOf}
use Rattle.serial_meaning.specs.declared.origin.Origin.{Origin}
use Rattle.strand_family.specs.Origins.{loop_part}
use Rattle.strand_moves.specs.Moves.{IsTrailOf}
use Rattle.strand_machine.specs.Made.{IsSpawn, made}
use Rattle.strand_machine.specs.Tasks.{IsSound, with_child}
use Rattle.strand_machine.specs.declared.destination.Destination.TheVariants as destination
use Rattle.strand_machine.proofs.step.begin_half.Goals as goal

pub spawn_in_place-requires-clause-known : goal.spawn_in_place-requires-clause-known
spawn_in_place-requires-clause-known g c =
    let b = c.args.parts.now.state in
    let part : c.in_ok-origin.origin ≡ loop_part b.links.origin c.args.range = c.in_ok-origin.ensures ∙ ap (λ (o : Origin). loop_part o c.args.range) c.origin.ensures in
    subst (IsOriginOf b.links.plan) (sym part) c.requires.known

pub spawn_in_place-requires-clause-trail : goal.spawn_in_place-requires-clause-trail
spawn_in_place-requires-clause-trail g c =
    let b = c.args.parts.now.state in
    let part : c.in_ok-origin.origin ≡ loop_part b.links.origin c.args.range = c.in_ok-origin.ensures ∙ ap (λ (o : Origin). loop_part o c.args.range) c.origin.ensures in
    subst (λ (o : Origin). IsTrailOf b.links.plan o c.args.trail) (sym part) c.requires.trail

pub spawn_in_place-requires-clause-sound : goal.spawn_in_place-requires-clause-sound
spawn_in_place-requires-clause-sound g c =
    let b = c.args.parts.now.state in
    let part : c.in_ok-origin.origin ≡ loop_part b.links.origin c.args.range = c.in_ok-origin.ensures ∙ ap (λ (o : Origin). loop_part o c.args.range) c.origin.ensures in
    subst (λ (o : Origin). IsSound (with_child b o destination.Half) c.args.parts.now.remaining) (sym part) c.requires.sound

pub returns-clause-made : goal.returns-clause-made
returns-clause-made g c =
    let b = c.args.parts.now.state in
    let part : c.in_ok-origin.origin ≡ loop_part b.links.origin c.args.range = c.in_ok-origin.ensures ∙ ap (λ (o : Origin). loop_part o c.args.range) c.origin.ensures in
    subst (λ (o : Origin). IfOk c.spawn_in_place.result (λ passed. IsSpawn b o destination.Half c.args.parts.now.remaining (made c.spawn_in_place.new.parts passed))) part c.spawn_in_place.ensures.made
