use Rattle.std.proofs.Common.{IfSome, refl, subst}
use Rattle.std.specs.Arc.{arc_value}
use Rattle.serial_meaning.specs.Plan.{PlanView}
use Rattle.replay.specs.FaultPlaces.{FaultsAt}
use Rattle.engine.specs.FaultPlaces.{IsPlaceIn}
use Rattle.engine.proofs.Places.{under_settings}
use Rattle.engine.proofs.place.place_under.Goals as goal

pub returns-in-Ok-Some : goal.returns-in-Ok-Some
returns-in-Ok-Some c =
    let met = c.in-Ok-Some.met in
    let plan = arc_value c.in-Ok.plan in
    let faults : FaultsAt plan c.args.at.now met.place.function met.place.at = record { met = met; is = rw c.in-Ok-Some.field-0-is at c.in-Ok-Some.ensures; in_function = refl; there = refl } in
    under_settings c.args.settings c.args.at.now c.args.bytes.now plan met.place.function met.place.at c.in-Ok.ensures.plan faults c.place_in.result
    (subst (λ (p : PlanView). IfSome c.place_in.result (IsPlaceIn p met.place.function met.place.at)) c.deref.ensures c.place_in.ensures)
