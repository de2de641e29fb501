-- The strand that was found, and the fault that its instance meets.
use Rattle.std.proofs.Common.{◌≡◌, ℕ, Bool, true, false, List, Option, Some, None, Result, Ok, Err, bytes_eq, refl, sym, ap, ◌∙◌, subst, if◌then◌else◌}
use Rattle.std.proofs.lemmas.Bool.{true≢false}
use Rattle.serial_meaning.specs.Open.{NodeFault, Own, ChildFaulted, node_of, strand_pedigrees}
use Rattle.serial_meaning.specs.Plan.{PlanView}
use Rattle.serial_meaning.specs.declared.event.Event.{Event}
use Rattle.serial_meaning.specs.declared.event.Fault.{Fault}
use Rattle.serial_meaning.specs.declared.origin.Origin.{Origin}
use Rattle.serial_meaning.specs.declared.value.Value.{Value}
use Rattle.strand_meaning.specs.Observation.{own_fault_of}
use Rattle.strand_meaning.specs.Strands.{Strand, is_one_of, own_fault_at, strand_at, events_at, own_events}
use Rattle.strand_machine.specs.Placed.{fault_met}
use Rattle.strand_machine.specs.declared.placed.PlacedFault.{PlacedFault}
use Rattle.serial_runner.specs.FaultWalks.{OriginMeets}
use Rattle.replay.specs.Descents.{seen_from, IsOnWayTo, LeadsDown}
use Rattle.replay.specs.FaultPlaces.{AnswersFaultPlace, has_fault}
use Rattle.replay.specs.declared.descent.Way.TheVariants.{Found}

strand-fault : (b : Bool) (es : List Event) (f : Option Fault) (s : Strand) → (if b then Some (record { events = es; fault = f }) else None) ≡ Some s → s.fault ≡ f
strand-fault true es f s e = let same : record { events = es; fault = f } ≡ s = cc in sym (ap (λ (x : Strand). x.fault) same)
strand-fault false es f s e = absurd (cc)

no-fault : (f : Option Fault) → has_fault f ≡ false → f ≡ None
no-fault None e = refl
no-fault (Some f) e = absurd (true≢false e)

module _ (plan : PlanView) (j : List ℕ) (o : Origin) (on : IsOnWayTo plan j o) (seen : seen_from plan o j ≡ strand_at plan j) (s : Strand) (found : LeadsDown plan o j (Ok (Found s))) where
  pub without_fault : has_fault s.fault ≡ false → AnswersFaultPlace plan j (Ok None)
  without_fault e = (s, sym seen ∙ found.0, no-fault s.fault e)

  module _ (has : has_fault s.fault ≡ true) where
    not-none : s.fault ≡ None → ⊥
    not-none e = true≢false (sym has ∙ ap has_fault e)

    by-met : (met : Option PlacedFault) → OriginMeets plan o met → (f : Fault) → s.fault ≡ Some f → Some f ≡ fault_met met → AnswersFaultPlace plan j (Ok met)
    by-met None m f e h = absurd (cc)
    by-met (Some p) m f e h = record { strand = s; found = sym seen ∙ found.0; faulted = e ∙ h; instance = o; known = on.known; own = found.1; meets = m }

    if-there : (met : Option PlacedFault) → OriginMeets plan o met → (b : Bool) (f : Fault) → s.fault ≡ (if b then Some f else None) → Some f ≡ fault_met met → AnswersFaultPlace plan j (Ok met)
    if-there met m true f e h = by-met met m f e h
    if-there met m false f e h = absurd (not-none e)

    by-ending : (met : Option PlacedFault) → OriginMeets plan o met → (ending : Result (List Value) NodeFault) → s.fault ≡ own_fault_at j ending → own_fault_of ending ≡ fault_met met → AnswersFaultPlace plan j (Ok met)
    by-ending met m (Ok vs) e h = absurd (not-none e)
    by-ending met m (Err (Own f)) e h = if-there met m (bytes_eq f.at j) f e h
    by-ending met m (Err (ChildFaulted f)) e h = absurd (not-none e)

    pub with_fault : (met : Option PlacedFault) → OriginMeets plan o met → own_fault_of (node_of plan o).ending ≡ fault_met met → AnswersFaultPlace plan j (Ok met)
    with_fault met m h =
        by-ending met m (node_of plan o).ending
        (strand-fault (is_one_of j (strand_pedigrees o (node_of plan o))) (events_at j (own_events (node_of plan o).items)) (own_fault_at j (node_of plan o).ending) s found.1) h
