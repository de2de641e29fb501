-- The fault that an instance meets is the one by which its node ends.
use Rattle.std.proofs.Common.{◌≡◌, Option, Some, None, refl, sym, ap, ◌∙◌, subst}
use Rattle.serial_meaning.specs.Open.{node_of}
use Rattle.serial_meaning.specs.Plan.{PlanView}
use Rattle.serial_meaning.specs.declared.event.Fault.{Fault}
use Rattle.serial_meaning.specs.declared.origin.Origin.{Origin}
use Rattle.strand_meaning.specs.Laws.{KeepsOrigin, IsSoundStop, ObservationBegins, ObservationGoesOn, AnswersShowNothing}
use Rattle.strand_meaning.specs.Observation.{Observation, IsInstanceOrigin, IsOnWay, IsAllObserved, also, newest, no_observation, own_fault_of}
use Rattle.strand_meaning.specs.Sound.{IsTask}
use Rattle.strand_meaning.specs.Task.{Task, start, Spawn, Wait, End}
use Rattle.strand_meaning.proofs.TakenAnswers.AnswersKeepTasks.{answers_keep_tasks}
use Rattle.strand_meaning.proofs.NextStops.OneSoundStop.{stops_are_sound, stops_keep_origins}
use Rattle.strand_machine.specs.Placed.{fault_met}
use Rattle.strand_machine.specs.declared.placed.PlacedFault.{PlacedFault}
use Rattle.strand_machine.proofs.MeetsShown.{is-next, newest-met, shows-met}
use Rattle.serial_runner.specs.FaultWalks.{MeetsToEnd, AtEnd, AfterSpawn, AfterWait, OriginMeets}

newest-after : (a b c : Option Fault) → newest (newest a b) c ≡ newest a (newest b c)
newest-after a b None = refl
newest-after a b (Some f) = refl

newest-of-none : (f : Option Fault) → newest None f ≡ f
newest-of-none None = refl
newest-of-none (Some f) = refl

abbrev own_fault : PlanView → Origin → Option Fault
own_fault plan o = own_fault_of (node_of plan o).ending

module _ (go : ObservationGoesOn) (nothing : AnswersShowNothing) where
  -- with what was observed before
  ends-so : (t : Task) (met : Option PlacedFault) → MeetsToEnd t met → (before : Observation) → IsTask t → IsInstanceOrigin t.origin → IsOnWay before t → own_fault t.plan t.origin ≡ newest before.fault (fault_met met)
  ends-so t met (AtEnd out ended m) before is instance way =
      let s = shows-met t met (End out ended) m in
      let whole : IsAllObserved t.plan t.origin (also before s.0) = go t before s.0 (End out ended) is instance way s.1 in
      whole.fault ∙ ap (newest before.fault) s.2
  ends-so t met (AfterSpawn child rest here later m k e) before is instance way =
      let s = shows-met t here (Spawn child rest) m in
      let kept : KeepsOrigin t (Spawn child rest) = stops_keep_origins t (Spawn child rest) (is-next t here (Spawn child rest) m) in
      let sound : IsSoundStop t (Spawn child rest) = stops_are_sound t (Spawn child rest) is (is-next t here (Spawn child rest) m) in
      let next : IsOnWay (also before s.0) rest = go t before s.0 (Spawn child rest) is instance way s.1 in
      let after = ends-so rest later k (also before s.0) sound.1 (subst IsInstanceOrigin (sym kept.1) instance) next in
      ap (λ (p : PlanView). own_fault p t.origin) (sym kept.0)
      ∙ ap (λ (d : Origin). own_fault rest.plan d) (sym kept.1)
      ∙ after
      ∙ newest-after before.fault s.0.fault (fault_met later)
      ∙ ap (newest before.fault) (ap (λ (f : Option Fault). newest f (fault_met later)) s.2 ∙ newest-met here later ∙ ap fault_met (sym e))
  ends-so t met (AfterWait rest here later m k e) before is instance way =
      let s = shows-met t here (Wait rest) m in
      let kept : KeepsOrigin t (Wait rest) = stops_keep_origins t (Wait rest) (is-next t here (Wait rest) m) in
      let sound : IsSoundStop t (Wait rest) = stops_are_sound t (Wait rest) is (is-next t here (Wait rest) m) in
      let waits : IsOnWay (also before s.0) rest = go t before s.0 (Wait rest) is instance way s.1 in
      let of_instance : IsInstanceOrigin rest.origin = subst IsInstanceOrigin (sym kept.1) instance in
      let after = ends-so _ later k (also before s.0) (answers_keep_tasks rest sound) of_instance (nothing rest (also before s.0) sound of_instance waits) in
      ap (λ (p : PlanView). own_fault p t.origin) (sym kept.0)
      ∙ ap (λ (d : Origin). own_fault rest.plan d) (sym kept.1)
      ∙ after
      ∙ newest-after before.fault s.0.fault (fault_met later)
      ∙ ap (newest before.fault) (ap (λ (f : Option Fault). newest f (fault_met later)) s.2 ∙ newest-met here later ∙ ap fault_met (sym e))

  pub ends_by_what_it_met : ObservationBegins → (plan : PlanView) (o : Origin) → IsInstanceOrigin o → IsTask (start plan o) → (met : Option PlacedFault) → OriginMeets plan o met → own_fault plan o ≡ fault_met met
  ends_by_what_it_met begin plan o instance is met m = ends-so (start plan o) met m no_observation is instance (begin plan o instance) ∙ newest-of-none (fault_met met)
