-- What is observed of a task shows the fault that it meets.
use Rattle.std.proofs.Common.{◌≡◌, ℕ, List, Option, Some, None, Result, Ok, Err, refl, sym, ap, ◌∙◌}
use Rattle.serial_meaning.specs.Eval.{path_of}
use Rattle.serial_meaning.specs.Open.{Own, ChildFaulted}
use Rattle.serial_meaning.specs.Plan.{PlanView}
use Rattle.serial_meaning.specs.declared.event.Fault.{Fault}
use Rattle.strand_meaning.specs.Machine.{Reached, move}
use Rattle.strand_meaning.specs.Observation as seen
use Rattle.strand_meaning.specs.Observation.{Observation, Shows, also, newest, move_fault, stage_observation, remaining_observation, step_observation}
use Rattle.strand_meaning.specs.Task as tasks
use Rattle.strand_meaning.specs.Task.{Stage, Running, AtSync, AtLoop, Ended, Remaining, Splits, Runs, Finished, Task, own_instance, Stop, IsNext}
use Rattle.strand_moves.specs.Standing.{place_of}
use Rattle.strand_moves.specs.declared.place.Place.{Place}
use Rattle.strand_machine.specs.Placed as placed
use Rattle.strand_machine.specs.Placed.{Meets, fault_met, fault_there, latest, remaining_meets, stage_meets, step_meets}
use Rattle.strand_machine.specs.declared.placed.PlacedFault.{PlacedFault}

there-is : (place : Place) (r : Result Reached Fault) → move_fault r ≡ fault_met (fault_there place r)
there-is place (Ok reached) = refl
there-is place (Err f) = refl

stage-is : (plan : PlanView) (path : List ℕ) (stage : Stage) → (stage_observation plan path stage).fault ≡ fault_met (stage_meets plan path stage)
stage-is plan path (Running m) = there-is (place_of plan m) (move plan path m).ending
stage-is plan path (AtSync m) = refl
stage-is plan path (AtLoop m) = refl
stage-is plan path (Ended (Ok v)) = refl
stage-is plan path (Ended (Err (Own f))) = refl
stage-is plan path (Ended (Err (ChildFaulted f))) = refl

remaining-is : (plan : PlanView) (path : List ℕ) (remaining : Remaining) → (remaining_observation plan path remaining).fault ≡ fault_met (remaining_meets plan path remaining)
remaining-is plan path (Splits left) = refl
remaining-is plan path (Runs stage) = stage-is plan path stage
remaining-is plan path (Finished v has_waited) = refl

step-is : (t : Task) → (step_observation t).fault ≡ fault_met (step_meets t)
step-is t = remaining-is t.plan (path_of (own_instance t.origin)) t.remaining

pub newest-met : (a b : Option PlacedFault) → newest (fault_met a) (fault_met b) ≡ fault_met (latest a b)
newest-met a None = refl
newest-met a (Some f) = refl

both-newest : (a b c d : Option Fault) → a ≡ c → b ≡ d → newest a b ≡ newest c d
both-newest a b c d e h = ap (λ (f : Option Fault). newest f b) e ∙ ap (newest c) h

-- what is observed of a task that meets a fault on its way
pub shows-met : (t : Task) (met : Option PlacedFault) (stop : Stop) → Meets t met stop → (seen : Observation) × Shows t seen stop × (seen.fault ≡ fault_met met)
shows-met t met stop (placed.Now h e) = (step_observation t, seen.Now h refl, step-is t ∙ ap fault_met (sym e))
shows-met t met stop (placed.Later next later h m e) =
    let s = shows-met next later stop m in
    (also (step_observation t) s.0, seen.Later next s.0 h s.1 refl, both-newest _ _ _ _ (step-is t) s.2 ∙ newest-met (step_meets t) later ∙ ap fault_met (sym e))

pub is-next : (t : Task) (met : Option PlacedFault) (stop : Stop) → Meets t met stop → IsNext t stop
is-next t met stop (placed.Now h e) = tasks.Now h
is-next t met stop (placed.Later next later h m e) = tasks.Later next h (is-next next later stop m)
