-- Where an instance stood when it met a fault of its own.
use Rattle.std.specs.Prelude.{◌≡◌, ℕ, List, Option, Some, None, Result, Ok, Err}
use Rattle.serial_meaning.specs.Plan.{PlanView}
use Rattle.serial_meaning.specs.Eval.{path_of}
use Rattle.serial_meaning.specs.declared.event.Fault.{Fault}
use Rattle.strand_meaning.specs.Machine.{Reached, move}
use Rattle.strand_meaning.specs.Task.{Stage, Running, AtSync, AtLoop, Ended, Remaining, Splits, Runs, Finished, Task, own_instance, Passes, Stops, Stop, step}
use Rattle.strand_moves.specs.Standing.{place_of}
use Rattle.strand_moves.specs.declared.place.Place.{Place}
use Rattle.strand_moves.specs.declared.effects.MoveResult.{MoveResult}
use Rattle.strand_moves.specs.declared.effects.MoveResult.TheVariants as move_result
use Rattle.strand_machine.specs.Stops.{IsStop, stop_of}
use Rattle.strand_machine.specs.Tasks.{TaskView}
use Rattle.strand_machine.specs.declared.placed.PlacedFault.{PlacedFault}
use Rattle.strand_machine.specs.declared.placed.PlacedStop.{PlacedStop}

-- the fault by which a move ended, with where the instance stood before it
abbrev pub fault_there : Place → Result Reached Fault → Option PlacedFault
fault_there place (Ok reached) = None
fault_there place (Err f) = Some (record { fault = f; place = place })

abbrev pub stage_meets : PlanView → List ℕ → Stage → Option PlacedFault
stage_meets plan path (Running m) = fault_there (place_of plan m) (move plan path m).ending
stage_meets plan path (AtSync m) = None
stage_meets plan path (AtLoop m) = None
stage_meets plan path (Ended e) = None

abbrev pub remaining_meets : PlanView → List ℕ → Remaining → Option PlacedFault
remaining_meets plan path (Splits left) = None
remaining_meets plan path (Runs stage) = stage_meets plan path stage
remaining_meets plan path (Finished v has_waited) = None

-- the fault of its instance's own that a task meets by its next move
abbrev pub step_meets : Task → Option PlacedFault
step_meets t = remaining_meets t.plan (path_of (own_instance t.origin)) t.remaining

-- the later one, if there is one
abbrev pub latest : Option PlacedFault → Option PlacedFault → Option PlacedFault
latest old None = old
latest old (Some f) = Some f

abbrev pub fault_met : Option PlacedFault → Option Fault
fault_met None = None
fault_met (Some met) = Some met.fault

-- the stop that a task comes to, at once or after moves, with the fault that it meets on the way
pub data Meets : Task → Option PlacedFault → Stop → Type 0 where
  Now : {t : Task} {met : Option PlacedFault} {stop : Stop} → step t ≡ Stops stop → met ≡ step_meets t → Meets t met stop
  Later : {t : Task} {met : Option PlacedFault} {stop : Stop} (next : Task) (later : Option PlacedFault) → step t ≡ Passes next → Meets next later stop → met ≡ latest (step_meets t) later → Meets t met stop

-- The next stop of a task, with the fault that it meets on the way.
pub record IsPlaced (t : TaskView) (n : PlacedStop) : Type 0 where
  pub stop : IsStop t n.stop
  pub meets : Meets t.task n.met (stop_of n.stop)

-- the fault that a move meets, of an instance that stood there
abbrev pub result_meets : Place → MoveResult → Option PlacedFault
result_meets place (move_result.Moved s) = None
result_meets place (move_result.Returned v) = None
result_meets place (move_result.Faulted f) = Some (record { fault = f; place = place })
