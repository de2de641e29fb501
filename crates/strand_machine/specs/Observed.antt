-- What a call of `advance_observed` gives.
use Rattle.std.specs.Prelude.{◌≡◌, ℕ, List, [], ◌++◌, Some, None}
use Rattle.strand_meaning.specs.Observation as meaning
use Rattle.strand_meaning.specs.Observation.{Shows, effect_items, newest, no_observation}
use Rattle.strand_meaning.specs.Strands.{own_events, events_at}
use Rattle.strand_moves.specs.Moves.{effects_of}
use Rattle.strand_moves.specs.declared.effects.MoveResult.{MoveResult}
use Rattle.strand_moves.specs.declared.effects.MoveResult.TheVariants as move_result
use Rattle.strand_machine.specs.Probes.{probe_after}
use Rattle.strand_machine.specs.Stops.{IsStop, stop_of}
use Rattle.strand_machine.specs.Tasks.{TaskView}
use Rattle.strand_machine.specs.declared.probe.StrandProbe.{StrandProbe}
use Rattle.strand_machine.specs.declared.observe.ObservedStop.{ObservedStop}
use Rattle.strand_machine.specs.declared.observe.Observed.{Observed}

-- The next stop of a task, and what is observed of this pedigree on the way to it, with what the probe had seen before.
pub record IsObserved (t : TaskView) (j : List ℕ) (before : StrandProbe) (n : ObservedStop) : Type 0 where
  pub stop : IsStop t n.stop
  pub observation : meaning.Observation
  pub shows : Shows t.task observation (stop_of n.stop)
  pub probe : n.probe ≡ probe_after j before observation.items
  pub events : n.events ≡ events_at j (own_events observation.items)
  pub fault : n.fault ≡ observation.fault
  pub child_fault : n.child_fault ≡ observation.child_fault

-- what was observed so far, and what a step shows of this pedigree
abbrev pub with_step : List ℕ → meaning.Observation → Observed → Observed
with_step j step observation = record {
  probe = probe_after j observation.probe step.items;
  events = observation.events ++ events_at j (own_events step.items);
  fault = newest observation.fault step.fault;
  child_fault = newest observation.child_fault step.child_fault;
}

-- what a move of an instance shows
abbrev pub result_observation : MoveResult → meaning.Observation
result_observation (move_result.Moved s) = record { items = effect_items (effects_of s); fault = None; child_fault = None }
result_observation (move_result.Returned v) = no_observation
result_observation (move_result.Faulted f) = record { items = []; fault = Some f; child_fault = None }
