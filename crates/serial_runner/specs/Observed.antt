-- What is seen of an instance that runs, with a probe for one pedigree.
use Rattle.std.specs.Prelude.{◌≡◌, ◌<◌, ℕ, Bool, ◌||◌, ◌&&◌, true, false, List, [], ◌∷◌, ◌++◌, Option, Some, None, Contains}
use Rattle.serial_meaning.specs.Eval.{path_of}
use Rattle.serial_meaning.specs.Laws.{IsOriginOf}
use Rattle.serial_meaning.specs.Open.{Child}
use Rattle.serial_meaning.specs.Plan.{PlanView}
use Rattle.serial_meaning.specs.declared.keep.All.{All}
use Rattle.serial_meaning.specs.declared.event.Event.{Event}
use Rattle.serial_meaning.specs.declared.event.Fault.{Fault}
use Rattle.serial_meaning.specs.declared.origin.Origin.{Origin}
use Rattle.strand_meaning.specs.Left.{stops_left}
use Rattle.strand_meaning.specs.Observation.{Observation, newest, IsInstanceOrigin, IsOnWay}
use Rattle.strand_meaning.specs.Sound.{IsTask}
use Rattle.strand_meaning.specs.Strands.{own_events, events_at, child_on_way}
use Rattle.strand_machine.specs.AwaitedChildren.{awaited}
use Rattle.strand_machine.specs.Probes.{new_probe, probe_after}
use Rattle.strand_machine.specs.Observed.{IsObserved}
use Rattle.strand_machine.specs.declared.observe.ObservedStop.{ObservedStop}
use Rattle.strand_machine.specs.declared.stop.Stop.{Stop}
use Rattle.strand_machine.specs.Links.{detached}
use Rattle.strand_machine.specs.Tasks.{fresh}
use Rattle.strand_machine.specs.declared.probe.StrandProbe.{StrandProbe}
use Rattle.serial_runner.specs.Nodes.{is_none, node_seen, node_toward}
use Rattle.serial_runner.specs.declared.observed.ObservedInstance.{ObservedInstance}
use Rattle.serial_runner.specs.declared.walk.NodeWalk.{NodeWalk}
use Rattle.serial_runner.specs.declared.walk.Walked.{Walked}
use Rattle.serial_runner.specs.declared.walk.Walked.TheVariants.{Continues, Ends}

abbrev pub nothing_seen : StrandProbe → ObservedInstance
nothing_seen probe = record { probe = probe; events = []; fault = None; child = None; child_fault = None }

abbrev pub with_observation : StrandProbe → List Event → Option Fault → Option Fault → ObservedInstance → ObservedInstance
with_observation probe events fault child_fault s = record s {
  probe = probe;
  events = s.events ++ events;
  fault = newest s.fault fault;
  child_fault = newest s.child_fault child_fault;
}

abbrev pub first_child : Option Origin → Option Origin → Option Origin
first_child (Some o) later = Some o
first_child None later = later

abbrev pub with_child : List ℕ → Origin → ObservedInstance → ObservedInstance
with_child j o s = record s { child = first_child s.child (child_on_way j (Child o ∷ [])) }

-- what an observation says of a pedigree, of an instance with this path
abbrev pub observed_on : List ℕ → List ℕ → Observation → ObservedInstance
observed_on path j observation = record {
  probe = probe_after j (new_probe path j) observation.items;
  events = events_at j (own_events observation.items);
  fault = observation.fault;
  child = child_on_way j observation.items;
  child_fault = observation.child_fault;
}

-- a walk before its first stop
abbrev pub begun_walk : PlanView → Origin → List ℕ → NodeWalk
begun_walk plan o j = record { task = fresh plan o detached; awaited = []; observed = nothing_seen (new_probe (path_of o) j) }

abbrev pub origin_of : NodeWalk → Origin
origin_of w = w.task.task.origin

abbrev pub AreOriginsOf : PlanView → List Origin → Type 0
AreOriginsOf plan os = (o : Origin) → Contains os o → IsOriginOf plan o

-- An instance of the plan that runs, the children whose answers it awaits, and all that is to be seen of it.
pub record IsWalk (plan : PlanView) (o : Origin) (j : List ℕ) (w : NodeWalk) : Type 0 where
  pub instance : IsInstanceOrigin o
  pub task : IsTask w.task.task
  pub idle : w.task.task.waiting ≡ false
  pub goes_on : w.task.cut ≡ None
  pub plan_is : w.task.task.plan ≡ plan
  pub origin_is : origin_of w ≡ o
  pub awaits : w.awaited ≡ awaited w.task.task.trace.unmerged
  pub observation : Observation
  pub on : IsOnWay observation w.task.task
  pub says : w.observed ≡ observed_on (path_of o) j observation

-- The task of a walk has come to this stop, and this is what is seen then.
pub record ObservesStop (j : List ℕ) (w : NodeWalk) (stop : Stop All) (observed : ObservedInstance) : Type 0 where
  pub observed_stop : ObservedStop
  pub is_observed : IsObserved w.task j w.observed.probe observed_stop
  pub stops : stop ≡ observed_stop.stop
  pub sees : observed ≡ with_observation observed_stop.probe observed_stop.events observed_stop.fault observed_stop.child_fault w.observed

-- What is seen of an instance, for a node, is what its node shows.
abbrev pub IsSeen : PlanView → Origin → List ℕ → ObservedInstance → Type 0
IsSeen plan o j s = node_seen j s ≡ node_toward plan o j

-- A child on the way is known; or a strand of the instance's own had the pedigree and is over, and no fault came. What the instance shows later
-- tells no more.
abbrev pub is_some : Option Origin → Bool
is_some None = false
is_some (Some o) = true

abbrev pub is_over : ObservedInstance → Bool
is_over s = is_some s.child || (s.probe.came && is_none s.fault)

-- One stop further: a walk with fewer stops left, or all that is to be seen, since the instance has ended or nothing that it does later counts.
abbrev pub WalksOn : PlanView → Origin → List ℕ → NodeWalk → Walked → Type 0
WalksOn plan o j w (Continues next) = IsWalk plan o j next × (stops_left next.task.task < stops_left w.task.task)
WalksOn plan o j w (Ends observed) = IsSeen plan o j observed
