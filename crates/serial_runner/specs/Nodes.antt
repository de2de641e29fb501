-- What an instance shows on the way down to a pedigree.
use Rattle.std.specs.Prelude.{◌≡◌, ◌<◌, ℕ, Bool, true, false, ◌||◌, ◌&&◌, List, Option, Some, None, length, take, bytes_eq, if◌then◌else◌}
use Rattle.serial_meaning.specs.Open as open_tree
use Rattle.serial_meaning.specs.Open.{node_of}
use Rattle.serial_meaning.specs.Plan.{PlanView}
use Rattle.serial_meaning.specs.declared.event.Fault.{Fault}
use Rattle.serial_meaning.specs.declared.origin.Origin.{Origin}
use Rattle.strand_meaning.specs.Strands.{Strand, child_on_way, strand_of, blocking_fault}
use Rattle.strand_machine.specs.Probes.{is_none_ahead}
use Rattle.serial_runner.specs.declared.node.Node.{Node}
use Rattle.serial_runner.specs.declared.observed.ObservedInstance.{ObservedInstance}

-- A pedigree is below a path where it begins with the path and is longer.
pub record IsBelow (path j : List ℕ) : Type 0 where
  pub begins : take (length path) j ≡ path
  pub longer : length path < length j

-- A child on the way to the pedigree; where there is none, the instance's strand with that pedigree, and the fault of a child by which it
-- ended before that.
abbrev pub node_by : Option Origin → Option Strand → Option Fault → Node
node_by (Some c) strand child_fault = record { strand = None; child = Some c; child_fault = None }
node_by None strand child_fault = record { strand = strand; child = None; child_fault = child_fault }

abbrev pub node_at : Origin → open_tree.Node → List ℕ → Node
node_at o n j = node_by (child_on_way j n.items) (strand_of o n j) (blocking_fault n j)

abbrev pub node_toward : PlanView → Origin → List ℕ → Node
node_toward plan o j = node_at o (node_of plan o) j

-- What is seen of an instance with a probe for one pedigree

abbrev pub fault_at : List ℕ → Option Fault → Option Fault
fault_at j None = None
fault_at j (Some f) = if bytes_eq f.at j then Some f else None

abbrev pub is_none : Option Fault → Bool
is_none None = true
is_none (Some f) = false

-- whether a strand of the instance's own had the pedigree; one that ended by a child's fault hasn't come to the strand after its last event
abbrev pub came_to : ObservedInstance → Bool
came_to s = s.probe.came || (is_none_ahead s.probe.ahead && is_none s.child_fault)

abbrev pub strand_seen : List ℕ → ObservedInstance → Option Strand
strand_seen j s = if came_to s then Some (record { events = s.events; fault = fault_at j s.fault }) else None

abbrev pub child_fault_before : ObservedInstance → Option Fault
child_fault_before s = if s.probe.past then s.child_fault else None

abbrev pub node_seen : List ℕ → ObservedInstance → Node
node_seen j s = node_by s.child (strand_seen j s) (child_fault_before s)
