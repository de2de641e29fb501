-- The children whose answers aren't taken, with what stands after each.
use Rattle.std.specs.Prelude.{◌≡◌, List, [], ◌∷◌, Option, length}
use Rattle.serial_meaning.specs.declared.event.Event.{Event}
use Rattle.serial_meaning.specs.declared.event.Fault.{Fault}
use Rattle.serial_meaning.specs.declared.origin.Origin.{Origin}
use Rattle.strand_meaning.specs.Machine as meaning
use Rattle.strand_meaning.specs.Trace.{AwaitedChild, Trace}
use Rattle.strand_machine.specs.declared.destination.Destination.{Destination}
use Rattle.strand_machine.specs.declared.destination.Destination.TheVariants as destination
use Rattle.strand_machine.specs.declared.trace.AfterChild.{AfterChild}

abbrev pub destination_of : Destination → meaning.Destination
destination_of (destination.Spawned height target) = meaning.Spawned height target
destination_of (destination.Looped target) = meaning.Looped target
destination_of destination.Half = meaning.Half

abbrev pub awaited_child : {K : Type 0} → Origin → AfterChild K → AwaitedChild
awaited_child child b = record { child = child; destination = destination_of b.destination; after = b.events }

abbrev pub awaited_children : {K : Type 0} → List Origin → List (AfterChild K) → List AwaitedChild
awaited_children [] bs = []
awaited_children (o ∷ os) [] = []
awaited_children (o ∷ os) (b ∷ bs) = awaited_child o b ∷ awaited_children os bs

abbrev pub awaited : List AwaitedChild → List Origin
awaited [] = []
awaited (p ∷ ps) = p.child ∷ awaited ps

-- A trace in parts: the events before its first child, its fault, and what comes after each child.
pub record IsParted {K : Type 0} (trace : Trace) (prefix : List Event) (fault : Option Fault) (after : List (AfterChild K)) : Type 0 where
  pub children : List Origin
  pub many : length children ≡ length after
  pub is : ◌≡◌ {A = Trace} (record { prefix = prefix; fault = fault; unmerged = awaited_children children after }) trace
