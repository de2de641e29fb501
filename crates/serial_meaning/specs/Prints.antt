-- Which events are prints: those that have a line in every form of a run.
use Rattle.std.specs.Prelude.{List, Bool, true, false}
use Rattle.std.specs.List.{list_any}
use Rattle.serial_meaning.specs.declared.event.Event.{Event}
use Rattle.serial_meaning.specs.declared.event.Event.TheVariants as event

abbrev pub is_print : Event → Bool
is_print (event.Print j v) = true
is_print (event.Draw j n) = false
is_print (event.New j) = false
is_print (event.Spawn j) = false
is_print (event.Sync j) = false
is_print (event.Loop j) = false

abbrev pub has_print : List Event → Bool
has_print events = list_any is_print events
