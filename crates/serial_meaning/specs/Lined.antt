-- Which events have a line in some form of a run.
use Rattle.std.specs.Prelude.{Bool, true, false}
use Rattle.serial_meaning.specs.declared.event.Event.{Event}
use Rattle.serial_meaning.specs.declared.event.Event.TheVariants as event

abbrev pub has_line : Event → Bool
has_line (event.Print j v) = true
has_line (event.Draw j n) = true
has_line (event.New j) = true
has_line (event.Spawn j) = false
has_line (event.Sync j) = false
has_line (event.Loop j) = false
