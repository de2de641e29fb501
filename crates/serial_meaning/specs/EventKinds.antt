-- Events that are no prints, by their kinds.
use Rattle.std.specs.Prelude.{ℕ, List}
use Rattle.serial_meaning.specs.declared.event.Event.{Event}
use Rattle.serial_meaning.specs.declared.event.Event.TheVariants as event
use Rattle.serial_meaning.specs.declared.event.EventKind.{EventKind}
use Rattle.serial_meaning.specs.declared.event.EventKind.TheVariants as kind

-- the event of this kind at this pedigree
abbrev pub event_at : List ℕ → EventKind → Event
event_at j (kind.Draw word) = event.Draw j word
event_at j kind.New = event.New j
event_at j kind.Spawn = event.Spawn j
event_at j kind.Sync = event.Sync j
event_at j kind.Loop = event.Loop j
