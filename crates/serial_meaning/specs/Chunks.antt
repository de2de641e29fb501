-- Chunks of events, one after another. A list of events is kept so that none is copied; the form is this project's own.
use Rattle.std.specs.Prelude.{List, [], ◌∷◌, ◌++◌, Bool, true, false}
use Rattle.serial_meaning.specs.declared.event.Event.{Event}
use Rattle.serial_meaning.specs.declared.out.Kept.{Kept}
use Rattle.serial_meaning.specs.declared.out.Kept.TheVariants.{Nothing, One, Listed}
use Rattle.serial_meaning.specs.declared.out.Chunks.{Chunks}

abbrev pub joined : List (List Event) → List Event
joined [] = []
joined (chunk ∷ chunks) = chunk ++ joined chunks

abbrev pub chunks_events : Chunks → List Event
chunks_events s = joined s.full.items ++ s.last.items

abbrev pub kept_events : Kept → List Event
kept_events Nothing = []
kept_events (One _ event) = event ∷ []
kept_events (Listed s) = chunks_events s

-- whether it is a single event, stored inline
abbrev pub has_one : Kept → Bool
has_one Nothing = false
has_one (One _ _) = true
has_one (Listed _) = false
