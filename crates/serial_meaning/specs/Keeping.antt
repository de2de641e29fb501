-- What is kept of a list of events.
use Rattle.std.specs.Prelude.{List, [], ◌∷◌, Bool, true, false}
use Rattle.serial_meaning.specs.declared.event.Event.{Event}

abbrev pub keep_if : Bool → Event → List Event → List Event
keep_if true e es = e ∷ es
keep_if false e es = es

-- the events that are kept, in order
abbrev pub kept_of : (Event → Bool) → List Event → List Event
kept_of kept [] = []
kept_of kept (e ∷ es) = keep_if (kept e) e (kept_of kept es)
