-- What must be kept of a run's events for its lines.
use Rattle.std.specs.Prelude.{◌≡◌, [], Bool, false}
use Rattle.serial_meaning.specs.declared.event.Event.{Event}
use Rattle.serial_meaning.specs.declared.plan.Show.{Show}
use Rattle.serial_meaning.specs.Render.{event_line}

-- Each event that has a line is kept.
abbrev pub KeepsLines : (Event → Bool) → Show → Type 0
KeepsLines kept show = (e : Event) → kept e ≡ false → event_line show e ≡ []
