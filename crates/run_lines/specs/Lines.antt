-- The lines of events.
use Rattle.std.specs.Prelude.{◌≡◌, ℕ, Bool, false, List, []}
use Rattle.serial_meaning.specs.Render.{event_line, strand_line}
use Rattle.serial_meaning.specs.declared.event.Event.{Event}
use Rattle.run_lines.specs.declared.run.Listing.{Listing}
use Rattle.run_lines.specs.declared.run.Listing.TheVariants as listing

abbrev pub line_in : Listing → Event → List ℕ
line_in (listing.Run show) = event_line show
line_in listing.Strand = strand_line

-- each event that isn't kept has no line
abbrev pub KeepsLinesIn : (Event → Bool) → Listing → Type 0
KeepsLinesIn kept listing = (e : Event) → kept e ≡ false → line_in listing e ≡ []
