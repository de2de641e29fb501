-- The forms in which events are printed, as one choice (docs/LANGUAGE.md, "Printed lines").
use Rattle.std.specs.Prelude.{ℕ, List}
use Rattle.serial_meaning.specs.Render.{event_line, strand_line}
use Rattle.serial_meaning.specs.declared.event.Event.{Event}
use Rattle.serial_meaning.specs.declared.render.Column.{Column}
use Rattle.serial_meaning.specs.declared.render.Column.TheVariants as column

abbrev pub line_in : Column → Event → List ℕ
line_in (column.Run show) = event_line show
line_in column.Strand = strand_line
