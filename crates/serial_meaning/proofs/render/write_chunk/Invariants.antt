use Rattle.std.proofs.Common.{◌≡◌, ◌++◌, drop}
use Rattle.std.specs.Prelude.{flat_map}
use Rattle.serial_meaning.specs.Columns.{line_in}
use Rattle.serial_meaning.proofs.render.write_chunk.Given as goal

abbrev pub invariant-loop-event : goal.invariant-loop-event
invariant-loop-event l =
    l.fn.text.items ++ flat_map (line_in l.column) l.events ≡ l.text.items ++ flat_map (line_in l.column) (drop l.event-index l.events)
