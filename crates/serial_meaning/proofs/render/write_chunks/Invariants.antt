use Rattle.std.proofs.Common.{◌≡◌, ◌++◌, drop}
use Rattle.std.specs.Prelude.{flat_map}
use Rattle.serial_meaning.specs.Columns.{line_in}
use Rattle.serial_meaning.specs.Chunks.{joined}
use Rattle.serial_meaning.proofs.render.write_chunks.Given as goal

abbrev pub invariant-loop-chunk : goal.invariant-loop-chunk
invariant-loop-chunk l =
    l.fn.text.items ++ flat_map (line_in l.column) (joined l.chunks) ≡ l.text.items ++ flat_map (line_in l.column) (joined (drop l.chunk-index l.chunks))
