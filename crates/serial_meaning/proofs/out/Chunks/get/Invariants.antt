use Rattle.std.proofs.Common.{◌≡◌, ◌++◌, slice_get, drop}
use Rattle.serial_meaning.specs.Chunks.{joined, chunks_events}
use Rattle.serial_meaning.proofs.out.Chunks.get.Given as goal

abbrev pub invariant-loop-chunk : goal.invariant-loop-chunk
invariant-loop-chunk l =
    slice_get (chunks_events l.self) l.i ≡ slice_get (joined (drop l.chunk-index l.chunk-items) ++ l.self.last.items) l.left
