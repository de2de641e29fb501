use Rattle.std.proofs.Common.{◌≡◌, drop}
use Rattle.serial_meaning.specs.Chunks.{joined}
use Rattle.span_report.specs.Walks.{open_instances, walked_all}
use Rattle.span_report.proofs.chain.add_chunks.Given as goal

abbrev pub invariant-loop-chunk : goal.invariant-loop-chunk
invariant-loop-chunk l = walked_all (open_instances l.fn.walk) (joined l.chunks) ≡ walked_all (open_instances l.walk) (joined (drop l.chunk-index l.chunks))
