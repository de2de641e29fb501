use Rattle.std.proofs.Common.{◌≤◌, drop}
use Rattle.std.specs.Prelude.{flat_map}
use Rattle.run_lines.specs.Lines.{line_in}
use Rattle.run_lines.proofs.Loops.{Going}
use Rattle.run_lines.proofs.run.put_chunks.Given as goal

-- the lines of the first chunks were put
abbrev pub invariant-loop-chunk : goal.invariant-loop-chunk
invariant-loop-chunk g l = record {
  going : Going (g.S.Sink.written l.fn.out) (g.S.Sink.written l.out) l.fn.page l.page (flat_map (flat_map (line_in l.listing)) l.chunks) (flat_map (flat_map (line_in l.listing)) (drop l.chunk-index l.chunks));
  later : g.S.Sink.faults l.fn.out ≤ g.S.Sink.faults l.out;
}
