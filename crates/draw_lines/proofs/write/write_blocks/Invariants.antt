use Rattle.std.proofs.Common.{◌≡◌, ◌≤◌, List, ℕ, ◌++◌, length}
use Rattle.ped_io.specs.Streams.{Appends}
use Rattle.draw_lines.specs.Lines.{CanDraw, lines_of}
use Rattle.draw_lines.proofs.write.write_blocks.Given as goal

-- The first lines were written, and the stream goes on with the others.
abbrev pub invariant-writing : goal.invariant-writing
invariant-writing g l = record {
  can : CanDraw l.stream l.left;
  written : (front : List ℕ) × Appends (g.K.Sink.written l.initial.out) (g.K.Sink.written l.out) front × (lines_of l.initial.stream l.count ≡ front ++ lines_of l.stream l.left);
  later : g.K.Sink.faults l.initial.out ≤ g.K.Sink.faults l.out;
}

abbrev pub decreases-writing : goal.decreases-writing
decreases-writing g l = l.left
