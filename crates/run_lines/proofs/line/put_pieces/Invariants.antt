use Rattle.std.proofs.Common.{◌≤◌, drop}
use Rattle.run_lines.specs.Pieces.{pieces_text}
use Rattle.run_lines.proofs.Loops.{Going}
use Rattle.run_lines.proofs.line.put_pieces.Given as goal

-- the first pieces were put
abbrev pub invariant-loop-piece : goal.invariant-loop-piece
invariant-loop-piece g l = record {
  going : Going (g.S.Sink.written l.fn.out) (g.S.Sink.written l.out) l.fn.page l.page (pieces_text l.pieces) (pieces_text (drop l.piece-index l.pieces));
  later : g.S.Sink.faults l.fn.out ≤ g.S.Sink.faults l.out;
}
