use Rattle.std.proofs.Common.{◌≤◌, arith}
use Rattle.run_lines.specs.Pieces.{piece_text}
use Rattle.run_lines.proofs.Loops.{front_of, goes_on, next_of}
use Rattle.run_lines.proofs.PutLemmas.{on_err}
use Rattle.run_lines.proofs.line.put_pieces.Goals as goal

pub returns-in_err-put_piece-clause-front : goal.returns-in_err-put_piece-clause-front
returns-in_err-put_piece-clause-front g c =
    let split = next_of piece_text c.args.pieces.now c.loop-piece.piece-index c.piece-item.result c.piece-item.result c.loop-piece-test.true c.piece-item.is in
    on_err _ c.from_residual.result (front_of _ _ _ _ _ _ _ _ _ split c.loop-piece.invariant.going c.in_err-put_piece.ensures.front)

pub loop-piece-preserved : goal.loop-piece-preserved
loop-piece-preserved g c =
    let split = next_of piece_text c.args.pieces.now c.loop-piece.piece-index c.piece-item.result c.piece-item.result c.loop-piece-test.true c.piece-item.is in
    let later : g.S.Sink.faults c.loop-piece.out ≤ g.S.Sink.faults c.put_piece.new.out = c.in_ok-put_piece.ensures.cause.later in
    record {
      going = goes_on _ _ _ _ _ _ _ _ _ split c.loop-piece.invariant.going _ c.in_ok-put_piece.ensures.all;
      later = omega (arith, later, c.loop-piece.invariant.later);
    }
