use Rattle.std.proofs.Common.{◌≤◌, arith}
use Rattle.std.specs.Prelude.{flat_map}
use Rattle.run_lines.specs.Lines.{line_in}
use Rattle.run_lines.proofs.Loops.{front_of, goes_on, next_of}
use Rattle.run_lines.proofs.PutLemmas.{on_err}
use Rattle.run_lines.proofs.run.put_chunks.Goals as goal

pub returns-in_err-put_chunk-clause-front : goal.returns-in_err-put_chunk-clause-front
returns-in_err-put_chunk-clause-front g c =
    let split = next_of (flat_map (line_in c.args.listing)) c.args.chunks.now c.loop-chunk.chunk-index c.chunk-item.result c.chunk-item.result c.loop-chunk-test.true c.chunk-item.is in
    on_err _ c.from_residual.result (front_of _ _ _ _ _ _ _ _ _ split c.loop-chunk.invariant.going c.in_err-put_chunk.ensures.front)

pub loop-chunk-preserved : goal.loop-chunk-preserved
loop-chunk-preserved g c =
    let split = next_of (flat_map (line_in c.args.listing)) c.args.chunks.now c.loop-chunk.chunk-index c.chunk-item.result c.chunk-item.result c.loop-chunk-test.true c.chunk-item.is in
    let later : g.S.Sink.faults c.loop-chunk.out ≤ g.S.Sink.faults c.put_chunk.new.out = c.in_ok-put_chunk.ensures.cause.later in
    record {
      going = goes_on _ _ _ _ _ _ _ _ _ split c.loop-chunk.invariant.going _ c.in_ok-put_chunk.ensures.all;
      later = omega (arith, later, c.loop-chunk.invariant.later);
    }
