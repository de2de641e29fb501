use Rattle.std.proofs.Common.{◌≤◌, drop}
use Rattle.run_lines.proofs.Loops.{Going}
use Rattle.seed_batch.specs.Batch.{batch_text}
use Rattle.seed_batch.proofs.render.put_batch.Given as goal

-- the first parts were put
abbrev pub invariant-loop-i : goal.invariant-loop-i
invariant-loop-i g l = record {
  going : Going (g.S.Sink.written l.fn.out) (g.S.Sink.written l.out) l.fn.page l.page (batch_text l.fn.seeds l.fn.answers) (batch_text (drop l.i l.fn.seeds) (drop l.i l.fn.answers));
  later : g.S.Sink.faults l.fn.out ≤ g.S.Sink.faults l.out;
}
