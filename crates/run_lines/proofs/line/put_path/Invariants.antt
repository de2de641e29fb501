use Rattle.std.proofs.Common.{◌≤◌, drop}
use Rattle.ped_path.specs.Text.{stopped}
use Rattle.run_lines.proofs.Loops.{Going}
use Rattle.run_lines.proofs.line.put_path.Given as goal

-- the first ranks were put
abbrev pub invariant-loop-i : goal.invariant-loop-i
invariant-loop-i g l = record {
  going : Going (g.S.Sink.written l.fn.out) (g.S.Sink.written l.out) l.fn.page l.page (stopped l.path) (stopped (drop l.i l.path));
  later : g.S.Sink.faults l.fn.out ≤ g.S.Sink.faults l.out;
}
