use Rattle.std.proofs.Common.{◌≤◌, drop}
use Rattle.std.specs.Prelude.{flat_map}
use Rattle.run_lines.specs.Lines.{line_in}
use Rattle.run_lines.proofs.Loops.{Going}
use Rattle.run_lines.proofs.run.put_list.Given as goal

-- the lines of the first events were put
abbrev pub invariant-loop-event : goal.invariant-loop-event
invariant-loop-event g l = record {
  going : Going (g.S.Sink.written l.fn.out) (g.S.Sink.written l.out) l.fn.page l.page (flat_map (line_in l.listing) l.events) (flat_map (line_in l.listing) (drop l.event-index l.events));
  later : g.S.Sink.faults l.fn.out ≤ g.S.Sink.faults l.out;
}
