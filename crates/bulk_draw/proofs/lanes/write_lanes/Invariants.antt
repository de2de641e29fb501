use Rattle.std.proofs.Common.{◌≡◌}
use lib.Seq.{paste}
use Rattle.bulk_draw.proofs.lanes.write_lanes.Given as goal

abbrev pub invariant-loop-i : goal.invariant-loop-i
invariant-loop-i l = l.out ≡ paste l.fn.out l.start l.lanes l.i
