use Rattle.std.proofs.Common.{◌-◌, ◌≤◌, vec_len}
use Rattle.ped_io.specs.Streams.{Consumes}
use Rattle.ped_io.proofs.transfer.read_all.Given as goal

abbrev pub invariant-reading : goal.invariant-reading
invariant-reading g l = record {
  within : vec_len l.all ≤ l.limit;
  taken : Consumes (g.S.Source.left l.initial.src) (g.S.Source.left l.src) l.all.items;
  later : g.S.Source.faults l.initial.src ≤ g.S.Source.faults l.src;
}

abbrev pub decreases-reading : goal.decreases-reading
decreases-reading g l = l.limit - vec_len l.all
