use Rattle.std.proofs.Common.{◌≡◌, ◌*◌, take}
use Rattle.dotmix.specs.Draws.{dot, IsResidue}
use Rattle.bulk_draw.specs.Streams.{later, stream}
use Rattle.bulk_draw.proofs.run.draw_run.Given as goal

abbrev pub invariant-loop-block : goal.invariant-loop-block
invariant-loop-block l = record {
  written : take (l.block * 8) l.out ≡ stream l.gamma l.at (l.block * 8) l.rounds;
  next : l.next ≡ dot l.gamma (later l.at (l.block * 8));
  small : IsResidue l.next;
}
