use Rattle.std.proofs.Common.{◌≡◌, ◌+◌, ◌*◌, ◌%◌, take}
use Rattle.dotmix.specs.Draws.{modulus, IsResidue}
use Rattle.bulk_draw.specs.Streams.{dots}
use Rattle.bulk_draw.proofs.run.write_dots.Given as goal

abbrev pub invariant-loop-place : goal.invariant-loop-place
invariant-loop-place l = record {
  written : take l.place-index l.out ≡ dots l.fn.first l.fn.step l.place-index;
  next : l.dot ≡ (l.fn.first + l.place-index * l.fn.step) % modulus;
  small : IsResidue l.dot;
}
