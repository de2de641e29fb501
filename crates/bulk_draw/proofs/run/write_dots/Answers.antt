use Rattle.std.proofs.Common.{◌<◌, ◌∙◌, length, arith}
use Rattle.std.proofs.lemmas.List.{take_more_set}
use Rattle.bulk_draw.proofs.StreamLemmas.{dots_more, dot_more}
use Rattle.bulk_draw.proofs.run.write_dots.Goals as goal

pub loop-place-preserved : goal.loop-place-preserved
loop-place-preserved c =
    let within : c.loop-place.place-index < length c.loop-place.out = omega arith in
    record {
      written = take_more_set c.loop-place.out c.loop-place.place-index c.loop-place.dot within ∙ dots_more c.args.first c.args.step c.loop-place.place-index _ _ c.loop-place.invariant.written c.loop-place.invariant.next;
      next = dot_more c.args.first c.args.step c.loop-place.place-index _ _ c.loop-place.invariant.next c.residue_sum-dot.ensures.value;
      small = c.residue_sum-dot.ensures.small;
    }
