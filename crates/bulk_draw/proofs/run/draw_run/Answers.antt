use Rattle.std.proofs.Common.{◌≡◌, ◌≤◌, ◌+◌, ◌*◌, ◌-◌, ◌/◌, ◌∙◌, length, map, take, drop, ap, refl, subst, sym, arith, length-take, length-drop}
use Rattle.dotmix.specs.Draws.{dot, mix}
use Rattle.bulk_draw.specs.Streams.{dots, later, stream}
use Rattle.bulk_draw.proofs.StreamLemmas.{block_next, block_written, dot-IsResidue, last_block_written, later-none, length-after, IsStreamBlock}
use Rattle.bulk_draw.proofs.run.draw_run.Goals as goal

pub loop-block-init : goal.loop-block-init
loop-block-init c = record {
  written = refl;
  next = c.dot-next.ensures ∙ ap (dot c.args.gamma.now) (sym (later-none _ _ _ c.at.view_is));
  small = rw c.dot-next.ensures (dot-IsResidue c.args.gamma.now c.args.at.now);
}

pub loop-block-preserved : goal.loop-block-preserved
loop-block-preserved c =
    let start = c.loop-block.block * 8 in
    let long = length-after _ _ _ c.at.view_is in
    let is : IsStreamBlock c.args.gamma.now c.args.at.now c.at.inside.path c.at.inside.rank c.args.rounds start 8 ((c.loop-block.block + 1) * 8) c.loop-block.next c.coeff-step.result c.loop-block.out c.mix_each.new.z = record {
      pedigree = c.at.view_is;
      within = omega arith;
      step_is = rw (sym c.len-2.ensures.length) c.coeff-step.ensures.value;
      next_is = c.loop-block.invariant.next;
      ends = omega arith;
      room = omega arith;
      before = c.loop-block.invariant.written;
      mixed = c.mix_each.ensures ∙ ap (map (λ n. mix n c.args.rounds)) c.write_dots-next.ensures.list;
    } in
    record {
      written = ap (take ((c.loop-block.block + 1) * 8)) c.write_lanes.ensures ∙ block_written _ _ _ _ _ start 8 8 _ _ _ _ _ is;
      next = c.write_dots-next.ensures.next ∙ block_next _ _ _ _ _ _ _ _ _ _ _ _ is;
      small = c.write_dots-next.ensures.small;
    }

pub returns : goal.returns
returns c =
    let start = length c.args.out.now / 8 * 8 in
    let many = length c.loop-block.out - start in
    let here : c.loop-block.block * 8 ≡ start = omega arith in
    let long = length-after _ _ _ c.at.view_is in
    let room : start ≤ length c.loop-block.out = omega arith in
    let counted : length (take many (drop start c.loop-block.out)) ≡ many = simp (length-take, length-drop) (omega arith) in
    let is : IsStreamBlock c.args.gamma.now c.args.at.now c.at.inside.path c.at.inside.rank c.args.rounds start many (length c.args.out.now) c.loop-block.next c.coeff-step.result c.loop-block.out c.mix_each-2.new.z = record {
      pedigree = c.at.view_is;
      within = omega arith;
      step_is = rw (sym c.len-2.ensures.length) c.coeff-step.ensures.value;
      next_is = c.loop-block.invariant.next ∙ ap (λ b. dot c.args.gamma.now (later c.args.at.now b)) here;
      ends = omega arith;
      room = room;
      before = subst (λ b. take b c.loop-block.out ≡ stream c.args.gamma.now c.args.at.now b c.args.rounds) here c.loop-block.invariant.written;
      mixed = c.mix_each-2.ensures ∙ ap (map (λ n. mix n c.args.rounds)) (c.write_dots.ensures.list ∙ ap (dots c.loop-block.next c.coeff-step.result) counted);
    } in
    last_block_written _ _ _ _ _ _ _ _ _ _ _ _ (omega arith) is
