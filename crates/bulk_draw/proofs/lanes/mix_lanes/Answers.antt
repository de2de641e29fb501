use Rattle.std.proofs.Common.{◌≡◌, ◌∙◌, ◌+◌, ◌*◌, ◌-◌, ◌/◌, ◌++◌, length, map, take, drop, ap, refl, subst, arith}
use Rattle.dotmix.specs.Draws.{mix}
use Rattle.bulk_draw.proofs.LaneLemmas.{all_mapped, block_mapped, mapped-length}
use Rattle.bulk_draw.proofs.lanes.mix_lanes.Goals as goal

pub loop-block-preserved : goal.loop-block-preserved
loop-block-preserved c =
    let written = c.mix_each.ensures ∙ ap (map (λ n. mix n c.args.rounds)) c.copy_from_slice.ensures.after in
    c.write_lanes.ensures ∙ block_mapped (λ n. mix n c.args.rounds) c.args.z.now c.loop-block.z _ (c.loop-block.block * 8) _ 8 ((c.loop-block.block + 1) * 8) (omega arith) (omega arith) (omega arith) c.loop-block.invariant written

pub returns : goal.returns
returns c =
    let start = length c.args.z.now / 8 * 8 in
    let many = length c.loop-block.z - start in
    let here : c.loop-block.block * 8 ≡ start = omega arith in
    let before = subst (λ b. c.loop-block.z ≡ map (λ n. mix n c.args.rounds) (take b c.args.z.now) ++ drop b c.args.z.now) here c.loop-block.invariant in
    let long : length c.loop-block.z ≡ length c.args.z.now = mapped-length (λ n. mix n c.args.rounds) c.args.z.now c.loop-block.z start before in
    all_mapped (λ n. mix n c.args.rounds) c.args.z.now _ (length c.args.z.now) refl
    (block_mapped (λ n. mix n c.args.rounds) c.args.z.now c.loop-block.z _ start many _ (length c.args.z.now) (omega arith) refl (omega arith) before c.mix_each-2.ensures)
