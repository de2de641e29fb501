use Rattle.std.proofs.Common.{◌∙◌, rules, add-one, arith, w64, SFits}
use Rattle.std.proofs.lemmas.Int.{to_z-of_z}
use Rattle.strand_values.proofs.ItemLemmas.{front_step, front_done}
use Rattle.strand_values.proofs.entry.fill_items.Goals as goal

pub loop-i-preserved : goal.loop-i-preserved
loop-i-preserved c =
    let fits : SFits w64 c.number.result = search rules in
    rw (to_z-of_z w64 c.number.result fits, add-one, c.number.ensures) (c.loop-i.invariant ∙ front_step c.loop-i.i c.loop-i.items c.args.values.now c.index-values-i.result (omega arith) (omega arith) c.index-values-i.is)

pub returns : goal.returns
returns c =
    let kept = c.loop-i.auto.items in
    let last = front_done c.loop-i.i c.loop-i.items c.args.values.now (omega arith) in
    cc (c.loop-i.invariant)
