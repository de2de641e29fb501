use Rattle.std.proofs.Common.{w64}
use Rattle.std.proofs.lemmas.Int.{to_z-of_z}
use Rattle.strand_values.proofs.ItemLemmas.{item_set}
use Rattle.strand_values.proofs.entry.Entry.put_item.Goals as goal

pub returns : goal.returns
returns c =
    let e = item_set c.items.inside.0.items c.args.i c.args.number in
    rw (to_z-of_z w64 c.args.number c.ranges.number, c.in-Array.is) (cc)
