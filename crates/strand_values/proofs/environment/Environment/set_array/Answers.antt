use Rattle.std.proofs.Common.{get_or, sym}
use Rattle.strand_values.proofs.Filled.{in_table, is_slot, slot_found}
use Rattle.strand_values.proofs.ItemLemmas.{all_zero}
use Rattle.strand_values.proofs.environment.Environment.set_array.Goals as goal

pub bounds-slots-name : goal.bounds-slots-name
bounds-slots-name c = in_table c.args.slots.now c.args.self.now.names c.args.name.now c.requires

pub put-requires-clause-there : goal.put-requires-clause-there
put-requires-clause-there c =
    let x = c.args.name.now in
    let names = c.args.self.now.names in
    is_slot names x.bytes (get_or c.args.slots.now x.at 0) (slot_found c.args.slots.now names x c.requires)

pub returns-clause-ok : goal.returns-clause-ok
returns-clause-ok c =
    let x = c.args.name.now in
    rw (sym (all_zero c.args.length), sym (c.in_ok-items.ensures.items_if_clones_equal (λ y h. h)))
    (c.put.ensures x.bytes (slot_found c.args.slots.now c.args.self.now.names x c.requires))
