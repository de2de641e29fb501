use lib.IntN.{nat_abs}
use Rattle.std.proofs.Common.{get_or, sym, ap, ◌∙◌, arith, w64, rules, SFits}
use Rattle.std.proofs.lemmas.Int.{to_z-of_z}
use Rattle.serial_meaning.specs.Exec.{with_item, with_content}
use Rattle.serial_meaning.specs.Values.{items_of, as_integer, content_of}
use Rattle.serial_meaning.specs.declared.environment.Content.TheVariants.{Array}
use Rattle.strand_values.specs.Environments.{entry_content, with_filled, with_variables}
use Rattle.strand_values.proofs.Filled.{entry_holds, entry_put, entry_there, in_table, slot_found, seen_put, some_of}
use Rattle.strand_values.proofs.ItemLemmas.{array_there, index_is_within, item_there, stored_there}
use Rattle.strand_values.proofs.environment.Environment.set_item.Goals as goal

pub bounds-slots-name : goal.bounds-slots-name
bounds-slots-name c = in_table c.args.slots.now c.args.self.now.names c.args.name.now c.requires.name

pub index_mut-requires : goal.index_mut-requires
index_mut-requires c =
    let i = c.self.inside in
    let env = c.args.self.now in
    let x = c.args.name.now in
    let slot = get_or c.args.slots.now x.at 0 in
    let there = slot_found c.args.slots.now env.names x c.requires.name in
    let within = entry_there i.names.value i.entries.items i.filled.items c.self.invariant env c.self.view_is slot x.bytes there in
    omega (arith, within, i.entries.ok.0)

pub put_item-requires : goal.put_item-requires
put_item-requires c =
    let i = c.self.inside in
    let env = c.args.self.now in
    let x = c.args.name.now in
    let slot = get_or c.args.slots.now x.at 0 in
    let there = slot_found c.args.slots.now env.names x c.requires.name in
    let is = sym (entry_holds i.names.value i.entries.items i.filled.items c.self.invariant env c.self.view_is slot x.bytes there c.index_mut.result.now c.index_mut.ensures.value) in
    rw (to_z-of_z w64 c.args.index c.ranges.index) (index_is_within _ c.args.index (item_there _ _ c.args.index is c.requires.there))

pub invariant_of-self : goal.invariant_of-self
invariant_of-self c =
    let i = c.self.inside in
    let env = c.args.self.now in
    let x = c.args.name.now in
    let slot = get_or c.args.slots.now x.at 0 in
    let there = slot_found c.args.slots.now env.names x c.requires.name in
    let e = c.index_mut.result.now in
    let is = sym (entry_holds i.names.value i.entries.items i.filled.items c.self.invariant env c.self.view_is slot x.bytes there e c.index_mut.ensures.value) in
    let some = some_of (entry_content e) (array_there (entry_content e) c.args.index (item_there _ _ c.args.index is c.requires.there)) in
    let listed_now = sym (ap (λ o. with_filled i.filled.items slot o) some.1) in
    entry_put i.names.value i.entries.items i.filled.items c.self.invariant env c.self.view_is slot x.bytes there e c.index_mut.ensures.value i.filled.items listed_now c.put_item.new.self _ c.put_item.ensures

pub returns : goal.returns
returns c =
    let i = c.self.inside in
    let env = c.args.self.now in
    let x = c.args.name.now in
    let slot = get_or c.args.slots.now x.at 0 in
    let there = slot_found c.args.slots.now env.names x c.requires.name in
    let e = c.index_mut.result.now in
    let is = sym (entry_holds i.names.value i.entries.items i.filled.items c.self.invariant env c.self.view_is slot x.bytes there e c.index_mut.ensures.value) in
    let some = some_of (entry_content e) (array_there (entry_content e) c.args.index (item_there _ _ c.args.index is c.requires.there)) in
    let listed_now = sym (ap (λ o. with_filled i.filled.items slot o) some.1) in
    let fits : SFits w64 c.number.result = search rules in
    let holds = rw (to_z-of_z w64 c.args.index c.ranges.index, to_z-of_z w64 c.number.result fits, c.number.ensures) at c.put_item.ensures in
    seen_put i.names.value i.entries.items i.filled.items c.self.invariant env c.self.view_is slot x.bytes there e c.index_mut.ensures.value i.filled.items listed_now c.put_item.new.self (Array (with_item (items_of (entry_content e)) (nat_abs c.args.index) (as_integer c.args.value.now))) holds
    ∙ ap (λ s. with_variables env (with_content env.variables x.bytes s)) (stored_there (content_of env.variables x.bytes) (entry_content e) c.args.index c.args.value.now is c.requires.there)
