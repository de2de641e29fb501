use Rattle.std.proofs.Common.{get_or, arith, w64}
use Rattle.std.proofs.lemmas.Int.{to_z-of_z}
use Rattle.serial_meaning.specs.declared.environment.Content.TheVariants.{Scalar}
use Rattle.serial_meaning.specs.declared.value.Value.TheVariants.{Int}
use Rattle.strand_values.proofs.Filled.{entry_put, entry_there, in_table, slot_found, seen_put}
use Rattle.strand_values.proofs.environment.Environment.set_number.Goals as goal

pub bounds-slots-name : goal.bounds-slots-name
bounds-slots-name c = in_table c.args.slots.now c.args.self.now.names c.args.name.now c.requires

pub index-requires : goal.index-requires
index-requires c =
    let i = c.self.inside in
    let env = c.args.self.now in
    let x = c.args.name.now in
    let slot = get_or c.args.slots.now x.at 0 in
    let there = slot_found c.args.slots.now env.names x c.requires in
    let within = entry_there i.names.value i.entries.items i.filled.items c.self.invariant env c.self.view_is slot x.bytes there in
    omega (arith, within, i.entries.ok.0)

pub index_mut-requires : goal.index_mut-requires
index_mut-requires c =
    let i = c.self.inside in
    let env = c.args.self.now in
    let x = c.args.name.now in
    let slot = get_or c.args.slots.now x.at 0 in
    let there = slot_found c.args.slots.now env.names x c.requires in
    let within = entry_there i.names.value i.entries.items i.filled.items c.self.invariant env c.self.view_is slot x.bytes there in
    omega (arith, within, i.entries.ok.0)

pub invariant_of-self : goal.invariant_of-self
invariant_of-self c =
    let i = c.self.inside in
    let env = c.args.self.now in
    let x = c.args.name.now in
    let slot = get_or c.args.slots.now x.at 0 in
    let there = slot_found c.args.slots.now env.names x c.requires in
    let listed_now = rw c.replace.ensures.value at c.with_filled.ensures in
    let holds = rw (to_z-of_z w64 c.args.number c.ranges.number) at c.set_number.ensures in
    entry_put i.names.value i.entries.items i.filled.items c.self.invariant env c.self.view_is slot x.bytes there c.index.result.now c.index.ensures c.with_filled.result.items listed_now c.set_number.new.self (Scalar (Int c.args.number)) holds

pub returns : goal.returns
returns c =
    let i = c.self.inside in
    let env = c.args.self.now in
    let x = c.args.name.now in
    let slot = get_or c.args.slots.now x.at 0 in
    let there = slot_found c.args.slots.now env.names x c.requires in
    let listed_now = rw c.replace.ensures.value at c.with_filled.ensures in
    let holds = rw (to_z-of_z w64 c.args.number c.ranges.number) at c.set_number.ensures in
    seen_put i.names.value i.entries.items i.filled.items c.self.invariant env c.self.view_is slot x.bytes there c.index.result.now c.index.ensures c.with_filled.result.items listed_now c.set_number.new.self (Scalar (Int c.args.number)) holds
