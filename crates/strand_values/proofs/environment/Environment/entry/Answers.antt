use Rattle.std.proofs.Common.{get_or, arith}
use Rattle.strand_values.proofs.Filled.{entry_holds, entry_there, in_table, slot_found}
use Rattle.strand_values.proofs.environment.Environment.entry.Goals as goal

pub bounds-slots-name : goal.bounds-slots-name
bounds-slots-name c = in_table c.args.slots.now c.args.self.now.names c.args.name.now c.requires

pub index-requires : goal.index-requires
index-requires c =
    let i = c.self.inside in
    let env = c.args.self.now in
    let x = c.args.name.now in
    let slot = get_or c.args.slots.now x.at 0 in
    let there = slot_found c.args.slots.now env.names x c.requires in
    let within = entry_there i.names.value i.entries.items i.filled.items c.self.invariant env c.self.view_is slot x.bytes there in
    omega (arith, within, i.entries.ok.0)

pub returns : goal.returns
returns c =
    let i = c.self.inside in
    let env = c.args.self.now in
    let x = c.args.name.now in
    let slot = get_or c.args.slots.now x.at 0 in
    let there = slot_found c.args.slots.now env.names x c.requires in
    entry_holds i.names.value i.entries.items i.filled.items c.self.invariant env c.self.view_is slot x.bytes there c.index.result.now c.index.ensures
