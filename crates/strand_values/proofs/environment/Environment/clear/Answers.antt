use Rattle.std.proofs.Common.{get_or}
use Rattle.strand_values.proofs.Filled.{in_table, is_slot, slot_found}
use Rattle.strand_values.proofs.environment.Environment.clear.Goals as goal

pub bounds-slots-name : goal.bounds-slots-name
bounds-slots-name c = in_table c.args.slots.now c.args.self.now.names c.in-Some.name.now (rw c.in-Some.is at c.requires)

pub fill_entry-requires : goal.fill_entry-requires
fill_entry-requires c =
    let x = c.in-Some.name.now in
    let names = c.args.self.now.names in
    is_slot names x.bytes (get_or c.args.slots.now x.at 0) (slot_found c.args.slots.now names x (rw c.in-Some.is at c.requires))

pub returns-in-Some : goal.returns-in-Some
returns-in-Some c =
    let x = c.in-Some.name.now in
    rw c.in-Some.is (c.fill_entry.ensures x.bytes (slot_found c.args.slots.now c.args.self.now.names x (rw c.in-Some.is at c.requires)))
