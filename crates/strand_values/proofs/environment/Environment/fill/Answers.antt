use Rattle.std.proofs.Common.{get_or}
use Rattle.strand_values.proofs.Filled.{in_table, is_slot, slot_found}
use Rattle.strand_values.proofs.environment.Environment.fill.Goals as goal

pub bounds-slots-at : goal.bounds-slots-at
bounds-slots-at c = rw c.at.ensures (in_table c.args.slots.now c.args.self.now.names c.in-Some.target.now (rw c.in-Some.is at c.requires))

pub fill_entry-requires : goal.fill_entry-requires
fill_entry-requires c =
    let x = c.in-Some.target.now in
    let names = c.args.self.now.names in
    rw c.at.ensures (is_slot names x.bytes (get_or c.args.slots.now x.at 0) (slot_found c.args.slots.now names x (rw c.in-Some.is at c.requires)))

pub returns-in-Some : goal.returns-in-Some
returns-in-Some c =
    let x = c.in-Some.target.now in
    rw c.in-Some.is (c.fill_entry.ensures x.bytes (rw c.at.ensures (slot_found c.args.slots.now c.args.self.now.names x (rw c.in-Some.is at c.requires))))
