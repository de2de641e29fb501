use Rattle.std.proofs.Common.{◌≡◌, ◌∙◌, rules}
use Rattle.std.specs.Prelude.{unwrap_or}
use Rattle.script_check.specs.Slots.{slot_in, with_entry}
use Rattle.script_check.proofs.FoundSlots.Collected.{one-placed}
use Rattle.script_check.proofs.slots.put_each.Goals as goal

pub loop-name-preserved : goal.loop-name-preserved
loop-name-preserved c =
    let names = c.args.variables.now in
    let x = c.name-item.result in
    let next = c.set_entry.new.table.items in
    let is : next ≡ with_entry c.loop-name.table.items x.at (unwrap_or (slot_in names x.bytes) 0) = search rules in
    c.loop-name.invariant ∙ one-placed names c.args.named.now c.loop-name.name-index x c.loop-name.table.items next c.loop-name-test.true c.name-item.is is
