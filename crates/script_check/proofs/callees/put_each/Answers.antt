use Rattle.std.proofs.Common.{◌≡◌, ◌≤◌, length, ap, ◌∙◌, arith, rules}
use Rattle.std.specs.Prelude.{unwrap_or}
use Rattle.script_check.specs.Functions.{first_named}
use Rattle.script_check.specs.Slots.{function_names, slot_in, with_entry}
use Rattle.script_check.proofs.FoundSlots.Callees.{first-slot}
use Rattle.script_check.proofs.FoundSlots.Collected.{one-placed}
use Rattle.script_check.proofs.Tables.Indexed.{number_within}
use Rattle.script_check.proofs.callees.put_each.Goals as goal

pub overflow_cast-number : goal.overflow_cast-number
overflow_cast-number c =
    let fs = c.args.functions.now in
    let got : c.get.result ≡ first_named fs c.name-item.result.bytes = search rules in
    let number : c.unwrap_or-number.result ≡ unwrap_or (first_named fs c.name-item.result.bytes) 0 = c.unwrap_or-number.ensures ∙ ap (λ o. unwrap_or o 0) got in
    let within : c.unwrap_or-number.result ≤ length fs = number_within fs c.name-item.result.bytes c.unwrap_or-number.result number in
    let few : length fs ≤ 1024 = c.requires.few in
    omega (arith, within, few)

pub loop-name-preserved : goal.loop-name-preserved
loop-name-preserved c =
    let names = function_names c.args.functions.now in
    let x = c.name-item.result in
    let next = c.set_entry.new.table.items in
    let put : next ≡ with_entry c.loop-name.table.items x.at c.unwrap_or-number.result = search rules in
    let got : c.get.result ≡ first_named c.args.functions.now x.bytes = search rules in
    let number : c.unwrap_or-number.result ≡ unwrap_or (slot_in names x.bytes) 0 = c.unwrap_or-number.ensures ∙ ap (λ o. unwrap_or o 0) (got ∙ first-slot c.args.functions.now x.bytes) in
    c.loop-name.invariant
    ∙ one-placed names c.args.called.now c.loop-name.name-index x c.loop-name.table.items next c.loop-name-test.true c.name-item.is (put ∙ ap (with_entry c.loop-name.table.items x.at) number)
