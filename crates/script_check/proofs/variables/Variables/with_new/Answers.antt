use Rattle.std.proofs.Common.{◌≡◌, false, true, sym, ◌∙◌, rules}
use Rattle.std.specs.Prelude.{is_some}
use Rattle.std.proofs.lemmas.Result.{IfOk-weaker}
use Rattle.script_check.specs.Slots.{slot_in}
use Rattle.script_check.specs.Rules.{most_variables}
use Rattle.script_check.proofs.Tables.SlotIndex.{room-for-new, with-new, with-old}
use Rattle.script_check.proofs.variables.Variables.with_new.Goals as goal

pub with-requires : goal.with-requires
with-requires c =
    let new : is_some (slot_in c.args.self c.args.name.now) ≡ false = search rules in
    room-for-new c.args.self c.args.name.now most_variables new c.requires

pub returns : goal.returns
returns c =
    let new : is_some (slot_in c.args.self c.args.name.now) ≡ false = search rules in
    IfOk-weaker c.with.result _ _ (λ more e. e ∙ sym (with-new c.args.self c.args.name.now new)) c.with.ensures

pub returns-then-is_some : goal.returns-then-is_some
returns-then-is_some c =
    let old : is_some (slot_in c.args.self c.args.name.now) ≡ true = search rules in
    sym (with-old c.args.self c.args.name.now old)
