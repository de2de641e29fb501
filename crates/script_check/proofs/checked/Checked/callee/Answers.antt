use Rattle.std.proofs.Common.{◌≡◌, ap, ◌∙◌}
use Rattle.script_grammar.specs.declared.tree.Script.{Script}
use Rattle.script_check.specs.declared.checked.CheckedScript.{CheckedScript}
use Rattle.script_check.specs.Slots.{table_of_callees}
use Rattle.script_check.proofs.FoundSlots.Callees.{called-number}
use Rattle.script_check.proofs.checked.Checked.callee.Goals as goal

pub returns : goal.returns
returns c =
    let table : c.as_slice.result.now ≡ table_of_callees c.args.self.now.functions =
    c.as_slice.ensures ∙ ap (λ (k : CheckedScript). k.callees) c.deref.ensures ∙ c.self.invariant.called ∙ ap (λ (s : Script). table_of_callees s.functions) c.self.view_is in
    called-number c.args.self.now.functions c.as_slice.result.now c.args.name.now c.from.result table c.requires c.from.ensures
