use Rattle.std.proofs.Common.{◌≡◌, ◌≤◌, length, ap, ◌∙◌, rules}
use Rattle.std.proofs.lemmas.List.Elements.{All-same}
use Rattle.script_grammar.specs.declared.tree.Function.{Function}
use Rattle.script_check.specs.Slots.{each_names, finds_all, table_of_callees, table_of_slots, variable_names}
use Rattle.script_check.specs.Rules.{most_variables}
use Rattle.script_check.specs.Spawns.{each_spawns}
use Rattle.script_check.proofs.FoundSlots.Few.{variables_are_few}
use Rattle.script_check.proofs.FoundSlots.Found.{slots_are_found}
use Rattle.script_check.proofs.checked.keep_valid.Goals as goal

pub slots-requires : goal.slots-requires
slots-requires c =
    All-same (λ (f : Function). length (variable_names f) ≤ most_variables) c.as_slice-functions.result.now c.args.script.functions c.as_slice-functions.ensures (variables_are_few c.args.script c.requires.valid)

pub checked_of-requires : goal.checked_of-requires
checked_of-requires c =
    let script = c.args.script in
    let spawn : c.in_ok-spawns.spawns ≡ each_spawns script.functions = search rules in
    let variables : c.in_ok-names.names ≡ each_names script.functions = c.in_ok-names.ensures.names ∙ ap each_names c.as_slice-functions.ensures in
    let made : c.in_ok-names.slots ≡ table_of_slots script.functions = c.in_ok-names.ensures.slots ∙ ap table_of_slots c.as_slice-functions.ensures in
    let called : c.in_ok-callees.callees ≡ table_of_callees script.functions = c.in_ok-callees.ensures ∙ ap table_of_callees c.as_slice-functions.ensures in
    record {
      valid = c.requires.valid;
      text = c.requires.text;
      index = c.requires.index;
      spawn = spawn;
      variables = variables;
      placed = made;
      called = called;
      found = ap (λ t. finds_all t script.functions) made ∙ slots_are_found script c.requires.text c.requires.valid;
    }
