use Rattle.std.proofs.Common.{ap, ◌∙◌}
use Rattle.script_grammar.specs.declared.tree.Script.{Script}
use Rattle.script_check.specs.declared.checked.CheckedScript.{CheckedScript}
use Rattle.script_check.specs.Functions.{first_named, main_name}
use Rattle.script_check.specs.Tables.{table_of}
use Rattle.script_check.proofs.Tables.Indexed.{has_main, main_within}
use Rattle.script_check.proofs.checked.Checked.main.Goals as goal

pub returns-clause-main : goal.returns-clause-main
returns-clause-main c =
    let kept = ap (λ (k : CheckedScript). (table_of k.first.map).what main_name) c.deref.ensures in
    has_main c.self.inside.kept.value.script c.get.result c.unwrap_or.result c.self.invariant.valid (c.get.ensures ∙ kept ∙ c.self.invariant.index main_name) c.unwrap_or.ensures
    ∙ ap (λ (s : Script). first_named s.functions main_name) c.self.view_is

pub returns-clause-within : goal.returns-clause-within
returns-clause-within c = main_within c.args.self.now.functions c.unwrap_or.result (returns-clause-main c)
