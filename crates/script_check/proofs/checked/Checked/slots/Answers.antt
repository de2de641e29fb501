use Rattle.std.proofs.Common.{◌≡◌, ℕ, List, sym, ap, ◌∙◌}
use Rattle.script_grammar.specs.declared.tree.Script.{Script}
use Rattle.script_check.specs.declared.checked.CheckedScript.{CheckedScript}
use Rattle.script_check.specs.Slots.{finds_all, table_of_slots}
use Rattle.script_check.proofs.checked.Checked.slots.Goals as goal

pub returns-clause-table : goal.returns-clause-table
returns-clause-table c = c.as_slice.ensures ∙ ap (λ (k : CheckedScript). k.slots) c.deref.ensures ∙ c.self.invariant.placed ∙ ap (λ (s : Script). table_of_slots s.functions) c.self.view_is

pub returns-clause-found : goal.returns-clause-found
returns-clause-found c =
    let kept = c.self.inside.kept.value in
    let all : c.as_slice.result.now ≡ kept.slots = c.as_slice.ensures ∙ ap (λ (k : CheckedScript). k.slots) c.deref.ensures in
    ap (λ (t : List ℕ). finds_all t c.args.self.now.functions) all ∙ ap (λ (s : Script). finds_all kept.slots s.functions) (sym c.self.view_is) ∙ c.self.invariant.found
