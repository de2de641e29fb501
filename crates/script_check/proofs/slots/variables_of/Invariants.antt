use Rattle.std.proofs.Common.{◌≡◌, ℕ, List, ◌++◌, map, drop}
use Rattle.script_grammar.specs.declared.tree.Param.{Param}
use Rattle.script_check.specs.Slots.{variable_names, with_new_names}
use Rattle.script_check.proofs.slots.variables_of.Given as goal

abbrev names : List Param → List (List ℕ)
names = map (λ (q : Param). q.name.bytes)

abbrev pub invariant-loop-param : goal.invariant-loop-param
invariant-loop-param l = names l.fn.f.params ≡ l.variables ++ names (drop l.param-index l.fn.f.params)

abbrev pub invariant-loop-name : goal.invariant-loop-name
invariant-loop-name l = variable_names l.fn.f ≡ with_new_names l.variables (drop l.name-index l.named)
