use Rattle.std.proofs.Common.{◌≡◌, List, Some, sym, ap, subst, ◌∙◌}
use Rattle.script_grammar.specs.declared.tree.Function.{Function}
use Rattle.script_check.specs.Functions.{first_named}
use Rattle.script_check.specs.Slots.{finds_callee}
use Rattle.serial_meaning.specs.Plan.{PlanView, functions_of}
use Rattle.serial_meaning.proofs.OriginFaults.Callees.{number_found}
use Rattle.serial_meaning.proofs.plan.Plan.callee.Goals as goal

pub callee-requires : goal.callee-requires
callee-requires c = ap (λ (p : PlanView). finds_callee (functions_of p) c.args.name.now) c.self.view_is ∙ c.requires

pub returns : goal.returns
returns c =
    let fs : c.self.inside.checked.functions ≡ functions_of c.args.self.now = ap (λ (p : PlanView). functions_of p) c.self.view_is in
    sym (number_found (functions_of c.args.self.now) c.args.name.now.bytes c.callee.result
    (subst (λ (l : List Function). first_named l c.args.name.now.bytes ≡ Some c.callee.result) fs (sym c.callee.ensures)))
