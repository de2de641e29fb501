-- The origin of a whole run is one of its plan's.
use Rattle.std.proofs.Common.{◌≡◌, sym, ap, ◌∙◌, subst}
use Rattle.serial_meaning.specs.Eval.{main_origin}
use Rattle.serial_meaning.specs.Laws.{IsOriginOf, Main}
use Rattle.serial_meaning.specs.Plan.{PlanView}
use Rattle.serial_meaning.specs.declared.origin.Origin.{Origin}

pub main_known : (plan same : PlanView) (o : Origin) → same ≡ plan → o ≡ main_origin same → IsOriginOf plan o
main_known plan same o h e = subst (IsOriginOf plan) (sym (e ∙ ap main_origin h)) Main
