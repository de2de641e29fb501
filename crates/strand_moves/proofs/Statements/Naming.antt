-- Whose variables a frame's are, after a move that changes some of what they hold.
use Rattle.std.proofs.Common.{◌≡◌, ℕ, List, Option, reverse, sym, ap, subst, ◌∙◌}
use Rattle.std.proofs.lemmas.List.Elements.{All-cons, All-head, All-same, All-tail}
use Rattle.script_grammar.specs.declared.tree.Name.{Name}
use Rattle.serial_meaning.specs.Functions.{function_at}
use Rattle.serial_meaning.specs.Plan.{PlanView, functions_of}
use Rattle.serial_meaning.specs.Values.{Env}
use Rattle.strand_values.specs.Environments.{EnvironmentView, with_variables}
use Rattle.strand_moves.specs.declared.frame.Frame.{Frame}
use Rattle.strand_moves.specs.declared.instance_parts.InstanceParts.{InstanceParts}
use Rattle.strand_moves.specs.FastPath.{StaysThere}
use Rattle.strand_moves.specs.InstanceParts.{IsNamed, KeepsNames, TargetsAreNamed}

-- what is left of an environment of which variables were changed
module _ (new old : EnvironmentView) (vs : Env) (is : new ≡ with_variables old vs) where
  pub names-stay : new.names ≡ old.names
  names-stay = ap (λ (e : EnvironmentView). e.names) is

  pub variables-are : new.variables ≡ vs
  variables-are = ap (λ (e : EnvironmentView). e.variables) is

module _ (plan : PlanView) where
  pub same-named : (old new : Frame) → new.function ≡ old.function → new.env.names ≡ old.env.names → IsNamed plan old → IsNamed plan new
  same-named old new function names h =
      record { function = h.function; of_plan = ap (λ (f : ℕ). function_at (functions_of plan) f) function ∙ h.of_plan; names = names ∙ h.names }

  pub top-named : (old new : InstanceParts) → new.below.items ≡ old.below.items → new.top.function ≡ old.top.function → new.top.target ≡ old.top.target → new.top.env.names ≡ old.top.env.names → KeepsNames plan old new
  top-named old new below function target names h =
      record {
        each =
            All-cons (IsNamed plan) new.top new.below.items (same-named old.top new.top function names (All-head (IsNamed plan) old.top old.below.items h.each))
            (All-same (IsNamed plan) new.below.items old.below.items below (All-tail (IsNamed plan) old.top old.below.items h.each));
        targets =
            subst (λ (t : Option Name). TargetsAreNamed plan t (reverse new.below.items)) (sym target)
            (subst (λ (frames : List Frame). TargetsAreNamed plan old.top.target (reverse frames)) (sym below) h.targets);
      }

  pub there-named : (old new : InstanceParts) → StaysThere old new → KeepsNames plan old new
  there-named old new there = top-named old new there.below there.function there.target there.names
