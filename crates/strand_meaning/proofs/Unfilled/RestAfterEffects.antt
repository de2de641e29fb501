-- What a move shows, as items of the open tree.
use Rattle.std.proofs.Common.{◌≡◌, ℕ, true, nat_eq, List, [], ◌∷◌, Result, Ok, Err, refl, length}
use Rattle.std.proofs.lemmas.Bool.{eq-eqb}
use Rattle.serial_meaning.specs.Runs.{Run, done, run_ends_by}
use Rattle.serial_meaning.specs.Plan.{PlanView}
use Rattle.serial_meaning.specs.Eval.{Evaluation}
use Rattle.serial_meaning.specs.Open.{Item, NodeFault, Own}
use Rattle.serial_meaning.specs.declared.value.Value.{Value}
use Rattle.serial_meaning.specs.declared.event.Fault.{Fault}
use Rattle.serial_meaning.specs.declared.origin.Origin.{Origin}
use Rattle.strand_meaning.specs.Machine.{Effect, Opens, Closes, Emitted, Starts, Syncs, Loops, Frame, Machine, Reached, Stands, Gives}
use Rattle.strand_meaning.specs.Trace.{AwaitedChild}
use Rattle.strand_meaning.specs.Task.{stage_after, changed}
use Rattle.strand_meaning.specs.Rest.{rest_open}

abbrev pub effect_parts : List Effect → List AwaitedChild
effect_parts [] = []
effect_parts (Opens j ∷ ts) = effect_parts ts
effect_parts (Closes j ∷ ts) = effect_parts ts
effect_parts (Emitted e ∷ ts) = effect_parts ts
effect_parts (Starts o destination ∷ ts) = record { child = o; destination = destination; after = [] } ∷ effect_parts ts
effect_parts (Syncs ∷ ts) = effect_parts ts
effect_parts (Loops ∷ ts) = effect_parts ts

pub same-number : (n : ℕ) → nat_eq n n ≡ true
same-number n = eq-eqb n n refl

-- the innermost frame changed
pub changed-top : (change : Frame → Frame) (m : Machine) → changed (length m.below) change m ≡ record m { top = change m.top }
changed-top change m = rw (same-number (length m.below)) refl

-- what remains after a move that showed these
abbrev pub after_effects : PlanView → (Origin → Evaluation) → List ℕ → List Effect → Result Reached Fault → Run Item NodeFault Value
after_effects plan child path ts (Ok (Stands m)) = rest_open plan child path (effect_parts ts) (stage_after ts m)
after_effects plan child path ts (Ok (Gives v)) = done v
after_effects plan child path ts (Err f) = run_ends_by (Own f)
