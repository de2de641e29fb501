-- What holds of every core that events lead to.
use Rattle.std.proofs.Common.{◌≡◌, ◌≤◌, ℕ, ◌+◌, ◌*◌, Some, Contains, slice_get, List, [], arith}
use Rattle.script_check.specs.Valid.{IsValid}
use Rattle.serial_meaning.specs.Plan.{PlanView}
use Rattle.serial_meaning.specs.Eval.{main_origin}
use Rattle.serial_meaning.specs.declared.origin.Origin.{Origin}
use Rattle.strand_meaning.specs.Task.{start}
use Rattle.strand_meaning.proofs.ClearPlans.ClearOfValid.{clear_of_valid}
use Rattle.sched_meaning.specs.Core.{Core, all_tasks, origins_of, IsAnswered, IsRootAnswered}
use Rattle.sched_meaning.specs.Segments.{IsSegments}
use Rattle.sched_meaning.specs.Steps.{Leads}
use Rattle.sched_meaning.specs.Sound.{AreEvaluations, IsLively, OccursOnce}
use Rattle.sched_meaning.specs.declared.event.CoreEvent.{CoreEvent}
use Rattle.sched_meaning.proofs.Segments.Counted.{nothing, segments, main-comes, segments_are_unique}
use Rattle.sched_meaning.proofs.BegunOnce.Begun.{each-all}
use Rattle.sched_meaning.proofs.KeptByEvents.Kept.{IsKept, IsAnswerOf, leads-keep}
use Rattle.sched_meaning.proofs.WorkGoesOn.Lively.{lively}
use Rattle.sched_meaning.proofs.BegunOnce.Once.{never-twice, placed}

module _ (plan : PlanView) (workers : ℕ) (events : List CoreEvent) (c : Core) (valid : IsValid plan.script) (led : Leads plan workers events c) where
  pub kept : IsKept plan [] c
  kept = leads-keep plan workers events c (clear_of_valid plan valid) led

  pub answers-are : AreEvaluations plan c.answers
  answers-are = each-all (IsAnswerOf plan) c.answers kept.answers

  pub runs-within : (n : ℕ) → IsSegments plan n → c.runs ≤ n
  runs-within n is = within _ _ (kept.left 1 nothing) (segments_are_unique (start plan (main_origin plan)) _ n (main-comes plan valid) is)
    where
      within : (b r : ℕ) → 1 * c.runs + (b + r) ≡ 0 + segments (start plan (main_origin plan)) → segments (start plan (main_origin plan)) ≡ n → c.runs ≤ n
      within b r e f = omega arith

  pub goes-further : (IsRootAnswered c → ⊥) → IsLively c
  goes-further unanswered = lively plan c kept unanswered

  pub begun-once : (o : Origin) (j k : ℕ) → slice_get c.begun j ≡ Some o → slice_get c.begun k ≡ Some o → j ≡ k
  begun-once = never-twice plan c kept (clear_of_valid plan valid)

  pub stands : (o : Origin) → Contains c.begun o → (IsAnswered c o → ⊥) → OccursOnce o (origins_of (all_tasks c))
  stands = placed plan c kept (clear_of_valid plan valid)
