-- A task keeps its plan from stop to stop, and its children have it.
use Rattle.std.proofs.Common.{◌≡◌, Bool, true, false, Option, Some, None, IfSome, refl, sym, ap, ◌∙◌}
use Rattle.serial_meaning.specs.Plan.{PlanView}
use Rattle.serial_meaning.specs.declared.keep.All.{All}
use Rattle.serial_meaning.specs.declared.origin.Origin.{Origin}
use Rattle.strand_meaning.proofs.NextStops.OneSoundStop.{stops_keep_origins}
use Rattle.strand_meaning.specs.Task.{Spawn, Wait}
use Rattle.strand_machine.specs.Links.{task_give}
use Rattle.strand_machine.specs.Stops.{IsStop, IsResumed, any_cut}
use Rattle.strand_machine.specs.Tasks.{TaskView}
use Rattle.strand_machine.specs.declared.stop.Stop.TheVariants as stop
use Rattle.strand_machine.specs.declared.stop.Resumed.TheVariants as resumed
use Rattle.parallel_runner.specs.Hands.{IsUnended}

abbrev plan_of : TaskView → PlanView
plan_of t = t.task.plan

pub child_plan : {K : Type 0} (t child rest : TaskView) → IsStop {K = K} t (stop.Spawn child rest) → child.task.plan ≡ t.task.plan
child_plan t child rest at = ap plan_of at.keeps.0

pub rest_plan : {K : Type 0} (t child rest : TaskView) → IsStop {K = K} t (stop.Spawn child rest) → rest.task.plan ≡ t.task.plan
rest_plan t child rest at = (stops_keep_origins t.task (Spawn child.task.origin rest.task) at.next).0

-- A task keeps its give, and goes on after a child or a wait.
same-give : (t rest : TaskView) → rest.task.plan ≡ t.task.plan → rest.task.origin ≡ t.task.origin → rest.joins ≡ t.joins →
    task_give rest.task.plan rest.task.origin rest.joins ≡ task_give t.task.plan t.task.origin t.joins
same-give t rest plan origin joins =
    ap (λ (p : PlanView). task_give p rest.task.origin rest.joins) plan
    ∙ ap (λ (o : Origin). task_give t.task.plan o rest.joins) origin
    ∙ ap (task_give t.task.plan t.task.origin) joins

pub child_unended : {K : Type 0} (t child rest : TaskView) → t.cut ≡ None → IsStop {K = K} t (stop.Spawn child rest) → IsUnended t rest
child_unended t child rest goes at =
    let same = stops_keep_origins t.task (Spawn child.task.origin rest.task) at.next in (goes, same-give t rest same.0 same.1 at.keeps.4)

pub wait_unended : {K : Type 0} (t rest : TaskView) → t.cut ≡ None → IsStop {K = K} t (stop.Wait rest) → IsUnended t rest
wait_unended t rest goes at = let same = stops_keep_origins t.task (Wait rest.task) at.next in (goes, same-give t rest same.0 same.1 at.keeps.3)

pub child_goes_on : {K : Type 0} (t child rest : TaskView) → IsStop {K = K} t (stop.Spawn child rest) → rest.cut ≡ None
child_goes_on t child rest at = at.keeps.3

pub wait_goes_on : {K : Type 0} (t rest : TaskView) → IsStop {K = K} t (stop.Wait rest) → rest.cut ≡ None
wait_goes_on t rest at = at.keeps.2

pub wait_plan : {K : Type 0} (t rest : TaskView) → IsStop {K = K} t (stop.Wait rest) → rest.task.plan ≡ t.task.plan
wait_plan t rest at = (stops_keep_origins t.task (Wait rest.task) at.next).0

pub on_plan : (t next : TaskView) → IsResumed {K = All} t (resumed.On next) → next.task.plan ≡ t.task.plan
on_plan t next (answers, are, is_resumed, passed) = by (any_cut answers) refl
  where
    by : (cut : Bool) → any_cut answers ≡ cut → next.task.plan ≡ t.task.plan
    by false e = ap plan_of (is_resumed.whole e)
    by true e = (is_resumed.cut e).0.plan

pub still_plan : (t same : TaskView) → IsResumed {K = All} t (resumed.NotYet same) → same.task.plan ≡ t.task.plan
still_plan t same h = ap (λ x. x.plan) h.0

-- what is known of a plan is known of an equal one
pub known_too : {X : Type 0} (f : X → PlanView) (known : Option X) (p q : PlanView) → IfSome known (λ k. f k ≡ p) → q ≡ p → IfSome known (λ k. f k ≡ q)
known_too f None p q h e = tt
known_too f (Some k) p q h e = h ∙ sym e
