-- A task begins sound.
use Rattle.std.proofs.Common.{◌≡◌, ℕ, true, false, [], Option, Some, None, IfOk, Result, Ok, Err, refl, sym, ap, subst, ◌∙◌}
use Rattle.std.specs.Prelude.{is_none}
use Rattle.std.proofs.lemmas.Bool.{true≢false}
use Rattle.script_check.specs.Valid.{IsValid}
use Rattle.serial_meaning.specs.Laws.{IsOriginOf}
use Rattle.serial_meaning.specs.Plan.{PlanView}
use Rattle.serial_meaning.specs.declared.answer.Outcome.{Outcome}
use Rattle.serial_meaning.specs.declared.origin.Origin.{Origin}
use Rattle.strand_meaning.specs.Trace.{Trace, no_trace}
use Rattle.strand_meaning.specs.Sound.{IsTask}
use Rattle.strand_meaning.specs.Task as meaning
use Rattle.strand_meaning.specs.Task.{Task, start, begun_remaining}
use Rattle.strand_meaning.specs.Laws.{TasksBegin, ValidPlansAreClear}
use Rattle.meet_block.specs.Gives.{GiveView, give_of}
use Rattle.serial_meaning.specs.Answer.{AnswerTag}
use Rattle.strand_machine.specs.Links.{AreJoinNames, LinksView, JoinNames, childless, detached}
use Rattle.strand_machine.specs.Tasks.{TaskView, fresh, cut_of, remaining_of, task_of, view_of, RemainsAt, IsSound}
use Rattle.strand_machine.specs.declared.task_state.TaskState.{TaskState}
use Rattle.strand_machine.specs.declared.remaining.Remaining.{Remaining}

abbrev pub new_task_state : {K : Type 0} → LinksView → Trace → TaskState K
new_task_state links trace = record { links = links; trace = trace; values = []; waiting = false; advanced = false }

module _ (K : Type 0) (plan : PlanView) (o : Origin) (w : Remaining) (joins : JoinNames) (links : LinksView) (trace : Trace) (f : links ≡ childless plan o joins) (p : trace ≡ no_trace) (e : remaining_of plan w ≡ begun_remaining plan o) where
  same : new_task_state {K = K} links trace ≡ new_task_state {K = K} (childless plan o joins) no_trace
  same = ap (λ g. new_task_state {K = K} g trace) f ∙ ap (new_task_state {K = K} (childless plan o joins)) p

  task-is : task_of (new_task_state {K = K} (childless plan o joins) no_trace) w ≡ start plan o
  task-is = ap (λ (remaining : meaning.Remaining). record { plan = plan; origin = o; trace = no_trace; values = []; remaining = remaining; waiting = false; advanced = false }) e

  pub start-view : cut_of w ≡ None → view_of (new_task_state {K = K} links trace) w ≡ fresh plan o joins
  start-view uncut =
      ap (λ (b : TaskState K). view_of b w) same ∙ ap (λ (t : Task). record { task = t; children = []; loads = []; joins = joins; cut = cut_of w }) task-is
      ∙ ap (λ (c : Option Outcome). record { task = start plan o; children = []; loads = []; joins = joins; cut = c }) uncut

  pub start-sound : TasksBegin → ValidPlansAreClear → IsOriginOf plan o → IsValid plan.script → RemainsAt plan o w → IsSound (new_task_state {K = K} links trace) w
  start-sound tasks_begin are_clear known valid of_plan =
      subst (λ (b : TaskState K). IsSound b w) (sym same)
      (record {
        task = subst IsTask (sym task-is) (tasks_begin plan o known (are_clear plan valid));
        links = record { before = []; passed = []; same = refl; children = refl; taken = refl };
        of_plan = of_plan;
      })

-- The task that was begun, with its joins

module _ {E : Type 0} (plan : PlanView) (o : Origin) (joins : JoinNames) (v : TaskView) (e : v ≡ fresh plan o joins) where
  pub begun-fresh : (r : Result TaskView E) → IfOk r (λ (t : TaskView). t ≡ v) → IfOk r (λ (t : TaskView). t ≡ fresh plan o t.joins)
  begun-fresh (Ok t) h = h ∙ e ∙ ap (λ (u : TaskView). fresh plan o u.joins) (sym (h ∙ e))
  begun-fresh (Err x) h = tt

  pub begun-joins : (name : Option ℕ) → AreJoinNames name joins → (r : Result TaskView E) → IfOk r (λ (t : TaskView). t ≡ v) → IfOk r (λ (t : TaskView). AreJoinNames name t.joins)
  begun-joins name are (Ok t) h = subst (AreJoinNames name) (ap (λ (u : TaskView). u.joins) (sym (h ∙ e))) are
  begun-joins name are (Err x) h = tt

none-so : (name : Option ℕ) → is_none name ≡ true → name ≡ None
none-so None h = refl
none-so (Some n) h = absurd (true≢false (sym h))

-- one with a detached give is detached
detached-joins : (joins : JoinNames) → AreJoinNames None joins → joins ≡ detached
detached-joins joins are = λ i. record { parents = are.parents i; own = none-so joins.own are.own i }

pub detached_fresh : {E : Type 0} (plan same : PlanView) (o : Origin) (give : GiveView AnswerTag) (asked : AnswerTag) (r : Result TaskView E) → give ≡ give_of asked None → same ≡ plan →
    IfOk r (λ (t : TaskView). t ≡ fresh same o t.joins) → IfOk r (λ (t : TaskView). AreJoinNames give.join t.joins) → IfOk r (λ (t : TaskView). t ≡ fresh plan o detached)
detached_fresh plan same o give asked (Ok t) is of h are =
    h ∙ ap (λ (p : PlanView). fresh p o t.joins) of ∙ ap (fresh plan o) (detached-joins t.joins (subst (λ (g : GiveView AnswerTag). AreJoinNames g.join t.joins) is are))
detached_fresh plan same o give asked (Err x) is of h are = tt

-- what is known of a give that a join began
pub tag_given : (give : GiveView AnswerTag) (asked : AnswerTag) (name : Option ℕ) → give ≡ give_of asked name → give.tag ≡ asked
tag_given give asked name is = ap (λ (g : GiveView AnswerTag). g.tag) is

pub begun_under : {E : Type 0} (give : GiveView AnswerTag) (asked : AnswerTag) (name : Option ℕ) (r : Result TaskView E) → give ≡ give_of asked name → IfOk r (λ (t : TaskView). AreJoinNames give.join t.joins) →
    IfOk r (λ (t : TaskView). AreJoinNames name t.joins)
begun_under give asked name (Ok t) is are = subst (λ (g : GiveView AnswerTag). AreJoinNames g.join t.joins) is are
begun_under give asked name (Err x) is are = tt
