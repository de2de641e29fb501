-- Where tasks stop, by the laws of tasks.
use Rattle.std.proofs.Common.{◌≡◌, Bool, true, false, List, [], ◌∷◌, ◌++◌, refl, sym, ap, ◌∙◌, subst}
use Rattle.serial_meaning.specs.Answer.{AnswerTag, AnswerView}
use Rattle.serial_meaning.specs.Eval.{eval, main_origin}
use Rattle.serial_meaning.specs.Laws.{IsOriginOf, Main}
use Rattle.serial_meaning.specs.Plan.{PlanView}
use Rattle.serial_meaning.specs.declared.keep.All.{All}
use Rattle.serial_meaning.specs.declared.origin.Origin.{Origin}
use Rattle.strand_meaning.specs.Clear.{IsClearPlan}
use Rattle.strand_meaning.specs.Laws.{IsSoundStop, KeepsOrigin, LeavesFewer}
use Rattle.strand_meaning.specs.Rest.{evaluations}
use Rattle.strand_meaning.specs.Task.{Stop, Spawn, Wait}
use Rattle.strand_meaning.proofs.SoundSteps.StepsKeepTasks.{tasks_begin}
use Rattle.strand_meaning.proofs.NextStops.StopsLeaveFewer.{stops_fall}
use Rattle.strand_meaning.proofs.NextStops.OneSoundStop.{stops_are_sound, stops_keep_origins}
use Rattle.serial_runner.proofs.Advancing.{none-heard}
use Rattle.serial_runner.proofs.Starts.{StartsBeforeStop, stops_start}
use Rattle.strand_machine.specs.AwaitedChildren as children
use Rattle.strand_machine.specs.Links.{GiveView, tag, tags}
use Rattle.strand_machine.specs.Stops.{IsStop, Advances, IsResumed, IsResumedWith, answer_tags, any_cut}
use Rattle.strand_machine.specs.Tasks.{TaskView, fresh}
use Rattle.strand_machine.specs.declared.stop.Resumed.TheVariants.{On}
use Rattle.strand_machine.specs.declared.stop.Stop as stop_type
use Rattle.strand_machine.specs.declared.stop.Stop.TheVariants as stop
use Rattle.test_tasks.specs.Stopping.{IsIdle, StopsAt, awaited}

-- The origin of a whole run is one of its plan's.
pub main_known : (plan same : PlanView) (o : Origin) → same ≡ plan → o ≡ main_origin same → IsOriginOf plan o
main_known plan same o h e = subst (IsOriginOf plan) (sym (e ∙ ap main_origin h)) Main

-- A task of which nothing is done is idle.
begun : (plan : PlanView) (o : Origin) (t : TaskView) → IsOriginOf plan o → IsClearPlan plan → t ≡ fresh plan o t.joins → IsIdle t × (t.task.plan ≡ plan)
begun plan o t known clear e = subst (λ (v : TaskView). IsIdle v × (v.task.plan ≡ plan)) (sym e) (record { task = tasks_begin plan o known clear; idle = refl; goes_on = refl }, refl)

pub main_idle : (plan : PlanView) (t : TaskView) → IsClearPlan plan → t ≡ fresh plan (main_origin plan) t.joins → IsIdle t
main_idle plan t clear e = (begun plan (main_origin plan) t Main clear e).0

pub awaits_none_yet : (plan : PlanView) (t : TaskView) → t ≡ fresh plan (main_origin plan) t.joins → awaited t ≡ []
awaits_none_yet plan t e = ap awaited e

stops : (t : TaskView) (s : stop_type.Stop All) → IsIdle t → IsStop t s → StopsAt t s
stops t (stop.Spawn child rest) is at =
    let to : Stop = Spawn child.task.origin rest.task in
    let sound : IsSoundStop t.task to = stops_are_sound t.task to is.task at.next in
    let same : KeepsOrigin t.task to = stops_keep_origins t.task to at.next in
    let fewer : LeavesFewer t.task to = stops_fall t.task to is.task is.idle at.next in
    let more : StartsBeforeStop t.task to = stops_start t.task to is.task at.next in
    let child_begun = begun t.task.plan child.task.origin child sound.0 is.task.clear at.keeps.0 in
    (child_begun.0, child_begun.1, record { task = sound.1; idle = fewer.1; goes_on = at.keeps.3 }, same.0, more.0)
stops t (stop.Wait rest) is at =
    let to : Stop = Wait rest.task in
    let same : KeepsOrigin t.task to = stops_keep_origins t.task to at.next in
    let fewer : LeavesFewer t.task to = stops_fall t.task to is.task is.idle at.next in
    let no_more : StartsBeforeStop t.task to = stops_start t.task to is.task at.next in
    (fewer.1, same.0, no_more)
stops t (stop.Done answer give) is at =
    (at.keeps.0, at.keeps.1, ap (λ (p : PlanView). tag p answer.origin) at.keeps.0 ∙ ap (tag t.task.plan) at.keeps.1 ∙ sym (ap (λ (g : GiveView AnswerTag). g.tag) at.keeps.2))

pub stopped : (t : TaskView) (s : stop_type.Stop All) → IsIdle t → Advances t s → StopsAt t s
stopped t s is at = stops t s is (at.goes_on is.goes_on)

-- A task that began one child, or two, awaits them.
pub one_awaited : (none one : List Origin) (child : Origin) → none ≡ [] → one ≡ none ++ child ∷ [] → one ≡ child ∷ []
one_awaited none one child n h = h ∙ ap (λ (os : List Origin). os ++ child ∷ []) n

pub two_awaited : (none one two waits : List Origin) (first second : Origin) → none ≡ [] → one ≡ none ++ first ∷ [] → two ≡ one ++ second ∷ [] → waits ≡ two → waits ≡ first ∷ second ∷ []
two_awaited none one two waits first second n h k w = w ∙ k ∙ ap (λ (os : List Origin). os ++ second ∷ []) (one_awaited none one first n h)

-- Answers of these two origins, under this plan, have their tags.
pub tags_of_two : (plan : PlanView) (a b : AnswerView) (os : List Origin) → a.plan ≡ plan → b.plan ≡ plan → os ≡ a.origin ∷ b.origin ∷ [] → answer_tags (a ∷ b ∷ []) ≡ tags plan os
tags_of_two plan a b os e f h = rw (e, f, h) refl

-- A task that took its children's answers awaits none.
is_resumed : (answers : List AnswerView) (t next : TaskView) (c : Bool) → any_cut answers ≡ c → IsResumedWith answers t next → awaited next ≡ []
is_resumed answers t next false e h =
    ap awaited (h.whole e) ∙ ap children.awaited (none-heard t.task.trace.unmerged (evaluations (eval t.task.plan) t.task.trace.unmerged) _ refl)
is_resumed answers t next true e h = ap children.awaited (h.cut e).0.unmerged

pub resumes : (answers : List AnswerView) (t next : TaskView) → IsResumedWith answers t next → awaited next ≡ []
resumes answers t next h = is_resumed answers t next (any_cut answers) refl h

pub resumed_on : (t next : TaskView) → IsResumed {K = All} t (On next) → awaited next ≡ []
resumed_on t next h = resumes h.0 _ next h.2
