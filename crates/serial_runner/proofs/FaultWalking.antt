-- A stop further on the walk to an origin's fault keeps all that is met.
use Rattle.std.proofs.Common.{◌≡◌, ◌<◌, ◌≤◌, true, false, List, [], ◌∷◌, ◌++◌, Option, refl, sym, ap, ◌∙◌, subst, arith}
use Rattle.serial_meaning.specs.Answer.{AnswerView, AnswerTag}
use Rattle.serial_meaning.specs.Eval.{eval}
use Rattle.serial_meaning.specs.Plan.{PlanView}
use Rattle.serial_meaning.specs.declared.keep.All.{All}
use Rattle.serial_meaning.specs.declared.origin.Origin.{Origin}
use Rattle.strand_meaning.specs.Laws.{IsSoundStop, KeepsOrigin, LeavesFewer}
use Rattle.strand_meaning.specs.Left.{stops_left}
use Rattle.strand_meaning.specs.Rest.{evaluations}
use Rattle.strand_meaning.specs.Sound.{IsTask}
use Rattle.strand_meaning.specs.Task.{Task, start}
use Rattle.strand_meaning.proofs.NextStops.StopsLeaveFewer.{stops_fall, answers_leave_no_more}
use Rattle.strand_meaning.proofs.TakenAnswers.AnswersKeepTasks.{answers_keep_tasks}
use Rattle.strand_meaning.proofs.NextStops.OneSoundStop.{stops_are_sound, stops_keep_origins}
use Rattle.strand_machine.specs.Links.{GiveView, tags}
use Rattle.strand_machine.specs.AwaitedChildren.{awaited}
use Rattle.strand_machine.specs.Placed.{IsPlaced, latest}
use Rattle.strand_machine.specs.Stops.{stop_of, answer_tags, any_cut, with_evaluations, resumed_view, IsResumedWith}
use Rattle.strand_machine.specs.Tasks.{TaskView}
use Rattle.strand_machine.specs.declared.placed.PlacedFault.{PlacedFault}
use Rattle.strand_machine.specs.declared.placed.PlacedStop.{PlacedStop}
use Rattle.strand_machine.specs.declared.stop.Stop as stops
use Rattle.strand_machine.specs.declared.stop.Stop.TheVariants as stop
use Rattle.strand_machine.proofs.Meeting.{latest-assoc, latest-none}
use Rattle.serial_runner.specs.FaultWalks.{MeetsToEnd, AtEnd, AfterSpawn, AfterWait, OriginMeets, IsFaultWalk, FaultWalksOn, begun_fault_walk, origin_in}
use Rattle.serial_runner.specs.Observed.{AreOriginsOf}
use Rattle.serial_runner.specs.declared.fault_walk.FaultWalk.{FaultWalk}
use Rattle.serial_runner.specs.declared.fault_walk.FaultWalked.{FaultWalked}
use Rattle.serial_runner.specs.declared.fault_walk.FaultWalked.TheVariants.{Continues, Ends}
use Rattle.serial_runner.proofs.Advancing.{none-heard, resumed_whole}
use Rattle.serial_runner.proofs.Starts.{unmerged, StartsBeforeStop, stops_start}
use Rattle.serial_runner.proofs.Walking.{parts-known}

-- A walk begins with a task of which nothing is done.
pub fault-walk-begins : (plan : PlanView) (o : Origin) → IsTask (start plan o) → (w : FaultWalk) → w ≡ begun_fault_walk plan o → IsFaultWalk plan o w
fault-walk-begins plan o is w e =
    subst (IsFaultWalk plan o) (sym e) (record {
      task = is;
      idle = refl;
      goes_on = refl;
      plan_is = refl;
      origin_is = refl;
      awaits = refl;
      meets = λ later m. subst (OriginMeets plan o) (latest-none later) m;
    })

module _ (plan : PlanView) (o : Origin) (w : FaultWalk) (is : IsFaultWalk plan o w) where
  abbrev t : Task
  t = w.task.task

  -- It is a walk of its own origin.
  pub of_own : IsFaultWalk plan (origin_in w) w
  of_own = subst (λ (d : Origin). IsFaultWalk plan d w) (sym is.origin_is) is

  pub walks_as : (next : FaultWalked) → FaultWalksOn plan (origin_in w) w next → FaultWalksOn plan o w next
  walks_as next h = subst (λ (d : Origin). FaultWalksOn plan d w next) is.origin_is h

  -- The children that it awaits are origins of the plan.
  pub children_are_known : AreOriginsOf plan w.awaited
  children_are_known =
      subst (AreOriginsOf plan) (sym is.awaits) (subst (λ (p : PlanView). AreOriginsOf p (unmerged t)) is.plan_is (parts-known t.plan t.origin t.trace.unmerged is.task.awaiting))

  module _ (n : PlacedStop) (placed : IsPlaced w.task n) where
    abbrev met : Option PlacedFault
    met = latest w.met n.met

    sound : (s : stops.Stop All) → n.stop ≡ s → IsSoundStop t (stop_of s)
    sound s e = subst (λ (x : stops.Stop All). IsSoundStop t (stop_of x)) e (stops_are_sound t (stop_of n.stop) is.task placed.stop.next)

    same : (s : stops.Stop All) → n.stop ≡ s → KeepsOrigin t (stop_of s)
    same s e = subst (λ (x : stops.Stop All). KeepsOrigin t (stop_of x)) e (stops_keep_origins t (stop_of n.stop) placed.stop.next)

    fewer : (s : stops.Stop All) → n.stop ≡ s → LeavesFewer t (stop_of s)
    fewer s e = subst (λ (x : stops.Stop All). LeavesFewer t (stop_of x)) e (stops_fall t (stop_of n.stop) is.task is.idle placed.stop.next)

    starts : (s : stops.Stop All) → n.stop ≡ s → StartsBeforeStop t (stop_of s)
    starts s e = subst (λ (x : stops.Stop All). StartsBeforeStop t (stop_of x)) e (stops_start t (stop_of n.stop) is.task placed.stop.next)

    at-stop : (s : stops.Stop All) → n.stop ≡ s → IsPlaced w.task (record n { stop = s })
    at-stop s e = subst (λ (x : stops.Stop All). IsPlaced w.task (record n { stop = x })) e placed

    meets-so : (later : Option PlacedFault) → MeetsToEnd t (latest n.met later) → OriginMeets plan o (latest met later)
    meets-so later m = subst (OriginMeets plan o) (latest-assoc w.met n.met later) (is.meets (latest n.met later) m)

    module _ (child rest : TaskView) (stopped : n.stop ≡ stop.Spawn child rest) where
      abbrev s : stops.Stop All
      s = stop.Spawn child rest

      kept : KeepsOrigin t (stop_of s)
      kept = same s stopped

      less : LeavesFewer t (stop_of s)
      less = fewer s stopped

      task : IsSoundStop t (stop_of s)
      task = sound s stopped

      more : StartsBeforeStop t (stop_of s)
      more = starts s stopped

      there : IsPlaced w.task (record n { stop = s })
      there = at-stop s stopped

      -- The walk goes on with the rest, which awaits the child too.
      pub faults_by_child : (os : List Origin) → os ≡ w.awaited ++ child.task.origin ∷ [] → (after : Option PlacedFault) → after ≡ met → FaultWalksOn plan o w (Continues (record { task = rest; awaited = os; met = after }))
      faults_by_child os a after e = (subst (λ (f : Option PlacedFault). IsFaultWalk plan o (record { task = rest; awaited = os; met = f })) (sym e) walk, less.0)
        where
          walk : IsFaultWalk plan o (record { task = rest; awaited = os; met = met })
          walk = record {
            task = task.1;
            idle = less.1;
            goes_on = there.stop.keeps.3;
            plan_is = kept.0 ∙ is.plan_is;
            origin_is = kept.1 ∙ is.origin_is;
            awaits = a ∙ ap (λ (l : List Origin). l ++ child.task.origin ∷ []) is.awaits ∙ sym more.0;
            meets = λ later m. meets-so later (AfterSpawn child.task.origin rest.task n.met later there.meets m refl);
          }

    module _ (rest : TaskView) (stopped : n.stop ≡ stop.Wait rest) where
      abbrev at : stops.Stop All
      at = stop.Wait rest

      wait-kept : KeepsOrigin t (stop_of at)
      wait-kept = same at stopped

      wait-less : LeavesFewer t (stop_of at)
      wait-less = fewer at stopped

      wait-task : IsSoundStop t (stop_of at)
      wait-task = sound at stopped

      wait-starts : StartsBeforeStop t (stop_of at)
      wait-starts = starts at stopped

      wait-there : IsPlaced w.task (record n { stop = at })
      wait-there = at-stop at stopped

      pub then_waits : rest.task.waiting ≡ true
      then_waits = wait-less.1

      -- These are the answers that it awaits.
      pub then_has_answers : (answers : List AnswerView) → answer_tags answers ≡ tags plan w.awaited → answer_tags answers ≡ tags rest.task.plan (awaited rest.task.trace.unmerged)
      then_has_answers answers h = h ∙ ap (tags plan) (is.awaits ∙ sym wait-starts) ∙ ap (λ (p : PlanView). tags p (unmerged rest.task)) (sym (wait-kept.0 ∙ is.plan_is))

      -- The walk goes on with the answers, and awaits no child.
      pub faults_by_wait : (answers : List AnswerView) → any_cut answers ≡ false → (v : TaskView) → IsResumedWith answers rest v → (os : List Origin) → os ≡ [] → (after : Option PlacedFault) → after ≡ met → FaultWalksOn plan o w (Continues (record { task = v; awaited = os; met = after }))
      faults_by_wait answers whole v h os e after g =
          subst (λ (f : Option PlacedFault). FaultWalksOn plan o w (Continues (record { task = v; awaited = os; met = f }))) (sym g)
          (subst (λ (u : TaskView). FaultWalksOn plan o w (Continues (record { task = u; awaited = os; met = met }))) (sym (resumed_whole answers rest v whole h)) (walk, left))
        where
          no_more : stops_left (with_evaluations rest) ≤ stops_left rest.task
          no_more = answers_leave_no_more rest.task wait-task then_waits

          left : stops_left (with_evaluations rest) < stops_left t
          left = let l : stops_left rest.task < stops_left t = wait-less.0 in omega (arith, l, no_more)

          none : (with_evaluations rest).trace.unmerged ≡ []
          none = none-heard rest.task.trace.unmerged (evaluations (eval rest.task.plan) rest.task.trace.unmerged) _ refl

          walk : IsFaultWalk plan o (record { task = resumed_view rest; awaited = os; met = met })
          walk = record {
            task = answers_keep_tasks rest.task wait-task;
            idle = refl;
            goes_on = wait-there.stop.keeps.2;
            plan_is = wait-kept.0 ∙ is.plan_is;
            origin_is = wait-kept.1 ∙ is.origin_is;
            awaits = e ∙ ap awaited (sym none);
            meets = λ later m. meets-so later (AfterWait rest.task n.met later wait-there.meets m refl);
          }

    -- The task has ended.
    pub fault_walk_ends : (answer : AnswerView) (give : GiveView AnswerTag) → n.stop ≡ stop.Done answer give → (after : Option PlacedFault) → after ≡ met → FaultWalksOn plan o w (Ends after)
    fault_walk_ends answer give stopped after e =
        let there = at-stop (stop.Done answer give) stopped in
        subst (OriginMeets plan o) (sym e) (is.meets n.met (AtEnd answer.out answer.outcome there.meets))
