-- A stop further on the walk through an instance keeps all that is to be seen of it.
use Rattle.std.proofs.Common.{◌≡◌, ◌<◌, ◌≤◌, ℕ, true, false, ◌⊎◌, inl, inr, List, [], ◌∷◌, ◌++◌, Option, refl, sym, ap, ◌∙◌, subst, arith}
use Rattle.std.specs.Prelude.{Contains}
use Rattle.serial_meaning.specs.Answer.{AnswerView, AnswerTag}
use Rattle.serial_meaning.specs.Eval.{eval, path_of}
use Rattle.serial_meaning.specs.Laws.{IsOriginOf}
use Rattle.serial_meaning.specs.Plan.{PlanView}
use Rattle.serial_meaning.specs.declared.keep.All.{All}
use Rattle.serial_meaning.specs.declared.event.Event.{Event}
use Rattle.serial_meaning.specs.declared.event.Fault.{Fault}
use Rattle.serial_meaning.specs.declared.origin.Origin.{Origin}
use Rattle.strand_meaning.specs.Laws.{IsSameTask, IsSoundStop, KeepsOrigin, LeavesFewer, ObservationBegins, ObservationGoesOn, AnswersShowNothing}
use Rattle.strand_meaning.specs.Left.{stops_left}
use Rattle.strand_meaning.specs.Observation.{IsInstanceOrigin, no_observation, also, IsOnWay, OnWay, IsAllObserved}
use Rattle.strand_meaning.specs.Trace.{AwaitedChild}
use Rattle.strand_meaning.specs.Rest.{evaluations}
use Rattle.strand_meaning.specs.Sound.{AreSoundChildren, IsTask}
use Rattle.strand_meaning.specs.Task.{Task, start}
use Rattle.serial_meaning.proofs.OriginFaults.Origins.{cons-contained}
use Rattle.strand_meaning.proofs.NextStops.StopsLeaveFewer.{stops_fall, answers_leave_no_more}
use Rattle.strand_meaning.proofs.TakenAnswers.AnswersKeepTasks.{answers_keep_tasks}
use Rattle.strand_meaning.proofs.NextStops.OneSoundStop.{stops_are_sound, stops_keep_origins}
use Rattle.strand_machine.specs.Links.{GiveView, tags}
use Rattle.strand_machine.specs.Observed.{IsObserved}
use Rattle.strand_machine.specs.AwaitedChildren.{awaited}
use Rattle.strand_machine.specs.Stops.{stop_of, answer_tags, any_cut, with_evaluations, resumed_view, IsResumedWith}
use Rattle.strand_machine.specs.Tasks.{TaskView}
use Rattle.strand_machine.specs.declared.stop.Stop as stops
use Rattle.strand_machine.specs.declared.stop.Stop.TheVariants as stop
use Rattle.strand_machine.specs.declared.observe.ObservedStop.{ObservedStop}
use Rattle.strand_machine.specs.declared.probe.StrandProbe.{StrandProbe}
use Rattle.serial_runner.specs.Nodes.{IsBelow}
use Rattle.serial_runner.specs.Observed.{with_observation, with_child, observed_on, begun_walk, origin_of, AreOriginsOf, IsWalk, IsSeen, is_over, WalksOn}
use Rattle.serial_runner.specs.declared.observed.ObservedInstance.{ObservedInstance}
use Rattle.serial_runner.specs.declared.walk.NodeWalk.{NodeWalk}
use Rattle.serial_runner.specs.declared.walk.Walked.{Walked}
use Rattle.serial_runner.specs.declared.walk.Walked.TheVariants.{Continues, Ends}
use Rattle.serial_runner.proofs.Observing.{seen-with, seen_child, seen_none, whole_seen, over_seen}
use Rattle.serial_runner.proofs.Showing.{ShowsStop, stops_show}
use Rattle.serial_runner.proofs.Advancing.{none-heard, resumed_whole}
use Rattle.serial_runner.proofs.Starts.{StartsBeforeStop, unmerged, stops_start}

-- Each child that a task awaits is an origin of its plan.
pub parts-known : (plan : PlanView) (o : Origin) (ps : List AwaitedChild) → AreSoundChildren plan o ps → AreOriginsOf plan (awaited ps)
parts-known plan o [] h c there = absurd (omega (arith, there.1))
parts-known plan o (p ∷ ps) h c there = from (cons-contained p.child c (awaited ps) there) (parts-known plan o ps h.1 c)
  where
    from : (p.child ≡ c) ⊎ Contains (awaited ps) c → (Contains (awaited ps) c → IsOriginOf plan c) → IsOriginOf plan c
    from (inl e) later = subst (IsOriginOf plan) e h.0.known
    from (inr d) later = later d

module _ (plan : PlanView) (o : Origin) (j : List ℕ) (w : NodeWalk) (is : IsWalk plan o j w) where
  abbrev t : Task
  t = w.task.task

  -- It is a walk of its own origin.
  pub of_itself : IsWalk plan (origin_of w) j w
  of_itself = subst (λ (d : Origin). IsWalk plan d j w) (sym is.origin_is) is

  pub walks_on_as : (next : Walked) → WalksOn plan (origin_of w) j w next → WalksOn plan o j w next
  walks_on_as next h = subst (λ (d : Origin). WalksOn plan d j w next) is.origin_is h

  pub of_instance : IsInstanceOrigin t.origin
  of_instance = subst IsInstanceOrigin (sym is.origin_is) is.instance

  -- The children that it awaits are origins of the plan.
  pub children_known : AreOriginsOf plan w.awaited
  children_known =
      subst (AreOriginsOf plan) (sym is.awaits) (subst (λ (p : PlanView). AreOriginsOf p (unmerged t)) is.plan_is (parts-known t.plan t.origin t.trace.unmerged is.task.awaiting))

  module _ (s : stops.Stop All) (probe : StrandProbe) (events : List Event) (fault child_fault : Option Fault) (observed_stop : IsObserved w.task j w.observed.probe (record { stop = s; probe = probe; events = events; fault = fault; child_fault = child_fault })) where
    -- what is seen, but for a child that was begun
    observation-seen : (observed : ObservedInstance) → observed ≡ with_observation probe events fault child_fault w.observed → observed ≡ record (observed_on (path_of o) j (also is.observation observed_stop.observation)) { child = (observed_on (path_of o) j is.observation).child }
    observation-seen observed e =
        e ∙ seen-with (path_of o) j is.observation observed_stop.observation w.observed probe events fault child_fault is.says observed_stop.probe observed_stop.events observed_stop.fault observed_stop.child_fault

    shown : ShowsStop observed_stop.observation.items (stop_of s)
    shown = stops_show t observed_stop.observation (stop_of s) is.task of_instance observed_stop.shows

    sound : IsSoundStop t (stop_of s)
    sound = stops_are_sound t (stop_of s) is.task observed_stop.stop.next

    same : KeepsOrigin t (stop_of s)
    same = stops_keep_origins t (stop_of s) observed_stop.stop.next

    fewer : LeavesFewer t (stop_of s)
    fewer = stops_fall t (stop_of s) is.task is.idle observed_stop.stop.next

    starts : StartsBeforeStop t (stop_of s)
    starts = stops_start t (stop_of s) is.task observed_stop.stop.next

    goes-on : ObservationGoesOn → OnWay (also is.observation observed_stop.observation) t (stop_of s)
    goes-on go = go t is.observation observed_stop.observation (stop_of s) is.task of_instance is.on observed_stop.shows

    -- Where nothing more counts, and this task is what is left, all that is to be seen of it is seen.
    all-seen : IsBelow (path_of o) j → (u : Task) → IsSameTask t u → IsOnWay (also is.observation observed_stop.observation) u → (observed : ObservedInstance) → is_over observed ≡ true → observed ≡ observed_on (path_of o) j (also is.observation observed_stop.observation) → IsSeen plan o j observed
    all-seen below u same way observed over says = over_seen plan o j is.instance below (also is.observation observed_stop.observation) u (same.0 ∙ is.plan_is) (same.1 ∙ is.origin_is) way observed says over

  module _ (n : ObservedStop) (as_observed : IsObserved w.task j w.observed.probe n) (child rest : TaskView) (stopped : n.stop ≡ stop.Spawn child rest) where
    abbrev s : stops.Stop All
    s = stop.Spawn child rest

    observed_stop : IsObserved w.task j w.observed.probe (record n { stop = s })
    observed_stop = subst (λ (to : stops.Stop All). IsObserved w.task j w.observed.probe (record n { stop = to })) stopped as_observed

    -- The child is an origin of the plan.
    pub child_known : IsOriginOf plan child.task.origin
    child_known = let k : IsSoundStop t (stop_of s) = sound s n.probe n.events n.fault n.child_fault observed_stop in subst (λ (p : PlanView). IsOriginOf p child.task.origin) is.plan_is k.0

    -- The walk goes on with the rest, which awaits the child too.
    pub walks_by_child : ObservationGoesOn → (os : List Origin) (before observed : ObservedInstance) → os ≡ w.awaited ++ child.task.origin ∷ [] → before ≡ with_observation n.probe n.events n.fault n.child_fault w.observed →
        observed ≡ with_child j child.task.origin before → WalksOn plan o j w (Continues (record { task = rest; awaited = os; observed = observed }))
    walks_by_child go os before observed a b h = (walk, less.0)
      where
        kept : KeepsOrigin t (stop_of s)
        kept = same s n.probe n.events n.fault n.child_fault observed_stop

        less : LeavesFewer t (stop_of s)
        less = fewer s n.probe n.events n.fault n.child_fault observed_stop

        on : OnWay (also is.observation observed_stop.observation) t (stop_of s)
        on = goes-on s n.probe n.events n.fault n.child_fault observed_stop go

        shows : ShowsStop observed_stop.observation.items (stop_of s)
        shows = shown s n.probe n.events n.fault n.child_fault observed_stop

        task : IsSoundStop t (stop_of s)
        task = sound s n.probe n.events n.fault n.child_fault observed_stop

        more : StartsBeforeStop t (stop_of s)
        more = starts s n.probe n.events n.fault n.child_fault observed_stop

        walk : IsWalk plan o j (record { task = rest; awaited = os; observed = observed })
        walk = record {
          instance = is.instance;
          task = task.1;
          idle = less.1;
          goes_on = observed_stop.stop.keeps.3;
          plan_is = kept.0 ∙ is.plan_is;
          origin_is = kept.1 ∙ is.origin_is;
          awaits = a ∙ ap (λ (l : List Origin). l ++ child.task.origin ∷ []) is.awaits ∙ sym more.0;
          observation = also is.observation observed_stop.observation;
          on = on;
          says = h ∙ seen_child (path_of o) j is.observation observed_stop.observation child.task.origin before shows (observation-seen s n.probe n.events n.fault n.child_fault observed_stop before b);
        }

    -- The strand is over.
    pub over_by_child : IsBelow (path_of o) j → ObservationGoesOn → (before observed : ObservedInstance) → is_over observed ≡ true → before ≡ with_observation n.probe n.events n.fault n.child_fault w.observed → observed ≡ with_child j child.task.origin before →
        WalksOn plan o j w (Ends observed)
    over_by_child below go before observed over b h =
        all-seen s n.probe n.events n.fault n.child_fault observed_stop below rest.task kept on observed over
        (h ∙ seen_child (path_of o) j is.observation observed_stop.observation child.task.origin before shows (observation-seen s n.probe n.events n.fault n.child_fault observed_stop before b))
      where
        kept : KeepsOrigin t (stop_of s)
        kept = same s n.probe n.events n.fault n.child_fault observed_stop

        on : OnWay (also is.observation observed_stop.observation) t (stop_of s)
        on = goes-on s n.probe n.events n.fault n.child_fault observed_stop go

        shows : ShowsStop observed_stop.observation.items (stop_of s)
        shows = shown s n.probe n.events n.fault n.child_fault observed_stop

  module _ (n : ObservedStop) (as_observed : IsObserved w.task j w.observed.probe n) (rest : TaskView) (stopped : n.stop ≡ stop.Wait rest) where
    abbrev at : stops.Stop All
    at = stop.Wait rest

    observed_wait : IsObserved w.task j w.observed.probe (record n { stop = at })
    observed_wait = subst (λ (to : stops.Stop All). IsObserved w.task j w.observed.probe (record n { stop = to })) stopped as_observed

    pub it_waits : rest.task.waiting ≡ true
    it_waits = let less : LeavesFewer t (stop_of at) = fewer at n.probe n.events n.fault n.child_fault observed_wait in less.1

    pub of_plan : rest.task.plan ≡ plan
    of_plan = let kept : KeepsOrigin t (stop_of at) = same at n.probe n.events n.fault n.child_fault observed_wait in kept.0 ∙ is.plan_is

    -- These are the answers that it awaits.
    pub it_has_answers : (answers : List AnswerView) → answer_tags answers ≡ tags plan w.awaited → answer_tags answers ≡ tags rest.task.plan (awaited rest.task.trace.unmerged)
    it_has_answers answers h =
        let same : StartsBeforeStop t (stop_of at) = starts at n.probe n.events n.fault n.child_fault observed_wait in
        h ∙ ap (tags plan) (is.awaits ∙ sym same) ∙ ap (λ (p : PlanView). tags p (unmerged rest.task)) (sym of_plan)

    -- The walk goes on with the answers, and awaits no child.
    pub walks_by_wait : ObservationGoesOn → AnswersShowNothing → (answers : List AnswerView) → any_cut answers ≡ false → (v : TaskView) → IsResumedWith answers rest v → (os : List Origin) → os ≡ [] →
        (observed : ObservedInstance) → observed ≡ with_observation n.probe n.events n.fault n.child_fault w.observed → WalksOn plan o j w (Continues (record { task = v; awaited = os; observed = observed }))
    walks_by_wait go nothing answers whole v h os e observed b =
        subst (λ (u : TaskView). WalksOn plan o j w (Continues (record { task = u; awaited = os; observed = observed }))) (sym (resumed_whole answers rest v whole h)) (walk, left)
      where
        kept : KeepsOrigin t (stop_of at)
        kept = same at n.probe n.events n.fault n.child_fault observed_wait

        less : LeavesFewer t (stop_of at)
        less = fewer at n.probe n.events n.fault n.child_fault observed_wait

        task : IsSoundStop t (stop_of at)
        task = sound at n.probe n.events n.fault n.child_fault observed_wait

        on : OnWay (also is.observation observed_wait.observation) t (stop_of at)
        on = goes-on at n.probe n.events n.fault n.child_fault observed_wait go

        shows : ShowsStop observed_wait.observation.items (stop_of at)
        shows = shown at n.probe n.events n.fault n.child_fault observed_wait

        no_more : stops_left (with_evaluations rest) ≤ stops_left rest.task
        no_more = answers_leave_no_more rest.task task it_waits

        left : stops_left (with_evaluations rest) < stops_left t
        left = omega (arith, less.0, no_more)

        none : (with_evaluations rest).trace.unmerged ≡ []
        none = none-heard rest.task.trace.unmerged (evaluations (eval rest.task.plan) rest.task.trace.unmerged) _ refl

        walk : IsWalk plan o j (record { task = resumed_view rest; awaited = os; observed = observed })
        walk = record {
          instance = is.instance;
          task = answers_keep_tasks rest.task task;
          idle = refl;
          goes_on = observed_wait.stop.keeps.2;
          plan_is = kept.0 ∙ is.plan_is;
          origin_is = kept.1 ∙ is.origin_is;
          awaits = e ∙ ap awaited (sym none);
          observation = also is.observation observed_wait.observation;
          on = nothing rest.task (also is.observation observed_wait.observation) task (subst IsInstanceOrigin (sym (kept.1 ∙ is.origin_is)) is.instance) on;
          says = seen_none (path_of o) j is.observation observed_wait.observation observed shows (observation-seen at n.probe n.events n.fault n.child_fault observed_wait observed b);
        }

    -- The strand is over.
    pub over_by_wait : IsBelow (path_of o) j → ObservationGoesOn → AnswersShowNothing → (observed : ObservedInstance) → is_over observed ≡ true → observed ≡ with_observation n.probe n.events n.fault n.child_fault w.observed → WalksOn plan o j w (Ends observed)
    over_by_wait below go nothing observed over b =
        all-seen at n.probe n.events n.fault n.child_fault observed_wait below (with_evaluations rest) kept
        (nothing rest.task (also is.observation observed_wait.observation) task (subst IsInstanceOrigin (sym (kept.1 ∙ is.origin_is)) is.instance) on) observed over
        (seen_none (path_of o) j is.observation observed_wait.observation observed shows (observation-seen at n.probe n.events n.fault n.child_fault observed_wait observed b))
      where
        task : IsSoundStop t (stop_of at)
        task = sound at n.probe n.events n.fault n.child_fault observed_wait

        kept : KeepsOrigin t (stop_of at)
        kept = same at n.probe n.events n.fault n.child_fault observed_wait

        on : OnWay (also is.observation observed_wait.observation) t (stop_of at)
        on = goes-on at n.probe n.events n.fault n.child_fault observed_wait go

        shows : ShowsStop observed_wait.observation.items (stop_of at)
        shows = shown at n.probe n.events n.fault n.child_fault observed_wait

  module _ (n : ObservedStop) (as_observed : IsObserved w.task j w.observed.probe n) (answer : AnswerView) (give : GiveView AnswerTag) (stopped : n.stop ≡ stop.Done answer give) where
    abbrev end : stops.Stop All
    end = stop.Done answer give

    observed_end : IsObserved w.task j w.observed.probe (record n { stop = end })
    observed_end = subst (λ (to : stops.Stop All). IsObserved w.task j w.observed.probe (record n { stop = to })) stopped as_observed

    -- The whole instance is seen.
    pub walk_ends : IsBelow (path_of o) j → ObservationGoesOn → (observed : ObservedInstance) → observed ≡ with_observation n.probe n.events n.fault n.child_fault w.observed → WalksOn plan o j w (Ends observed)
    walk_ends below go observed b = whole_seen plan o j is.instance below (also is.observation observed_end.observation)
        (subst (λ (q : PlanView). IsAllObserved q o (also is.observation observed_end.observation)) is.plan_is (subst (λ (d : Origin). IsAllObserved t.plan d (also is.observation observed_end.observation)) is.origin_is whole)) observed says
      where
        shows : ShowsStop observed_end.observation.items (stop_of end)
        shows = shown end n.probe n.events n.fault n.child_fault observed_end

        says : observed ≡ observed_on (path_of o) j (also is.observation observed_end.observation)
        says = seen_none (path_of o) j is.observation observed_end.observation observed shows (observation-seen end n.probe n.events n.fault n.child_fault observed_end observed b)

        whole : OnWay (also is.observation observed_end.observation) t (stop_of end)
        whole = goes-on end n.probe n.events n.fault n.child_fault observed_end go

-- A walk begins with a task of which nothing is done.
pub walk_begins : ObservationBegins → (plan : PlanView) (o : Origin) (j : List ℕ) → IsInstanceOrigin o → IsTask (start plan o) → (w : NodeWalk) → w ≡ begun_walk plan o j → IsWalk plan o j w
walk_begins begin plan o j i is w e =
    subst (IsWalk plan o j) (sym e) (record {
      instance = i;
      task = is;
      idle = refl;
      goes_on = refl;
      plan_is = refl;
      origin_is = refl;
      awaits = refl;
      observation = no_observation;
      on = begin plan o i;
      says = refl;
    })
