-- A task that takes its children's answers shows nothing.
use Rattle.std.proofs.Common.{◌≡◌, ℕ, true, false, List, [], ◌∷◌, Option, Some, None, Result, Ok, Err, refl, sym, ap, ◌∙◌}
use Rattle.serial_meaning.specs.Runs.{Run, done, after_items, ◌then◌}
use Rattle.serial_meaning.specs.Plan.{PlanView}
use Rattle.serial_meaning.specs.Eval.{Evaluation, eval}
use Rattle.serial_meaning.specs.Open.{Item, NodeFault, Own, ChildFaulted}
use Rattle.serial_meaning.specs.declared.value.Value.{Value}
use Rattle.serial_meaning.specs.declared.event.Fault.{Fault}
use Rattle.serial_meaning.specs.declared.origin.Origin.{Origin}
use Rattle.serial_meaning.specs.declared.origin.Origin.TheVariants.{Instance, Loop}
use Rattle.strand_meaning.specs.Machine.{Destination, Spawned, Looped, Half, Machine}
use Rattle.strand_meaning.specs.Trace.{AwaitedChild}
use Rattle.strand_meaning.specs.Task.{Stage, Running, AtSync, AtLoop, Ended, Remaining, Splits, Runs, Finished, Task, in_machine, takes, takes_all, pass_sync, resumed, on}
use Rattle.strand_meaning.specs.Rest.{evaluations}
use Rattle.strand_meaning.specs.Sound.{IsSoundStage, IsTask}
use Rattle.strand_meaning.specs.Observation.{IsInstanceOrigin, remaining_node, Observation, stage_fault, IsOnWay}
use Rattle.strand_meaning.proofs.TakenAnswers.AnswersKeepTasks.{rest-same, none-unmerged}
use Rattle.strand_meaning.proofs.Unfilled.MovesBeforeAnswers.{takes-taken}

-- No answer is a fault of the instance's own, and none takes such a fault from it.

in-none : (change : Machine → Machine) (stage : Stage) → stage_fault stage ≡ None → stage_fault (in_machine change stage) ≡ None
in-none change (Running m) h = refl
in-none change (AtSync m) h = refl
in-none change (AtLoop m) h = refl
in-none change (Ended e) h = h

takes-none : (destination : Destination) (ended : Result (List Value) Fault) (stage : Stage) → stage_fault stage ≡ None → stage_fault (takes destination ended stage) ≡ None
takes-none (Spawned height target) ended stage h = in-none _ stage h
takes-none (Looped target) (Ok vs) stage h = in-none _ stage h
takes-none (Looped target) (Err f) stage h = refl
takes-none Half ended stage h = h

all-none : (child : Origin → Evaluation) (ps : List AwaitedChild) (stage : Stage) → stage_fault stage ≡ None → stage_fault (takes_all ps (evaluations child ps) stage) ≡ None
all-none child [] stage h = h
all-none child (p ∷ ps) stage h = all-none child ps (takes p.destination (child p.child).ending stage) (takes-none p.destination (child p.child).ending stage h)

joins-none : (f : Option Fault) (m : Machine) → stage_fault (pass_sync f m) ≡ None
joins-none None m = refl
joins-none (Some f) m = refl

resumed-none : (stage : Stage) → stage_fault stage ≡ None → stage_fault (resumed stage) ≡ None
resumed-none (Running m) h = refl
resumed-none (AtSync m) h = joins-none m.top.faulted m
resumed-none (AtLoop m) h = refl
resumed-none (Ended e) h = h

module _ (plan : PlanView) (child : Origin → Evaluation) (ps : List AwaitedChild) where
  after-none : (stage : Stage) → stage_fault stage ≡ None → stage_fault (resumed (takes_all ps (evaluations child ps) stage)) ≡ None
  after-none stage h = resumed-none (takes_all ps (evaluations child ps) stage) (all-none child ps stage h)

  stays : (stage : Stage) → IsSoundStage plan ps stage → stage_fault stage ≡ stage_fault (resumed (takes_all ps (evaluations child ps) stage))
  stays (Running m) sound = sym (after-none (Running m) refl)
  stays (AtSync m) sound = sym (after-none (AtSync m) refl)
  stays (AtLoop m) sound = sym (after-none (AtLoop m) refl)
  stays (Ended (Ok v)) sound = sym (after-none (Ended (Ok v)) refl)
  stays (Ended (Err (Own f))) sound = ap (λ (s : Stage). stage_fault (resumed s)) (sym (takes-taken child sound.0 ps sound.1 (Ended (Err (Own f)))))
  stays (Ended (Err (ChildFaulted f))) sound = sym (after-none (Ended (Err (ChildFaulted f))) refl)

stage-answers : (t : Task) (function : ℕ) (args : List Value) (path : List ℕ) (stage : Stage) (observation : Observation) → let u : Task = record t { origin = Instance function args path; remaining = Runs stage } in
    IsTask u → IsOnWay observation u → IsOnWay observation (on (evaluations (eval u.plan) u.trace.unmerged) u)
stage-answers t function args path stage observation is h = record {
  node = h.node ∙ ap (after_items observation.items) same;
  fault = h.fault ∙ stays t.plan (eval t.plan) t.trace.unmerged stage is.remaining.2;
  child_fault = h.child_fault;
}
  where
    u : Task
    u = record t { origin = Instance function args path; remaining = Runs stage }

    taken_stage : Stage
    taken_stage = resumed (takes_all t.trace.unmerged (evaluations (eval t.plan) t.trace.unmerged) stage)

    same : remaining_node t.plan (Instance function args path) t.trace.unmerged (Runs stage) ≡ remaining_node t.plan (Instance function args path) (on (evaluations (eval t.plan) t.trace.unmerged) u).trace.unmerged (Runs taken_stage)
    same =
        ap (λ (r : Run Item NodeFault Value). r then λ v. done (v ∷ [])) (rest-same u is stage)
        ∙ ap (λ (ps : List AwaitedChild). remaining_node t.plan (Instance function args path) ps (Runs taken_stage)) (sym (none-unmerged u is))

pub answers_show_nothing : (t : Task) (observation : Observation) → IsTask t → IsInstanceOrigin t.origin → IsOnWay observation t → IsOnWay observation (on (evaluations (eval t.plan) t.trace.unmerged) t)
answers_show_nothing t observation is inst h = by_origin t.origin is inst h
  where
    by_origin : (o : Origin) → IsTask (record t { origin = o }) → IsInstanceOrigin o → IsOnWay observation (record t { origin = o }) →
        let u : Task = record t { origin = o } in IsOnWay observation (on (evaluations (eval u.plan) u.trace.unmerged) u)
    by_origin (Loop function rest first path range) is inst h = absurd inst
    by_origin (Instance function args path) is inst h = by_remaining t.remaining is h
      where
        by_remaining : (remaining : Remaining) → IsTask (record t { origin = Instance function args path; remaining = remaining }) → IsOnWay observation (record t { origin = Instance function args path; remaining = remaining }) →
            let u : Task = record t { origin = Instance function args path; remaining = remaining } in IsOnWay observation (on (evaluations (eval u.plan) u.trace.unmerged) u)
        by_remaining (Splits left) is h = absurd is.remaining.0
        by_remaining (Runs stage) is h = stage-answers t function args path stage observation is h
        by_remaining (Finished v true) is h = absurd is.remaining.0
        by_remaining (Finished v false) is h = absurd is.remaining.0
