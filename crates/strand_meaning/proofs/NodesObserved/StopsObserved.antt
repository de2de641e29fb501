-- What is observed of a task on its way.
use Rattle.std.proofs.Common.{◌≡◌, ℕ, Bool, true, false, List, [], ◌∷◌, ◌++◌, Option, Some, None, Result, Ok, Err, refl, sym, ap, ◌∙◌, subst, append_assoc, append-nil, length}
use Rattle.script_grammar.specs.declared.tree.Function.{Function}
use Rattle.serial_meaning.specs.Runs.{Run, done, after_items, ◌then◌}
use Rattle.serial_meaning.specs.Functions.{function_at}
use Rattle.serial_meaning.specs.Plan.{PlanView, functions_of}
use Rattle.serial_meaning.specs.Eval.{Evaluation, path_of}
use Rattle.serial_meaning.specs.Open.{Item, NodeFault, Own, ChildFaulted, Node, node_of}
use Rattle.serial_meaning.specs.declared.value.Value.{Value}
use Rattle.serial_meaning.specs.declared.event.Fault.{Fault}
use Rattle.serial_meaning.specs.declared.origin.Origin.{Origin}
use Rattle.serial_meaning.specs.declared.origin.Origin.TheVariants.{Instance, Loop}
use Rattle.serial_meaning.specs.declared.answer.Outcome.{Outcome}
use Rattle.strand_meaning.specs.Machine.{Effect, Opens, Closes, Emitted, Starts, Syncs, Loops, Machine, Reached, Stands, Gives, function_begun, move}
use Rattle.strand_meaning.specs.Trace.{AwaitedChild, Trace, with_effects}
use Rattle.strand_meaning.specs.Task.{Stage, Running, AtSync, AtLoop, Ended, Remaining, Splits, Runs, Finished, Task, MoveOrStop, Passes, Stops, Stop, Spawn, Wait, End, IsNext, Now, Later, stage_after, child_in, stops_at, passing, step_result, ends_unless, faults_after, resumed, begun_stage, start, step}
use Rattle.strand_meaning.specs.Rest.{children_of, rest_of_stage, rest_open}
use Rattle.strand_meaning.specs.Laws.{IsSoundStep, IsSameTask}
use Rattle.strand_meaning.specs.Sound.{AreDestinations, AreHalves, IsSoundStage, IsTask}
use Rattle.strand_meaning.specs.Strands.{fault_of_child}
use Rattle.strand_meaning.specs.Observation.{IsInstanceOrigin, remaining_node, Observation, no_observation, newest, also, effect_items, move_fault, stage_observation, step_observation, Shows, Now as ShownNow, Later as ShownLater, own_fault_of, stage_fault, IsOnWay, IsAllObserved, OnWay}
use Rattle.strand_meaning.proofs.UnfilledPending.AlikeButEvents.{alike-effects, alike-takes}
use Rattle.strand_meaning.proofs.SoundSteps.ChildrenCloseNodes.{after-then}
use Rattle.strand_meaning.proofs.SoundSteps.StepsKeepTasks.{steps_are_sound}
use Rattle.strand_meaning.proofs.Unfilled.RestAfterEffects.{effect_parts}
use Rattle.strand_meaning.proofs.Unfilled.SoundMoves.{sound-free, SoundEnd, sound-move}
use Rattle.strand_meaning.proofs.SoundSteps.MovesKeepTasks.{ended-rest, halves-places}
use Rattle.strand_meaning.proofs.SoundSteps.RestStartsAsNode.{begun-whole, halves-rest}
use Rattle.strand_meaning.proofs.NextStops.OneSoundStop.{KeepsStep, step-keeps}
use Rattle.strand_meaning.proofs.Unfilled.MovesBeforeAnswers.{shown_with, open-move, none-known}

-- Observations one after another

newest-assoc : (a b c : Option Fault) → newest (newest a b) c ≡ newest a (newest b c)
newest-assoc a b None = refl
newest-assoc a b (Some f) = refl

pub also-assoc : (a b c : Observation) → also (also a b) c ≡ also a (also b c)
also-assoc a b c =
    ap (λ (l : List Item). record { items = l; fault = newest (newest a.fault b.fault) c.fault; child_fault = newest (newest a.child_fault b.child_fault) c.child_fault }) (append_assoc a.items b.items c.items)
    ∙ ap (λ (f : Option Fault). record { items = a.items ++ (b.items ++ c.items); fault = f; child_fault = newest (newest a.child_fault b.child_fault) c.child_fault }) (newest-assoc a.fault b.fault c.fault)
    ∙ ap (λ (f : Option Fault). record { items = a.items ++ (b.items ++ c.items); fault = newest a.fault (newest b.fault c.fault); child_fault = f }) (newest-assoc a.child_fault b.child_fault c.child_fault)

pub also-nothing : (observation : Observation) → also observation no_observation ≡ observation
also-nothing observation = ap (λ (l : List Item). record observation { items = l }) (append-nil observation.items)

-- A move

-- where an instance stands after a move
abbrev stage_result : List Effect → Result Reached Fault → Stage
stage_result ts (Ok (Stands k)) = stage_after ts k
stage_result ts (Ok (Gives v)) = Ended (Ok v)
stage_result ts (Err f) = Ended (Err (Own f))

after-after : {A : Type 0} (xs ys : List Item) (r : Run Item NodeFault A) → after_items xs (after_items ys r) ≡ after_items (xs ++ ys) r
after-after xs ys r = ap (λ (l : List Item). record { items = l; ending = r.ending }) (sym (append_assoc xs ys r.items))

after-fault : (ts : List Effect) (k : Machine) → stage_fault (stage_after ts k) ≡ None
after-fault [] k = refl
after-fault (Opens j ∷ ts) k = after-fault ts k
after-fault (Closes j ∷ ts) k = after-fault ts k
after-fault (Emitted e ∷ ts) k = after-fault ts k
after-fault (Starts o destination ∷ ts) k = after-fault ts k
after-fault (Syncs ∷ ts) k = refl
after-fault (Loops ∷ ts) k = refl

result-fault : (ts : List Effect) (e : Result Reached Fault) → newest None (move_fault e) ≡ stage_fault (stage_result ts e)
result-fault ts (Ok (Stands k)) = sym (after-fault ts k)
result-fault ts (Ok (Gives v)) = refl
result-fault ts (Err f) = refl

-- a task's instance on its way, with these parts begun
record Way (plan : PlanView) (o : Origin) (ps : List AwaitedChild) (stage : Stage) (observation : Observation) : Type 0 where
  node : node_of plan o ≡ after_items observation.items (remaining_node plan o ps (Runs stage))
  fault : observation.fault ≡ stage_fault stage
  child_fault : observation.child_fault ≡ None

module _ (plan : PlanView) (o : Origin) where
  abbrev path : List ℕ
  path = path_of o

  abbrev kids : Origin → Evaluation
  kids = children_of plan o

  module _ (trace : Trace) where
    abbrev ps : List AwaitedChild
    ps = trace.unmerged

    lands : (ts : List Effect) (e : Result Reached Fault) → SoundEnd plan ps ts e → shown_with plan kids path ps ts e ≡ rest_open plan kids path (with_effects ts trace).unmerged (stage_result ts e)
    lands ts e fits = by_end e fits
      where
        to-after : (stage : Stage) → rest_open plan kids path (ps ++ effect_parts ts) stage ≡ rest_open plan kids path (with_effects ts trace).unmerged stage
        to-after stage = ap (λ (s : Stage). rest_of_stage plan kids path (resumed s)) (alike-takes kids (alike-effects ts trace) stage)

        no-more : effect_parts ts ≡ [] → ps ≡ ps ++ effect_parts ts
        no-more h = sym (ap (λ (l : List AwaitedChild). ps ++ l) h ∙ append-nil ps)

        by_end : (e : Result Reached Fault) → SoundEnd plan ps ts e → shown_with plan kids path ps ts e ≡ rest_open plan kids path (with_effects ts trace).unmerged (stage_result ts e)
        by_end (Ok (Stands k)) fits = to-after (stage_after ts k)
        by_end (Ok (Gives v)) fits =
            sym (ended-rest plan kids path 0 (ps ++ effect_parts ts) (halves-places (ps ++ effect_parts ts) (subst AreHalves (no-more fits.0) fits.1)) (Ok v)) ∙ to-after (Ended (Ok v))
        by_end (Err f) fits = sym (ended-rest plan kids path fits.1 (ps ++ effect_parts ts) (subst (AreDestinations fits.1) (no-more fits.0) fits.2) (Err (Own f))) ∙ to-after (Ended (Err (Own f)))

    way-result : (m : Machine) (observation : Observation) (ts : List Effect) (e : Result Reached Fault) → SoundEnd plan ps ts e →
        rest_open plan kids path ps (Running m) ≡ after_items (effect_items ts) (shown_with plan kids path ps ts e) → Way plan o ps (Running m) observation →
        Way plan o (with_effects ts trace).unmerged (stage_result ts e) (also observation (record { items = effect_items ts; fault = move_fault e; child_fault = None }))
    way-result m observation ts e fits leaves w = record {
      node =
          w.node
          ∙ ap (λ (r : Run Item NodeFault Value). after_items observation.items (r then all_of)) (leaves ∙ ap (after_items (effect_items ts)) (lands ts e fits))
          ∙ ap (after_items observation.items) (after-then (effect_items ts) (rest_open plan kids path (with_effects ts trace).unmerged (stage_result ts e)) all_of)
          ∙ after-after observation.items (effect_items ts) (rest_open plan kids path (with_effects ts trace).unmerged (stage_result ts e) then all_of);
      fault = ap (λ (f : Option Fault). newest f (move_fault e)) w.fault ∙ result-fault ts e;
      child_fault = w.child_fault;
    }
      where
        all_of : Value → Run Item NodeFault (List Value)
        all_of v = done (v ∷ [])

pub stops_are_shown : (t : Task) (stop : Stop) → IsNext t stop → (observation : Observation) × Shows t observation stop
stops_are_shown t stop (Now h) = (step_observation t, ShownNow h refl)
stops_are_shown t stop (Later next h n) = let s = stops_are_shown next stop n in (also (step_observation t) s.0, ShownLater next s.0 h s.1 refl)

-- The end

abbrev all_ended : Result Value NodeFault → Result (List Value) NodeFault
all_ended (Ok v) = Ok (v ∷ [])
all_ended (Err e) = Err e

module _ (plan : PlanView) (o : Origin) (ps : List AwaitedChild) (height : ℕ) (places : AreDestinations height ps) where
  ended-node : (e : Result Value NodeFault) → remaining_node plan o ps (Runs (Ended e)) ≡ record { items = []; ending = all_ended e }
  ended-node e = ap (λ (r : Run Item NodeFault Value). r then λ v. done (v ∷ [])) (ended-rest plan (children_of plan o) (path_of o) height ps places e) ∙ by_end e
    where
      bare : Result Value NodeFault → Run Item NodeFault Value
      bare e = record { items = []; ending = e }

      by_end : (e : Result Value NodeFault) → (bare e then λ v. done (v ∷ [])) ≡ record { items = []; ending = all_ended e }
      by_end (Ok v) = refl
      by_end (Err x) = refl

  -- an end shows no more than the fault of a child
  whole-ended : (observation : Observation) (e : Result Value NodeFault) → Way plan o ps (Ended e) observation → IsAllObserved plan o (also observation (stage_observation plan (path_of o) (Ended e)))
  whole-ended observation e w = by_end e (w.node ∙ ap (after_items observation.items) (ended-node e)) w.fault
    where
      by_end : (e : Result Value NodeFault) → node_of plan o ≡ record { items = observation.items ++ []; ending = all_ended e } → observation.fault ≡ own_fault_of e → IsAllObserved plan o (also observation (stage_observation plan (path_of o) (Ended e)))
      by_end (Ok v) same fault = record {
        items = ap (λ (n : Node). n.items) same;
        fault = ap (λ (n : Node). own_fault_of n.ending) same ∙ sym fault;
        child_fault = ap (λ (n : Node). fault_of_child n.ending) same ∙ sym w.child_fault;
      }
      by_end (Err (Own f)) same fault = record {
        items = ap (λ (n : Node). n.items) same;
        fault = ap (λ (n : Node). own_fault_of n.ending) same ∙ sym fault;
        child_fault = ap (λ (n : Node). fault_of_child n.ending) same ∙ sym w.child_fault;
      }
      by_end (Err (ChildFaulted f)) same fault = record {
        items = ap (λ (n : Node). n.items) same;
        fault = ap (λ (n : Node). own_fault_of n.ending) same ∙ sym fault;
        child_fault = ap (λ (n : Node). fault_of_child n.ending) same;
      }

-- One step

-- a step of a task of which this is observed after it
abbrev OnStep : Observation → Task → MoveOrStop → Type 0
OnStep observation t (Passes next) = IsOnWay observation next
OnStep observation t (Stops stop) = OnWay observation t stop

ends-whole : (observation : Observation) (t : Task) → IsAllObserved t.plan t.origin observation → (f : Option Fault) (ended : Outcome) → OnStep observation t (ends_unless f t ended)
ends-whole observation t h None ended = h
ends-whole observation t h (Some f) ended = h

module _ (t : Task) (function : ℕ) (args : List Value) (at : List ℕ) where
  abbrev own : Origin
  own = Instance function args at

  -- the task where this remains of its instance
  abbrev with_stage : Stage → Task
  with_stage stage = record t { origin = own; remaining = Runs stage }

  abbrev Going : Stage → Observation → Type 0
  Going = Way t.plan own t.trace.unmerged

  way-of : (stage : Stage) (observation : Observation) → IsOnWay observation (with_stage stage) → Going stage observation
  way-of stage observation h = record { node = h.node; fault = h.fault; child_fault = h.child_fault }

  on-way : (trace : Trace) (waiting : Bool) (stage : Stage) (observation : Observation) → Way t.plan own trace.unmerged stage observation →
      IsOnWay observation (record t { origin = own; trace = trace; remaining = Runs stage; waiting = waiting; advanced = true })
  on-way trace waiting stage observation w = record { node = w.node; fault = w.fault; child_fault = w.child_fault }

  moves-on : (m : Machine) → IsTask (with_stage (Running m)) → (observation : Observation) → IsOnWay observation (with_stage (Running m)) → OnStep (also observation (step_observation (with_stage (Running m)))) (with_stage (Running m)) (step (with_stage (Running m)))
  moves-on m is observation h = by_end r.items r.ending (way-result t.plan own t.trace m observation r.items r.ending fits leaves (way-of (Running m) observation h))
    where
      r : Run Effect Fault Reached
      r = move t.plan at m

      ps : List AwaitedChild
      ps = t.trace.unmerged

      sound : IsSoundStage t.plan ps (Running m)
      sound = is.remaining.2

      fits : SoundEnd t.plan ps r.items r.ending
      fits = sound-move t.plan at is.clear ps m sound

      leaves : rest_open t.plan (children_of t.plan own) at ps (Running m) ≡ after_items (effect_items r.items) (shown_with t.plan (children_of t.plan own) at ps r.items r.ending)
      leaves =
          open-move t.plan (children_of t.plan own) at (length m.below) ps sound.0 m (sound-free t.plan ps m sound) (none-known (children_of t.plan own) ps m sound.1.spawned sound.1.faulted)
          (λ e. (sound.1.leaving e).1)

      by_end : (ts : List Effect) (e : Result Reached Fault) →
          let later : Observation = also observation (record { items = effect_items ts; fault = move_fault e; child_fault = None }) in
          Way t.plan own (with_effects ts t.trace).unmerged (stage_result ts e) later → OnStep later (with_stage (Running m)) (step_result (with_stage (Running m)) ts e)
      by_end ts (Ok (Stands k)) w = by_child (child_in ts)
        where
          later : Observation
          later = also observation (record { items = effect_items ts; fault = None; child_fault = None })

          by_child : (c : Option Origin) → OnStep later (with_stage (Running m)) (stops_at c (passing (with_stage (Running m)) ts (Runs (stage_after ts k))))
          by_child None = on-way (with_effects ts t.trace) t.waiting (stage_after ts k) later w
          by_child (Some c) = on-way (with_effects ts t.trace) t.waiting (stage_after ts k) later w
      by_end ts (Ok (Gives v)) w = on-way (with_effects ts t.trace) t.waiting (Ended (Ok v)) _ w
      by_end ts (Err f) w = on-way (with_effects ts t.trace) t.waiting (Ended (Err (Own f))) _ w

  -- a wait shows nothing
  waits-on : (stage : Stage) (observation : Observation) → IsOnWay observation (with_stage stage) → IsOnWay (also observation no_observation) (record t { origin = own; remaining = Runs stage; waiting = true; advanced = true })
  waits-on stage observation h = on-way t.trace true stage (also observation no_observation) (subst (Going stage) (sym (also-nothing observation)) (way-of stage observation h))

  ends-so : (e : Result Value NodeFault) (height : ℕ) → AreDestinations height t.trace.unmerged → (observation : Observation) → IsOnWay observation (with_stage (Ended e)) → IsAllObserved t.plan own (also observation (stage_observation t.plan at (Ended e)))
  ends-so e height places observation h = whole-ended t.plan own t.trace.unmerged height places observation e (way-of (Ended e) observation h)

  stage-on : (stage : Stage) → IsTask (with_stage stage) → (observation : Observation) → IsOnWay observation (with_stage stage) → OnStep (also observation (step_observation (with_stage stage))) (with_stage stage) (step (with_stage stage))
  stage-on (Running m) is observation h = moves-on m is observation h
  stage-on (AtSync m) is observation h = waits-on (AtSync m) observation h
  stage-on (AtLoop m) is observation h = waits-on (AtLoop m) observation h
  stage-on (Ended (Ok v)) is observation h = ends-whole _ (with_stage (Ended (Ok v))) (ends-so (Ok v) 0 (halves-places t.trace.unmerged is.remaining.2) observation h) t.trace.fault _
  stage-on (Ended (Err (Own f))) is observation h = by_parts t.trace.unmerged
    where
      by_parts : (qs : List AwaitedChild) → OnStep (also observation no_observation) (with_stage (Ended (Err (Own f)))) (faults_after qs (with_stage (Ended (Err (Own f)))) f)
      by_parts [] = ends-whole _ (with_stage (Ended (Err (Own f)))) (ends-so (Err (Own f)) is.remaining.2.0 is.remaining.2.1 observation h) t.trace.fault _
      by_parts (q ∷ qs) = waits-on (Ended (Err (Own f))) observation h
  stage-on (Ended (Err (ChildFaulted f))) is observation h = ends-whole _ (with_stage (Ended (Err (ChildFaulted f)))) (ends-so (Err (ChildFaulted f)) 0 (subst (AreDestinations 0) (sym is.remaining.2) tt) observation h) t.trace.fault _

step-on : (t : Task) → IsTask t → IsInstanceOrigin t.origin → (observation : Observation) → IsOnWay observation t → OnStep (also observation (step_observation t)) t (step t)
step-on t is inst observation h = by_origin t.origin is inst h
  where
    by_origin : (o : Origin) → IsTask (record t { origin = o }) → IsInstanceOrigin o → IsOnWay observation (record t { origin = o }) → OnStep (also observation (step_observation (record t { origin = o }))) (record t { origin = o }) (step (record t { origin = o }))
    by_origin (Loop function rest first at range) is inst h = absurd inst
    by_origin (Instance function args at) is inst h = by_remaining t.remaining is h
      where
        by_remaining : (remaining : Remaining) → IsTask (record t { origin = Instance function args at; remaining = remaining }) → IsOnWay observation (record t { origin = Instance function args at; remaining = remaining }) →
            let u : Task = record t { origin = Instance function args at; remaining = remaining } in OnStep (also observation (step_observation u)) u (step u)
        by_remaining (Splits left) is h = absurd is.remaining.0
        by_remaining (Runs stage) is h = stage-on t function args at stage is observation h
        by_remaining (Finished v true) is h = absurd is.remaining.0
        by_remaining (Finished v false) is h = absurd is.remaining.0

-- Up to the next stop

on-further : (observation : Observation) (t next : Task) (stop : Stop) → IsSameTask t next → OnWay observation next stop → OnWay observation t stop
on-further observation t next (Spawn child rest) of h = h
on-further observation t next (Wait rest) of h = h
on-further observation t next (End out ended) of h =
    subst (λ (p : PlanView). IsAllObserved p t.origin observation) of.0 (subst (λ (o : Origin). IsAllObserved next.plan o observation) of.1 h)

pub observation_goes_on : (t : Task) (observation later : Observation) (stop : Stop) → IsTask t → IsInstanceOrigin t.origin → IsOnWay observation t → Shows t later stop → OnWay (also observation later) t stop
observation_goes_on t observation later stop is inst h (ShownNow e same) =
    subst (λ (l : Observation). OnWay (also observation l) t stop) (sym same) (subst (OnStep (also observation (step_observation t)) t) e (step-on t is inst observation h))
observation_goes_on t observation later stop is inst h (ShownLater next more e shows same) =
    let of : IsSameTask t next = subst (KeepsStep t) e (step-keeps t) in
    let sound : IsTask next = subst (IsSoundStep t) e (steps_are_sound t is) in
    let on : IsOnWay (also observation (step_observation t)) next = subst (OnStep (also observation (step_observation t)) t) e (step-on t is inst observation h) in
    subst (λ (l : Observation). OnWay l t stop) (also-assoc observation (step_observation t) more ∙ ap (also observation) (sym same))
    (on-further (also (also observation (step_observation t)) more) t next stop of (observation_goes_on next (also observation (step_observation t)) more stop sound (subst IsInstanceOrigin (sym of.1) inst) on shows))

-- The beginning

pub observation_begins : (plan : PlanView) (o : Origin) → IsInstanceOrigin o → IsOnWay no_observation (start plan o)
observation_begins plan (Loop function rest first path range) inst = absurd inst
observation_begins plan (Instance function args path) inst = record {
  node =
      begun-whole plan function args path
      ∙ ap (λ (r : Run Item NodeFault Value). r then λ v. done (v ∷ [])) (sym (halves-rest plan (children_of plan (Instance function args path)) path [] tt (function_begun plan function args)));
  fault = fault (function_at (functions_of plan) function) refl;
  child_fault = refl;
}
  where
    fault : (f : Option Function) → function_at (functions_of plan) function ≡ f → None ≡ stage_fault (begun_stage (function_begun plan function args))
    fault None h = rw h refl
    fault (Some f) h = rw h refl
