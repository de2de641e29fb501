-- What a task is after a move of its instance, by what the move showed.
use Rattle.std.proofs.Common.{◌≡◌, ◌⊎◌, inl, inr, ◌<◌, ◌≤◌, ℕ, suc, true, false, List, [], ◌∷◌, ◌++◌, Option, None, Result, Ok, Err, length, replicate, refl, sym, ap, ◌∙◌, subst}
use Rattle.std.specs.Prelude.{IfOk}
use Rattle.script_grammar.specs.declared.tree.Stmt.{Stmt}
use Rattle.serial_meaning.specs.Eval.{path_of}
use Rattle.serial_meaning.specs.Laws.{IsOriginOf}
use Rattle.serial_meaning.specs.Plan.{PlanView}
use Rattle.serial_meaning.specs.declared.event.Event.{Event}
use Rattle.serial_meaning.specs.declared.event.Fault.{Fault}
use Rattle.serial_meaning.specs.declared.origin.Origin.{Origin}
use Rattle.serial_meaning.specs.declared.value.Value.{Value}
use Rattle.strand_meaning.specs.Laws.{MovesFall, StepsAreSound}
use Rattle.strand_meaning.specs.Left.{moves_left}
use Rattle.strand_meaning.specs.Machine.{Reached, Stands, Gives, Effect, move}
use Rattle.strand_meaning.specs.Trace.{AwaitedChild, Trace, emit, emit_at, after_last}
use Rattle.strand_meaning.specs.Task as meaning
use Rattle.strand_meaning.specs.Task.{IsNext, Now, Later, own_instance, stops_at, child_in}
use Rattle.strand_moves.specs.Machines as moves
use Rattle.strand_moves.specs.Moves.{IsTrailOf, MovesTrail, ShowsTrail, effects_of, run_of}
use Rattle.strand_moves.specs.StraightRuns as straight_runs
use Rattle.strand_moves.specs.StraightRuns.{StraightRun, Still, More, Emits}
use Rattle.strand_moves.specs.InstanceParts as instance_parts
use Rattle.strand_moves.specs.declared.instance.Instance.{Instance as RawInstance}
use Rattle.strand_moves.specs.declared.instance_parts.InstanceParts.{InstanceParts}
use Rattle.strand_moves.proofs.Cursors.Passing.{comes-has, comes-moved, comes-path, comes-sound}
use Rattle.strand_moves.specs.declared.effects.LoopedChild.{LoopedChild}
use Rattle.strand_moves.specs.declared.effects.SpawnedChild.{SpawnedChild}
use Rattle.strand_moves.specs.declared.effects.MoveResult.{MoveResult}
use Rattle.strand_moves.specs.declared.effects.MoveResult.TheVariants as move_result-in
use Rattle.strand_moves.specs.declared.effects.Effects.{Effects}
use Rattle.strand_moves.specs.declared.effects.Effects.TheVariants as effects-in
use Rattle.strand_machine.specs.Links.{LinksView}
use Rattle.strand_machine.specs.AwaitedChildren.{awaited, destination_of}
use Rattle.strand_machine.specs.Effects.{task_after_effects, HasSoundEffects}
use Rattle.strand_machine.specs.Made.{IsRun, IsSpawn, LeadsTo}
use Rattle.strand_machine.specs.Stops.{IsStep, KeepsLinksInStep, step_of}
use Rattle.strand_machine.specs.Tasks.{TaskView, task_of, view_of, fresh, cut_of, AwaitsLast, RemainsAt, RunsAt, IsSound, gone, waiting, with_child}
use Rattle.strand_machine.specs.declared.task_state.TaskState.{TaskState}
use Rattle.strand_machine.specs.declared.destination.Destination.{Destination}
use Rattle.strand_machine.specs.declared.destination.Destination.TheVariants as destination
use Rattle.strand_machine.specs.MoveOrStop.{MoveOrStop as MadeStep}
use Rattle.strand_machine.specs.MoveOrStop as step-in
use Rattle.strand_machine.specs.declared.stop.Stop.TheVariants as stop-in
use Rattle.strand_machine.specs.declared.remaining.Stage.TheVariants as stage
use Rattle.strand_machine.specs.declared.remaining.Remaining.{Remaining}
use Rattle.strand_machine.specs.declared.remaining.Remaining.TheVariants as remaining
use Rattle.strand_machine.proofs.NextStops.Advancing.{falls, leads-on, leads-over, leads-start}
use Rattle.strand_machine.proofs.Moves.Dispatch.{awaits-more, pass-sound, pass-is, wait-sound, wait-is, go-moved, go-returned, go-faulted, shown-sound}

-- An event changes no child

awaited-after : (p : AwaitedChild) (ps : List AwaitedChild) (e : Event) → awaited (after_last p ps e) ≡ awaited (p ∷ ps)
awaited-after p [] e = refl
awaited-after p (q ∷ qs) e = ap (λ (l : List Origin). p.child ∷ l) (awaited-after q qs e)

length-after : (p : AwaitedChild) (ps : List AwaitedChild) (e : Event) → length (after_last p ps e) ≡ length (p ∷ ps)
length-after p [] e = refl
length-after p (q ∷ qs) e = ap (λ (n : ℕ). suc n) (length-after q qs e)

awaits-same : (links : LinksView) (ps qs : List AwaitedChild) → awaited qs ≡ awaited ps → length qs ≡ length ps → AwaitsLast links ps → AwaitsLast links qs
awaits-same links ps qs a n h = record {
  before = h.before;
  passed = h.passed;
  same = h.same;
  children = h.children ∙ ap (λ (l : List Origin). h.before ++ l) (sym a);
  taken = h.taken ∙ ap (λ (m : ℕ). h.passed ++ replicate m false) (sym n);
}

awaits-emitted : (links : LinksView) (trace : Trace) (e : Event) → AwaitsLast links trace.unmerged → AwaitsLast links (emit e trace).unmerged
awaits-emitted links trace e h = from trace.unmerged refl
  where
    from : (ps : List AwaitedChild) → trace.unmerged ≡ ps → AwaitsLast links (emit_at ps e trace).unmerged
    from [] g = h
    from (p ∷ ps) g = awaits-same links (p ∷ ps) (after_last p ps e) (awaited-after p ps e) (length-after p ps e) (subst (AwaitsLast links) g h)

-- The body after an event

abbrev pub with_trace : {K : Type 0} → TaskState K → Trace → TaskState K
with_trace b p = record b { trace = p }

module _ {K : Type 0} (b : TaskState K) (i : RawInstance) where
  abbrev running : Remaining
  running = remaining.Runs (stage.Running i)

  -- nothing, or where a scope begins or has ended

  abbrev pub IsSilent : Effects → Type 0
  IsSilent s = (s ≡ effects-in.Nothing) ⊎ (((j : List ℕ) × s ≡ effects-in.Opened j) ⊎ ((j : List ℕ) × s ≡ effects-in.Closed j))

  pub nothing-sound : (s : Effects) → s ≡ effects-in.Nothing → HasSoundEffects b i s → IsSound (gone b) running
  nothing-sound s is h = let k : HasSoundEffects b i effects-in.Nothing = subst (HasSoundEffects b i) is h in record { task = k.task; links = k.links; of_plan = k.runs }

  pub nothing-step : (s : Effects) (r : MadeStep K) → s ≡ effects-in.Nothing → r ≡ step-in.Passes (view_of (gone b) running) →
      step_of r ≡ stops_at (child_in (effects_of s)) (task_after_effects b i s)
  nothing-step s r is h = rw (h, is) refl

  pub silent-sound : (s : Effects) → IsSilent s → HasSoundEffects b i s → IsSound (gone b) running
  silent-sound s (inl is) h = nothing-sound s is h
  silent-sound s (inr (inl (j, is))) h = let k : HasSoundEffects b i (effects-in.Opened j) = subst (HasSoundEffects b i) is h in record { task = k.task; links = k.links; of_plan = k.runs }
  silent-sound s (inr (inr (j, is))) h = let k : HasSoundEffects b i (effects-in.Closed j) = subst (HasSoundEffects b i) is h in record { task = k.task; links = k.links; of_plan = k.runs }

  pub silent-step : (s : Effects) (r : MadeStep K) → IsSilent s → r ≡ step-in.Passes (view_of (gone b) running) → step_of r ≡ stops_at (child_in (effects_of s)) (task_after_effects b i s)
  silent-step s r (inl is) h = nothing-step s r is h
  silent-step s r (inr (inl (j, is))) h = rw (h, is) refl
  silent-step s r (inr (inr (j, is))) h = rw (h, is) refl

  -- an event

  emitted-at : (e : Event) → HasSoundEffects b i (effects-in.Emitted e) → IsSound (gone (with_trace b (emit e b.trace))) running
  emitted-at e h = record { task = h.task; links = awaits-emitted b.links b.trace e h.links; of_plan = h.runs }

  pub emitted-sound : (s : Effects) (e : Event) (p : Trace) → s ≡ effects-in.Emitted e → p ≡ emit e b.trace → HasSoundEffects b i s → IsSound (gone (with_trace b p)) running
  emitted-sound s e p is q h = subst (λ (x : Trace). IsSound (gone (with_trace b x)) running) (sym q) (emitted-at e (subst (HasSoundEffects b i) is h))

  pub emitted-step : (s : Effects) (e : Event) (p : Trace) (r : MadeStep K) → s ≡ effects-in.Emitted e → p ≡ emit e b.trace → r ≡ step-in.Passes (view_of (gone (with_trace b p)) running) →
      step_of r ≡ stops_at (child_in (effects_of s)) (task_after_effects b i s)
  emitted-step s e p r is q h = rw (h, q, is) refl

  -- a sync

  abbrev at-sync : Remaining
  at-sync = remaining.Runs (stage.AtSync i)

  synced-at : (e : Event) → HasSoundEffects b i (effects-in.Synced e) → IsSound (gone (with_trace b (emit e b.trace))) at-sync
  synced-at e h = record { task = h.task; links = awaits-emitted b.links b.trace e h.links; of_plan = h.runs }

  pub synced-sound : (s : Effects) (e : Event) (p : Trace) → s ≡ effects-in.Synced e → p ≡ emit e b.trace → HasSoundEffects b i s → IsSound (gone (with_trace b p)) at-sync
  synced-sound s e p is q h = subst (λ (x : Trace). IsSound (gone (with_trace b x)) at-sync) (sym q) (synced-at e (subst (HasSoundEffects b i) is h))

  pub synced-step : (s : Effects) (e : Event) (p : Trace) (r : MadeStep K) → s ≡ effects-in.Synced e → p ≡ emit e b.trace → r ≡ step-in.Passes (view_of (gone (with_trace b p)) at-sync) →
      step_of r ≡ stops_at (child_in (effects_of s)) (task_after_effects b i s)
  synced-step s e p r is q h = rw (h, q, is) refl

  -- a child

  pub spawned-known : (s : Effects) (e : Event) (o : SpawnedChild) → s ≡ effects-in.Spawned e o → HasSoundEffects b i s → IsOriginOf b.links.plan o.child.origin
  spawned-known s e o is h = let k : HasSoundEffects b i (effects-in.Spawned e o) = subst (HasSoundEffects b i) is h in k.child

  pub spawned-trail : (s : Effects) (e : Event) (o : SpawnedChild) → s ≡ effects-in.Spawned e o → HasSoundEffects b i s → IsTrailOf b.links.plan o.child.origin o.child.trail
  spawned-trail s e o is h = let k : HasSoundEffects b i (effects-in.Spawned e o) = subst (HasSoundEffects b i) is h in k.trail

  spawned-at : (e : Event) (o : SpawnedChild) → HasSoundEffects b i (effects-in.Spawned e o) →
      IsSound (with_child (with_trace b (emit e b.trace)) o.child.origin (destination.Spawned o.height o.target)) running
  spawned-at e o h = record {
    task = h.task;
    links = awaits-more b.links (emit e b.trace).unmerged (record { child = o.child.origin; destination = destination_of (destination.Spawned o.height o.target); after = [] }) (awaits-emitted b.links b.trace e h.links);
    of_plan = h.runs;
  }

  pub spawned-sound : (s : Effects) (e : Event) (o : SpawnedChild) (p : Trace) → s ≡ effects-in.Spawned e o → p ≡ emit e b.trace → HasSoundEffects b i s →
      IsSound (with_child (with_trace b p) o.child.origin (destination.Spawned o.height o.target)) running
  spawned-sound s e o p is q h =
      subst (λ (x : Trace). IsSound (with_child (with_trace b x) o.child.origin (destination.Spawned o.height o.target)) running) (sym q) (spawned-at e o (subst (HasSoundEffects b i) is h))

  pub spawned-step : (s : Effects) (e : Event) (o : SpawnedChild) (p : Trace) (r : MadeStep K) → s ≡ effects-in.Spawned e o → p ≡ emit e b.trace →
      IsSpawn (with_trace b p) o.child.origin (destination.Spawned o.height o.target) running r →
      step_of r ≡ stops_at (child_in (effects_of s)) (task_after_effects b i s)
  spawned-step s e o p r is q (joins, are, h) = rw (h, q, is) refl

  -- a loop

  abbrev at-loop : Remaining
  at-loop = remaining.Runs (stage.AtLoop i)

  pub looped-known : (s : Effects) (e : Event) (o : LoopedChild) → s ≡ effects-in.Looped e o → HasSoundEffects b i s → IsOriginOf b.links.plan o.child.origin
  looped-known s e o is h = let k : HasSoundEffects b i (effects-in.Looped e o) = subst (HasSoundEffects b i) is h in k.child

  pub looped-trail : (s : Effects) (e : Event) (o : LoopedChild) → s ≡ effects-in.Looped e o → HasSoundEffects b i s → IsTrailOf b.links.plan o.child.origin o.child.trail
  looped-trail s e o is h = let k : HasSoundEffects b i (effects-in.Looped e o) = subst (HasSoundEffects b i) is h in k.trail

  looped-at : (e : Event) (o : LoopedChild) → HasSoundEffects b i (effects-in.Looped e o) →
      IsSound (with_child (with_trace b (emit e b.trace)) o.child.origin (destination.Looped o.target)) at-loop
  looped-at e o h = record {
    task = h.task;
    links = awaits-more b.links (emit e b.trace).unmerged (record { child = o.child.origin; destination = destination_of (destination.Looped o.target); after = [] }) (awaits-emitted b.links b.trace e h.links);
    of_plan = h.runs;
  }

  pub looped-sound : (s : Effects) (e : Event) (o : LoopedChild) (p : Trace) → s ≡ effects-in.Looped e o → p ≡ emit e b.trace → HasSoundEffects b i s →
      IsSound (with_child (with_trace b p) o.child.origin (destination.Looped o.target)) at-loop
  looped-sound s e o p is q h =
      subst (λ (x : Trace). IsSound (with_child (with_trace b x) o.child.origin (destination.Looped o.target)) at-loop) (sym q) (looped-at e o (subst (HasSoundEffects b i) is h))

  pub looped-step : (s : Effects) (e : Event) (o : LoopedChild) (p : Trace) (r : MadeStep K) → s ≡ effects-in.Looped e o → p ≡ emit e b.trace →
      IsSpawn (with_trace b p) o.child.origin (destination.Looped o.target) at-loop r →
      step_of r ≡ stops_at (child_in (effects_of s)) (task_after_effects b i s)
  looped-step s e o p r is q (joins, are, h) = rw (h, q, is) refl

-- What the links keep

pub passes-keep : {K : Type 0} (b : TaskState K) (p : Trace) (w next : Remaining) (r : MadeStep K) → cut_of next ≡ None → r ≡ step-in.Passes (view_of (gone (with_trace b p)) next) → KeepsLinksInStep (view_of b w) r
passes-keep b p w next r none h = rw h (refl, refl, none, refl)

pub spawns-keep : {K : Type 0} (b : TaskState K) (p : Trace) (w next : Remaining) (o : Origin) (at : Destination) (r : MadeStep K) → cut_of next ≡ None →
    IsSpawn (with_trace b p) o at next r → KeepsLinksInStep (view_of b w) r
spawns-keep b p w next o at r none (joins, are, h) = rw h (refl, refl, refl, none, refl, are)

keeps-alike : {K : Type 0} (b : TaskState K) (w other : Remaining) (r : MadeStep K) → KeepsLinksInStep (view_of b w) r → KeepsLinksInStep (view_of b other) r
keeps-alike b w other (step-in.Passes next) h = h
keeps-alike b w other (step-in.Stops (stop-in.Spawn child rest)) h = h
keeps-alike b w other (step-in.Stops (stop-in.Wait rest)) h = h
keeps-alike b w other (step-in.Stops (stop-in.Done answer give)) h = h

-- The instance of a task that moves in a row have led to goes on.
pub record IsOnRun {K : Type 0} (first : TaskView) (b : TaskState K) (i : RawInstance) : Type 0 where
  pub sound : IsSound b (remaining.Runs (stage.Running i))
  pub leads : LeadsTo first (view_of b (remaining.Runs (stage.Running i)))

-- A move, and then moves in a row
pub pass-run : {K : Type 0} → MovesFall → (b : TaskState K) (w next : Remaining) → cut_of w ≡ None → RemainsAt b.links.plan b.links.origin next → meaning.step (task_of b w) ≡ meaning.Passes (task_of (gone b) next) →
    (r : MadeStep K) → IsRun (view_of (gone b) next) r → IsRun (view_of b w) r
pass-run fall b w next goes at e r h =
    let first = view_of b w in
    let now = view_of (gone b) next in
    record {
      before = h.before;
      leads = leads-over first now h.before (leads-on fall first first now (step-in.Passes now) (leads-start first goes) (pass-is b w next (step-in.Passes now) at e refl) refl) h.leads;
      step = h.step;
    }

-- A move

module _ {K : Type 0} (b : TaskState K) (i next : RawInstance) (plan : PlanView) (m : MoveResult) (p : plan ≡ b.links.plan) (e : move plan (moves.path_of i) (moves.machine_of plan i) ≡ run_of m (moves.machine_of plan next)) (h : IsSound b (remaining.Runs (stage.Running i))) where
  pub runs-on : moves.path_of next ≡ moves.path_of i → moves.IsInstance plan next → RunsAt b.links.plan (path_of (own_instance b.links.origin)) next
  runs-on path sound = record { sound = subst (λ (q : PlanView). moves.IsInstance q next) p sound; at = path ∙ h.of_plan.at }

  moves-so : (n : MoveResult) → m ≡ n → move b.links.plan (moves.path_of i) (moves.machine_of b.links.plan i) ≡ run_of n (moves.machine_of b.links.plan next)
  moves-so n is =
      subst (λ (q : PlanView). move q (moves.path_of i) (moves.machine_of q i) ≡ run_of n (moves.machine_of q next)) p
      (e ∙ ap (λ (x : MoveResult). run_of x (moves.machine_of plan next)) is)

  pub moved-sound : StepsAreSound → (s : Effects) → m ≡ move_result-in.Moved s → moves.path_of next ≡ moves.path_of i → moves.IsInstance plan next → MovesTrail plan m → HasSoundEffects b next s
  moved-sound law s is path sound trail =
      shown-sound b i law next s h (moves-so (move_result-in.Moved s) is) (runs-on path sound)
      (subst (λ (q : PlanView). ShowsTrail q s) p (subst (MovesTrail plan) is trail))

  pub returned-sound : StepsAreSound → (v : Value) → m ≡ move_result-in.Returned v → IsSound (gone b) (remaining.Runs (stage.Returned v))
  returned-sound law v is = pass-sound law b (remaining.Runs (stage.Running i)) (remaining.Runs (stage.Returned v)) h (go-returned b i next v h.of_plan (moves-so (move_result-in.Returned v) is)) tt

  pub returned-is : (v : Value) (r : MadeStep K) → m ≡ move_result-in.Returned v → r ≡ step-in.Passes (view_of (gone b) (remaining.Runs (stage.Returned v))) → IsStep (view_of b (remaining.Runs (stage.Running i))) r
  returned-is v r is = pass-is b (remaining.Runs (stage.Running i)) (remaining.Runs (stage.Returned v)) r tt (go-returned b i next v h.of_plan (moves-so (move_result-in.Returned v) is))

  pub faulted-sound : StepsAreSound → (f : Fault) → m ≡ move_result-in.Faulted f → IsSound (gone b) (remaining.Runs (stage.Faulted f))
  faulted-sound law f is = pass-sound law b (remaining.Runs (stage.Running i)) (remaining.Runs (stage.Faulted f)) h (go-faulted b i next f h.of_plan (moves-so (move_result-in.Faulted f) is)) tt

  pub faulted-is : (f : Fault) (r : MadeStep K) → m ≡ move_result-in.Faulted f → r ≡ step-in.Passes (view_of (gone b) (remaining.Runs (stage.Faulted f))) → IsStep (view_of b (remaining.Runs (stage.Running i))) r
  faulted-is f r is = pass-is b (remaining.Runs (stage.Running i)) (remaining.Runs (stage.Faulted f)) r tt (go-faulted b i next f h.of_plan (moves-so (move_result-in.Faulted f) is))

  moved-one : (s : Effects) (r : MadeStep K) → m ≡ move_result-in.Moved s → step_of r ≡ stops_at (child_in (effects_of s)) (task_after_effects b next s) → KeepsLinksInStep (view_of b (remaining.Runs (stage.Running next))) r →
      IsStep (view_of b (remaining.Runs (stage.Running i))) r
  moved-one s r is g k = record { is = go-moved b i next s h.of_plan (moves-so (move_result-in.Moved s) is) ∙ sym g; keeps = keeps-alike b (remaining.Runs (stage.Running next)) (remaining.Runs (stage.Running i)) r k }

  pub moved-is : {X E : Type 0} (f : X → MadeStep K) (s : Effects) (r : Result X E) → m ≡ move_result-in.Moved s → IfOk r (λ x. step_of (f x) ≡ stops_at (child_in (effects_of s)) (task_after_effects b next s)) →
      IfOk r (λ x. KeepsLinksInStep (view_of b (remaining.Runs (stage.Running next))) (f x)) → IfOk r (λ x. IsStep (view_of b (remaining.Runs (stage.Running i))) (f x))
  moved-is f s (Ok x) is g k = moved-one s (f x) is g k
  moved-is f s (Err x) is g k = tt

  -- one that shows nothing, or an event alone: the instance goes on

  still-is : (s : Effects) → m ≡ move_result-in.Moved s → s ≡ effects-in.Nothing → IsStep {K = K} (view_of b (remaining.Runs (stage.Running i))) (step-in.Passes (view_of (gone b) (remaining.Runs (stage.Running next))))
  still-is s is shows = moved-one s _ is (nothing-step b next s _ shows refl) (refl, refl, refl, refl)

  pub still-on : StepsAreSound → MovesFall → (first : TaskView) → LeadsTo first (view_of b (remaining.Runs (stage.Running i))) → (s : Effects) → m ≡ move_result-in.Moved s → s ≡ effects-in.Nothing →
      moves.path_of next ≡ moves.path_of i → moves.IsInstance plan next → MovesTrail plan m → IsOnRun first (gone b) next
  still-on law fall first leads s is shows path sound trail = record {
    sound = nothing-sound b next s shows (moved-sound law s is path sound trail);
    leads = leads-on fall first _ _ _ leads (still-is s is shows) refl;
  }

  pub still-falls : MovesFall → (s : Effects) → m ≡ move_result-in.Moved s → s ≡ effects-in.Nothing → moves_left (task_of (gone b) (remaining.Runs (stage.Running next))) < moves_left (task_of b (remaining.Runs (stage.Running i)))
  still-falls fall s is shows = falls fall (view_of b (remaining.Runs (stage.Running i))) (view_of (gone b) (remaining.Runs (stage.Running next))) _ (still-is s is shows) refl

  emits-is : (s : Effects) (t : Event) (q : Trace) → m ≡ move_result-in.Moved s → s ≡ effects-in.Emitted t → q ≡ emit t b.trace →
      IsStep {K = K} (view_of b (remaining.Runs (stage.Running i))) (step-in.Passes (view_of (gone (with_trace b q)) (remaining.Runs (stage.Running next))))
  emits-is s t q is shows g = moved-one s _ is (emitted-step b next s t q _ shows g refl) (refl, refl, refl, refl)

  pub emits-on : StepsAreSound → MovesFall → (first : TaskView) → LeadsTo first (view_of b (remaining.Runs (stage.Running i))) → (s : Effects) (t : Event) (q : Trace) → m ≡ move_result-in.Moved s → s ≡ effects-in.Emitted t → q ≡ emit t b.trace →
      moves.path_of next ≡ moves.path_of i → moves.IsInstance plan next → MovesTrail plan m → IsOnRun first (gone (with_trace b q)) next
  emits-on law fall first leads s t q is shows g path sound trail = record {
    sound = emitted-sound b next s t q shows g (moved-sound law s is path sound trail);
    leads = leads-on fall first _ _ _ leads (emits-is s t q is shows g) refl;
  }

  pub emits-falls : MovesFall → (s : Effects) (t : Event) (q : Trace) → m ≡ move_result-in.Moved s → s ≡ effects-in.Emitted t → q ≡ emit t b.trace →
      moves_left (task_of (gone (with_trace b q)) (remaining.Runs (stage.Running next))) < moves_left (task_of b (remaining.Runs (stage.Running i)))
  emits-falls fall s t q is shows g = falls fall (view_of b (remaining.Runs (stage.Running i))) (view_of (gone (with_trace b q)) (remaining.Runs (stage.Running next))) _ (emits-is s t q is shows g) refl

  -- one that ends the moves in a row: a wait at a sync, a value, a fault

  abbrev syncs : Remaining
  syncs = remaining.Runs (stage.AtSync next)

  pub syncs-sound : StepsAreSound → (s : Effects) (t : Event) (q : Trace) → m ≡ move_result-in.Moved s → s ≡ effects-in.Synced t → q ≡ emit t b.trace →
      moves.path_of next ≡ moves.path_of i → moves.IsInstance plan next → MovesTrail plan m → IsSound (waiting (gone (with_trace b q))) syncs
  syncs-sound law s t q is shows g path sound trail =
      let k = synced-sound b next s t q shows g (moved-sound law s is path sound trail) in wait-sound law (gone (with_trace b q)) syncs syncs k refl k.of_plan

  pub syncs-run : MovesFall → (first : TaskView) → LeadsTo first (view_of b (remaining.Runs (stage.Running i))) → (s : Effects) (t : Event) (q : Trace) → m ≡ move_result-in.Moved s → s ≡ effects-in.Synced t → q ≡ emit t b.trace →
      RunsAt b.links.plan (path_of (own_instance b.links.origin)) next → (r : MadeStep K) → r ≡ step-in.Stops (stop-in.Wait (view_of (waiting (gone (with_trace b q))) syncs)) → IsRun first r
  syncs-run fall first leads s t q is shows g at r e = record {
    before = view_of (gone (with_trace b q)) syncs;
    leads = leads-on fall first _ _ _ leads (moved-one s (step-in.Passes (view_of (gone (with_trace b q)) syncs)) is (synced-step b next s t q _ shows g refl) (refl, refl, refl, refl)) refl;
    step = wait-is (gone (with_trace b q)) syncs syncs r at refl e;
  }

  pub gives-run : MovesFall → (first : TaskView) → LeadsTo first (view_of b (remaining.Runs (stage.Running i))) → (v : Value) → m ≡ move_result-in.Returned v →
      (r : MadeStep K) → IsRun (view_of (gone b) (remaining.Runs (stage.Returned v))) r → IsRun first r
  gives-run fall first leads v is r e =
      let now = view_of (gone b) (remaining.Runs (stage.Returned v)) in
      record {
        before = e.before;
        leads = leads-over first now e.before (leads-on fall first _ now _ leads (returned-is v (step-in.Passes now) is refl) refl) e.leads;
        step = e.step;
      }

  pub faults-run : MovesFall → (first : TaskView) → LeadsTo first (view_of b (remaining.Runs (stage.Running i))) → (f : Fault) → m ≡ move_result-in.Faulted f →
      (r : MadeStep K) → IsStep (view_of (gone b) (remaining.Runs (stage.Faulted f))) r → IsRun first r
  faults-run fall first leads f is r e = record {
    before = view_of (gone b) (remaining.Runs (stage.Faulted f));
    leads = leads-on fall first _ _ _ leads (faulted-is f (step-in.Passes (view_of (gone b) (remaining.Runs (stage.Faulted f)))) is refl) refl;
    step = e;
  }

-- Moves in a row

module _ {K : Type 0} (first : TaskView) (b : TaskState K) (i : RawInstance) (h : IsOnRun first b i) where
  run-is : (r : MadeStep K) → IsStep (view_of b (remaining.Runs (stage.Running i))) r → IsRun first r
  run-is r k = record { before = view_of b (remaining.Runs (stage.Running i)); leads = h.leads; step = k }

  pub run-is-ok : {X E : Type 0} (f : X → MadeStep K) (r : Result X E) → IfOk r (λ x. IsStep (view_of b (remaining.Runs (stage.Running i))) (f x)) → IfOk r (λ x. IsRun first (f x))
  run-is-ok f (Ok x) k = run-is (f x) k
  run-is-ok f (Err x) k = tt

-- Moves in a row that show nothing, or an event alone

-- the instance with this in its box
abbrev pub holding : RawInstance → InstanceParts → RawInstance
holding i r = record i { parts = record i.parts { value = r } }

result-gone : (t : meaning.Task) (effects : List Effect) (ending : Result Reached Fault) → meaning.step_result t effects ending ≡ meaning.step_result (record t { advanced = true }) effects ending
result-gone t effects (Ok (Stands m)) = refl
result-gone t effects (Ok (Gives v)) = refl
result-gone t effects (Err f) = refl

-- what comes next where the next step is the same
next-alike : (t other : meaning.Task) (stop : meaning.Stop) → meaning.step t ≡ meaning.step other → IsNext other stop → IsNext t stop
next-alike t other stop same (Now e) = Now (same ∙ e)
next-alike t other stop same (Later next e n) = Later next (same ∙ e) n

module _ {K : Type 0} (b : TaskState K) (i : RawInstance) where
  abbrev on_task : meaning.Task
  on_task = task_of b (remaining.Runs (stage.Running i))

  step-gone : meaning.step on_task ≡ meaning.step (record on_task { advanced = true })
  step-gone = let r = move b.links.plan (path_of (own_instance b.links.origin)) (moves.machine_of b.links.plan i) in result-gone on_task r.items r.ending

  -- an instance that goes on is advanced by its next move anyway
  pub gone-run : (first : TaskView) → IsOnRun first b i → IsOnRun first (gone b) i
  gone-run first h =
      let t = h.sound.task in
      let l = h.leads in
      record {
        sound = record {
          task = record { finishes = t.finishes; known = t.known; clear = t.clear; awaiting = t.awaiting; shown = t.shown; remaining = t.remaining; pending = t.pending; found = t.found };
          links = h.sound.links;
          of_plan = h.sound.of_plan;
        };
        leads = record {
          next = λ stop n. l.next stop (next-alike on_task (record on_task { advanced = true }) stop step-gone n);
          fewer = l.fewer;
          plan = l.plan;
          origin = l.origin;
          children = l.children;
          loads = l.loads;
          joins = l.joins;
          cut = l.cut;
        };
      }

abbrev after : Event → Trace → Trace
after e trace = emit e trace

module _ {K : Type 0} (law : StepsAreSound) (fall : MovesFall) (plan : PlanView) (first : TaskView) (b : TaskState K) (i : RawInstance) (p : plan ≡ b.links.plan) (h : IsOnRun first (gone b) i) where
  straight_run-on : (now : InstanceParts) (trace : Trace) → StraightRun after plan i.parts.value b.trace now trace → IsOnRun first (gone (with_trace b trace)) (holding i now)
  straight_run-on now trace (Still _ _ e q) =
      subst (λ (x : Trace). IsOnRun first (gone (with_trace b x)) (holding i now)) (sym q) (subst (λ (r : InstanceParts). IsOnRun first (gone b) (holding i r)) (sym e) h)
  straight_run-on now trace (More before _ _ straight_run e path sound) =
      let k = straight_run-on before trace straight_run in
      still-on (gone (with_trace b trace)) (holding i before) (holding i now) plan (move_result-in.Moved effects-in.Nothing) p e k.sound law fall first k.leads effects-in.Nothing refl refl path sound tt
  straight_run-on now trace (Emits before _ merging _ t straight_run e q path sound) =
      let k = straight_run-on before merging straight_run in
      emits-on (gone (with_trace b merging)) (holding i before) (holding i now) plan (move_result-in.Moved (effects-in.Emitted t)) p e k.sound law fall first k.leads (effects-in.Emitted t) t trace refl refl q path sound tt

-- where the moves in a row came to, before the last one
pub straight_run-run : {K : Type 0} → StepsAreSound → MovesFall → (plan : PlanView) (b : TaskState K) (i : RawInstance) → plan ≡ b.links.plan → IsSound b (remaining.Runs (stage.Running i)) → (now : InstanceParts) (trace : Trace) → StraightRun after plan i.parts.value b.trace now trace →
    IsOnRun (view_of b (remaining.Runs (stage.Running i))) (gone (with_trace b trace)) (holding i now)
straight_run-run law fall plan b i p sound now trace straight_run =
    let first = view_of b (remaining.Runs (stage.Running i)) in
    straight_run-on law fall plan first b i p (gone-run b i first (record { sound = sound; leads = leads-start first refl })) now trace straight_run

pub on-run-over : {K : Type 0} (first : TaskView) (b c : TaskState K) (i j : RawInstance) → IsOnRun first b i → IsOnRun (view_of b (remaining.Runs (stage.Running i))) c j → IsOnRun first c j
on-run-over first b c i j h k = record { sound = k.sound; leads = leads-over first _ _ h.leads k.leads }

-- moves in a row after which the trace is still this one
pub comes-heard : (plan : PlanView) (i : RawInstance) (start : Trace) (now : RawInstance) (sent heard : Trace) (next : Option Stmt) → heard ≡ sent → moves.ComesToStatement after plan i start now sent next → moves.ComesToStatement after plan i start now heard next
comes-heard plan i start now sent heard next same came = subst (λ (t : Trace). moves.ComesToStatement after plan i start now t next) (sym same) came

-- A move of an instance to which moves in a row have led. This much was left before them.
pub record IsLast {K : Type 0} (first : TaskView) (b : TaskState K) (left : ℕ) (plan : PlanView) (m : MoveResult) (new : RawInstance) : Type 0 where
  pub before : RawInstance
  pub runs : IsOnRun first b before
  pub fewer : moves_left (task_of b (remaining.Runs (stage.Running before))) ≤ left
  pub last : move plan (moves.path_of before) (moves.machine_of plan before) ≡ run_of m (moves.machine_of plan new)
  pub path : moves.path_of new ≡ moves.path_of before
  pub sound : moves.IsInstance plan new

-- The instance to which moves in a row came, which a spawn may have looked at since, and one move more of it.
module _ {K : Type 0} (law : StepsAreSound) (fall : MovesFall) (plan : PlanView) (first : TaskView) (b : TaskState K) (i : RawInstance) (p : plan ≡ b.links.plan) (h : IsOnRun first b i) (now : RawInstance) (sent : Trace) (next : Option Stmt) (came : moves.ComesToStatement after plan i b.trace now sent next) (from : RawInstance) (same : from.parts.value ≡ now.parts.value) where
  pub came-sound : moves.IsInstance plan from
  came-sound = subst (λ (r : InstanceParts). instance_parts.IsInstance plan r) (sym same) (comes-sound after plan i.parts.value b.trace now.parts.value sent next came)

  pub came-has : (at : Option Stmt) → next ≡ at → moves.HasPassedStatement plan from at
  came-has at is =
      subst (λ (o : Option Stmt). straight_runs.HasPassedStatement plan from.parts.value o) is
      (subst (λ (r : InstanceParts). straight_runs.HasPassedStatement plan r next) (sym same) (comes-has after plan i.parts.value b.trace now.parts.value sent next came))

  pub one-more : (at : Option Stmt) → next ≡ at → (new : RawInstance) (m : MoveResult) → move plan (moves.path_of from) (moves.unpassed plan from at) ≡ run_of m (moves.machine_of plan new) → moves.path_of new ≡ moves.path_of from → moves.IsInstance plan new →
      IsLast first (gone (with_trace b sent)) (moves_left (task_of b (remaining.Runs (stage.Running i)))) plan m new
  one-more at is new m e path sound =
      let k : move plan (instance_parts.path_of now.parts.value) (straight_runs.unpassed plan now.parts.value next) ≡ run_of m (moves.machine_of plan new) =
      subst (λ (o : Option Stmt). move plan (instance_parts.path_of now.parts.value) (straight_runs.unpassed plan now.parts.value o) ≡ run_of m (moves.machine_of plan new)) (sym is)
      (subst (λ (r : InstanceParts). move plan (instance_parts.path_of r) (straight_runs.unpassed plan r at) ≡ run_of m (moves.machine_of plan new)) same e) in
      let r : moves.RunsOn after plan i b.trace m new sent = comes-moved after plan i.parts.value b.trace now.parts.value sent next came {E = Unit {0}} (Ok m) new.parts.value k in
      let q = straight_run-run law fall plan b i p h.sound r.before sent r.straight_run in
      record {
        before = holding i r.before;
        runs = on-run-over first b (gone (with_trace b sent)) i (holding i r.before) h q;
        fewer = q.leads.fewer;
        last = r.last;
        path = path ∙ ap (λ (r : InstanceParts). instance_parts.path_of r) same ∙ comes-path after plan i.parts.value b.trace now.parts.value sent next came ∙ h.sound.of_plan.at ∙ sym q.sound.of_plan.at;
        sound = sound;
      }
