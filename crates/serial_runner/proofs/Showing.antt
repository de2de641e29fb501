-- The children among what a task of an instance shows up to its next stop: the one that it begins there, and no other.
use Rattle.std.proofs.Common.{◌≡◌, true, false, List, [], ◌∷◌, ◌++◌, Option, Some, None, Result, Ok, Err, refl, sym, ap, ◌∙◌, subst}
use Rattle.loop_range.specs.Range.{Range}
use Rattle.serial_meaning.specs.Eval.{path_of}
use Rattle.serial_meaning.specs.Open.{Item, Own, ChildFaulted}
use Rattle.serial_meaning.specs.declared.value.Value.{Value}
use Rattle.serial_meaning.specs.declared.event.Fault.{Fault}
use Rattle.serial_meaning.specs.declared.origin.Origin.{Origin}
use Rattle.serial_meaning.specs.declared.origin.Origin.TheVariants.{Instance, Loop}
use Rattle.serial_meaning.specs.declared.answer.Outcome.{Outcome}
use Rattle.strand_meaning.specs.Machine.{Effect, Opens, Closes, Emitted, Starts, Syncs, Loops, Reached, Stands, Gives, move}
use Rattle.strand_meaning.specs.Observation.{IsInstanceOrigin, Observation, effect_items, remaining_observation, step_observation, Shows, Now, Later}
use Rattle.strand_meaning.specs.Trace.{AwaitedChild}
use Rattle.strand_meaning.specs.Task.{Running, AtSync, AtLoop, Ended, Remaining, Splits, Runs, Finished, Task, own_instance, MoveOrStop, Passes, Stops, Stop, Spawn, Wait, End, stage_after, child_in, stops_at, passing, step_result, ends_unless, faults_after, returned, remaining_step}
use Rattle.strand_meaning.specs.Sound.{IsEndOf, IsLoop, IsSoundRemaining, IsTask}
use Rattle.strand_meaning.specs.Laws.{IsSoundStep}
use Rattle.strand_meaning.proofs.SoundSteps.StepsKeepTasks.{steps_are_sound}
use Rattle.strand_meaning.proofs.NextStops.OneSoundStop.{KeepsStep, step-keeps}
use Rattle.serial_runner.proofs.Shows.{children, AtMostOne, MoveStarts, move_starts}
use Rattle.serial_runner.proofs.Starts.{first, child-first}
use Rattle.serial_runner.proofs.Observing.{item_children, children-append}

effect-children : (ts : List Effect) → item_children (effect_items ts) ≡ children ts
effect-children [] = refl
effect-children (Opens j ∷ ts) = effect-children ts
effect-children (Closes j ∷ ts) = effect-children ts
effect-children (Emitted e ∷ ts) = effect-children ts
effect-children (Starts o destination ∷ ts) = ap (λ l. o ∷ l) (effect-children ts)
effect-children (Syncs ∷ ts) = effect-children ts
effect-children (Loops ∷ ts) = effect-children ts

abbrev ShowsStep : List Item → MoveOrStop → Type 0
ShowsStep is (Passes next) = item_children is ≡ []
ShowsStep is (Stops (Spawn child rest)) = item_children is ≡ child ∷ []
ShowsStep is (Stops (Wait rest)) = item_children is ≡ []
ShowsStep is (Stops (End out ended)) = item_children is ≡ []

pub no_end : (o : Origin) (left : Range) → IsInstanceOrigin o → IsEndOf o left → ⊥
no_end (Instance function args path) left i e = e
no_end (Loop function rest first path range) left i e = i

pub no_loop : (o : Origin) → IsInstanceOrigin o → IsLoop o → ⊥
no_loop (Instance function args path) i e = e
no_loop (Loop function rest first path range) i e = i

module _ (t : Task) where
  at-end : (f : Option Fault) (ended : Outcome) → ShowsStep [] (ends_unless f t ended)
  at-end None ended = refl
  at-end (Some f) ended = refl

  at-child : (is : List Item) (os : List Origin) (o : Option Origin) (next : Task) → item_children is ≡ os → o ≡ first os → AtMostOne t.plan (path_of (own_instance t.origin)) os → ShowsStep is (stops_at o next)
  at-child is [] None next h e k = h
  at-child is [] (Some o) next h e k = absurd (cc)
  at-child is (c ∷ []) None next h e k = absurd (cc)
  at-child is (c ∷ []) (Some o) next h e k = let same : c ≡ o = cc in h ∙ ap (λ d. d ∷ []) same
  at-child is (c ∷ d ∷ os) o next h e k = absurd k

  at-move : (ts : List Effect) (e : Result Reached Fault) → MoveStarts t.plan (path_of (own_instance t.origin)) (children ts) e → ShowsStep (effect_items ts) (step_result t ts e)
  at-move ts (Ok (Stands m)) h = at-child (effect_items ts) (children ts) (child_in ts) (passing t ts (Runs (stage_after ts m))) (effect-children ts) (child-first ts) h
  at-move ts (Ok (Gives v)) h = effect-children ts ∙ h
  at-move ts (Err f) h = effect-children ts ∙ h

  at-fault : (ps : List AwaitedChild) (f : Fault) → ShowsStep [] (faults_after ps t f)
  at-fault [] f = at-end t.trace.fault _
  at-fault (p ∷ ps) f = refl

  at-value : (o : Origin) (v : Value) → ShowsStep [] (returned t o v)
  at-value (Instance function args path) v = at-end t.trace.fault _
  at-value (Loop function rest first path range) v = refl

  at-remaining : (remaining : Remaining) → IsInstanceOrigin t.origin → IsSoundRemaining t.plan t.origin t.trace.unmerged remaining → ShowsStep (remaining_observation t.plan (path_of (own_instance t.origin)) remaining).items (remaining_step t remaining)
  at-remaining (Splits left) i is = absurd (no_end t.origin left i is.0)
  at-remaining (Runs (Running m)) i is =
      let path = path_of (own_instance t.origin) in let r = move t.plan path m in at-move r.items r.ending (move_starts t.plan path m)
  at-remaining (Runs (AtSync m)) i is = refl
  at-remaining (Runs (AtLoop m)) i is = refl
  at-remaining (Runs (Ended (Ok v))) i is = at-value t.origin v
  at-remaining (Runs (Ended (Err (Own f)))) i is = at-fault t.trace.unmerged f
  at-remaining (Runs (Ended (Err (ChildFaulted f)))) i is = at-end t.trace.fault _
  at-remaining (Finished v true) i is = absurd (no_loop t.origin i is.0)
  at-remaining (Finished v false) i is = absurd (no_loop t.origin i is.0)

abbrev pub ShowsStop : List Item → Stop → Type 0
ShowsStop is stop = ShowsStep is (Stops stop)

shows-more : (is more : List Item) (stop : Stop) → item_children is ≡ [] → ShowsStop more stop → ShowsStop (is ++ more) stop
shows-more is more (Spawn child rest) h k = children-append is more ∙ ap (λ l. l ++ item_children more) h ∙ k
shows-more is more (Wait rest) h k = children-append is more ∙ ap (λ l. l ++ item_children more) h ∙ k
shows-more is more (End out ended) h k = children-append is more ∙ ap (λ l. l ++ item_children more) h ∙ k

pub stops_show : (t : Task) (observation : Observation) (stop : Stop) → IsTask t → IsInstanceOrigin t.origin → Shows t observation stop → ShowsStop observation.items stop
stops_show t observation stop is i (Now h e) =
    let k : ShowsStop (step_observation t).items stop = subst (ShowsStep (step_observation t).items) h (at-remaining t t.remaining i is.remaining) in
    subst (λ (l : List Item). ShowsStop l stop) (sym (ap (λ (m : Observation). m.items) e)) k
stops_show t observation stop is i (Later next later h n e) =
    let same : KeepsStep t (Passes next) = subst (KeepsStep t) h (step-keeps t) in
    let shown : ShowsStep (step_observation t).items (Passes next) = subst (ShowsStep (step_observation t).items) h (at-remaining t t.remaining i is.remaining) in
    subst (λ (l : List Item). ShowsStop l stop) (sym (ap (λ (m : Observation). m.items) e))
    (shows-more (step_observation t).items later.items stop shown (stops_show next later stop (subst (IsSoundStep t) h (steps_are_sound t is)) (subst IsInstanceOrigin (sym same.1) i) n))
