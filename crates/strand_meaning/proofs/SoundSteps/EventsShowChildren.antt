-- Each child that a task began is shown by the events before it.
use Rattle.std.proofs.Common.{◌≡◌, ℕ, Bool, true, false, List, [], ◌∷◌, ◌++◌, Option, None, refl, sym, ap, ◌∙◌, subst, append_assoc, append-nil}
use Rattle.std.specs.Prelude.{Contains}
use Rattle.std.proofs.lemmas.List.Elements.{Contains-append_right}
use Rattle.serial_meaning.specs.Laws.{raising_pedigrees}
use Rattle.serial_meaning.specs.Plan.{PlanView}
use Rattle.serial_meaning.specs.Eval.{path_of}
use Rattle.serial_meaning.proofs.RisingPedigrees.Rising.{places-append}
use Rattle.script_grammar.specs.declared.tree.Name.{Name}
use Rattle.serial_meaning.specs.declared.event.Fault.{Fault}
use Rattle.serial_meaning.specs.declared.event.Event.{Event}
use Rattle.serial_meaning.specs.declared.event.Event.TheVariants as event
use Rattle.serial_meaning.specs.declared.origin.Origin.{Origin}
use Rattle.strand_meaning.specs.Machine.{Destination, Spawned, Looped, Effect, Opens, Closes, Emitted, Starts, Syncs, Loops, Machine, sync_effects, loop_effects, move}
use Rattle.strand_meaning.specs.Trace.{AwaitedChild, Trace, prefix_unless, after_last, emit, emit_at, add_child, with_effects}
use Rattle.strand_meaning.specs.Task.{own_instance}
use Rattle.strand_meaning.specs.Sound.{IsBegunBy, IsShownAs, AreShownBy}
use Rattle.strand_meaning.proofs.Unfilled.UntouchedStays.{first-contained}
use Rattle.strand_meaning.proofs.SoundSteps.ChildrenFollowEvents.{Begins, EffectRules, effects-move}

-- the events before the next child
abbrev pub front_of : List Event → List AwaitedChild → List Event
front_of events [] = events
front_of events (p ∷ ps) = front_of p.after ps

pub shown-more : (plan : PlanView) (o : Origin) (front : List AwaitedChild) (events : List Event) (ps : List AwaitedChild) (q : AwaitedChild) → AreShownBy plan o front events ps →
    IsShownAs q.destination plan o (front ++ ps) (front_of events ps) q.child → AreShownBy plan o front events (ps ++ q ∷ [])
shown-more plan o front events [] q h k = (subst (λ (l : List AwaitedChild). IsShownAs q.destination plan o l events q.child) (append-nil front) k, tt)
shown-more plan o front events (p ∷ ps) q h k = (
  h.0,
  shown-more plan o (front ++ p ∷ []) p.after ps q h.1
      (subst (λ (l : List AwaitedChild). IsShownAs q.destination plan o l (front_of p.after ps) q.child) (sym (append_assoc front (p ∷ []) ps)) k),
)

-- An event of the task's own

emit-fault : (e : Event) (trace : Trace) → (emit e trace).fault ≡ trace.fault
emit-fault e trace = by_parts trace.unmerged
  where
    by_parts : (ps : List AwaitedChild) → (emit_at ps e trace).fault ≡ trace.fault
    by_parts [] = refl
    by_parts (p ∷ ps) = refl

pub effects-fault : (ts : List Effect) (trace : Trace) → (with_effects ts trace).fault ≡ trace.fault
effects-fault [] trace = refl
effects-fault (Opens j ∷ ts) trace = effects-fault ts trace
effects-fault (Closes j ∷ ts) trace = effects-fault ts trace
effects-fault (Emitted e ∷ ts) trace = effects-fault ts (emit e trace) ∙ emit-fault e trace
effects-fault (Starts o destination ∷ ts) trace = effects-fault ts (add_child o destination trace)
effects-fault (Syncs ∷ ts) trace = effects-fault ts trace
effects-fault (Loops ∷ ts) trace = effects-fault ts trace

effects-one-by-one : (xs ys : List Effect) (trace : Trace) → with_effects (xs ++ ys) trace ≡ with_effects ys (with_effects xs trace)
effects-one-by-one [] ys trace = refl
effects-one-by-one (Opens j ∷ xs) ys trace = effects-one-by-one xs ys trace
effects-one-by-one (Closes j ∷ xs) ys trace = effects-one-by-one xs ys trace
effects-one-by-one (Emitted e ∷ xs) ys trace = effects-one-by-one xs ys (emit e trace)
effects-one-by-one (Starts o destination ∷ xs) ys trace = effects-one-by-one xs ys (add_child o destination trace)
effects-one-by-one (Syncs ∷ xs) ys trace = effects-one-by-one xs ys trace
effects-one-by-one (Loops ∷ xs) ys trace = effects-one-by-one xs ys trace

after-shown : (plan : PlanView) (o : Origin) (front : List AwaitedChild) (events : List Event) (p : AwaitedChild) (ps : List AwaitedChild) (e : Event) → AreShownBy plan o front events (p ∷ ps) →
    AreShownBy plan o front events (after_last p ps e)
after-shown plan o front events p [] e h = h
after-shown plan o front events p (q ∷ qs) e h = (h.0, after-shown plan o (front ++ p ∷ []) p.after q qs e h.1)

after-front : (events : List Event) (p : AwaitedChild) (ps : List AwaitedChild) (e : Event) → front_of events (after_last p ps e) ≡ front_of events (p ∷ ps) ++ e ∷ []
after-front events p [] e = refl
after-front events p (q ∷ qs) e = after-front p.after q qs e

front-prefix : (e : Event) (trace : Trace) → trace.fault ≡ None → front_of (emit e trace).prefix (emit e trace).unmerged ≡ front_of trace.prefix trace.unmerged ++ e ∷ []
front-prefix e trace none = by_parts trace.unmerged
  where
    by_parts : (ps : List AwaitedChild) → let q : Trace = emit_at ps e (record { prefix = trace.prefix; fault = trace.fault; unmerged = ps }) in front_of q.prefix q.unmerged ≡ front_of trace.prefix ps ++ e ∷ []
    by_parts [] = ap (λ (f : Option Fault). prefix_unless f trace.prefix (e ∷ [])) none
    by_parts (p ∷ ps) = after-front trace.prefix p ps e

module _ (plan : PlanView) (o : Origin) where
  abbrev pub Shown : Trace → Type 0
  Shown trace = AreShownBy plan o [] trace.prefix trace.unmerged

  emit-shown : (e : Event) (trace : Trace) → Shown trace → Shown (emit e trace)
  emit-shown e trace h = by_parts trace.unmerged h
    where
      by_parts : (ps : List AwaitedChild) → AreShownBy plan o [] trace.prefix ps → Shown (emit_at ps e (record { prefix = trace.prefix; fault = trace.fault; unmerged = ps }))
      by_parts [] s = tt
      by_parts (p ∷ ps) s = after-shown plan o [] trace.prefix p ps e s

  abbrev own_path : List ℕ
  own_path = path_of (own_instance o)

  -- a child after the event by which it begins
  begun-shown : (e : Event) (c : Origin) (destination : Destination) → ((front : List AwaitedChild) (events : List Event) → IsBegunBy o events c → IsShownAs destination plan o front events c) →
      Begins own_path e c → (trace : Trace) → trace.fault ≡ None → Shown trace → Shown (add_child c destination (emit e trace))
  begun-shown e c destination own b trace none h =
      let next : Trace = emit e trace in
      shown-more plan o [] next.prefix next.unmerged (record { child = c; destination = destination; after = [] }) (emit-shown e trace h)
      (own next.unmerged (front_of next.prefix next.unmerged) (record { rank = b.rank; more = b.more; at = b.at; whole = b.whole; event = there }))
    where
      old : List Event
      old = front_of trace.prefix trace.unmerged

      last : Contains (raising_pedigrees old ++ path_of c ∷ []) (path_of c)
      last = Contains-append_right (raising_pedigrees old) (path_of c ∷ []) (path_of c) (first-contained (path_of c) [])

      there : Contains (raising_pedigrees (front_of (emit e trace).prefix (emit e trace).unmerged)) (path_of c)
      there = subst (λ (l : List (List ℕ)). Contains l (path_of c)) (sym (ap raising_pedigrees (front-prefix e trace none) ∙ places-append old (e ∷ []) ∙ ap (λ (l : List (List ℕ)). raising_pedigrees old ++ l) b.raised_at)) last

  -- effects after which all is still shown
  abbrev pub KeepsShown : List Effect → Type 0
  KeepsShown ts = (trace : Trace) → trace.fault ≡ None → Shown trace → Shown (with_effects ts trace)

  shows-more : (xs ys : List Effect) → KeepsShown xs → KeepsShown ys → KeepsShown (xs ++ ys)
  shows-more xs ys h k trace none s =
      subst Shown (sym (effects-one-by-one xs ys trace)) (k (with_effects xs trace) (effects-fault xs trace ∙ none) (h trace none s))

  shows : EffectRules own_path KeepsShown
  shows = record {
    none = λ trace none s. s;
    more = shows-more;
    prefix = λ e trace none s. emit-shown e trace s;
    spawned = λ e c height target begins trace none s. begun-shown e c (Spawned height target) (λ front events b. b) begins trace none s;
    synced = at_sync;
    looped = at_loop;
    opened = λ j trace none s. s;
    closed = λ j trace none s. s;
  }
    where
      at_sync : (j : List ℕ) (b : Bool) → KeepsShown (Emitted (event.Sync j) ∷ sync_effects b)
      at_sync j true trace none s = emit-shown (event.Sync j) trace s
      at_sync j false trace none s = emit-shown (event.Sync j) trace s

      at_loop : (e : Event) (c : Origin) (target : Option Name) (b : Bool) → Begins own_path e c → KeepsShown (Emitted e ∷ loop_effects b c (Looped target))
      at_loop e c target true begins trace none s = emit-shown e trace s
      at_loop e c target false begins trace none s = begun-shown e c (Looped target) (λ front events b. b) begins trace none s

  -- A move begins no child but after the event by which it begins.
  pub move-shows : (m : Machine) → KeepsShown (move plan own_path m).items
  move-shows m = effects-move KeepsShown plan own_path shows m
