-- What a task gives in the end, where a move shows something more.
use Rattle.std.proofs.Common.{◌≡◌, List, [], ◌∷◌, ◌++◌, Option, Some, None, Ok, refl, sym, ap, ◌∙◌, append_assoc, append-nil}
use Rattle.serial_meaning.specs.Runs.{Run, done, after_items, ◌then◌}
use Rattle.serial_meaning.specs.Eval.{Evaluation}
use Rattle.serial_meaning.specs.Open.{Item, NodeFault}
use Rattle.serial_meaning.proofs.Equations.RunLaws.{then-then, then-same}
use Rattle.serial_meaning.proofs.Equations.Each.{Each}
use Rattle.serial_meaning.specs.declared.value.Value.{Value}
use Rattle.serial_meaning.specs.declared.event.Fault.{Fault}
use Rattle.serial_meaning.specs.declared.event.Event.{Event}
use Rattle.serial_meaning.specs.declared.origin.Origin.{Origin}
use Rattle.strand_meaning.specs.Machine.{Destination, Spawned, Looped, Half, Effect, Opens, Closes, Emitted, Starts, Syncs, Loops}
use Rattle.strand_meaning.specs.Trace.{AwaitedChild, Trace, after_last, emit, emit_at, add_child, with_effects}
use Rattle.strand_meaning.specs.Task.{more_values}
use Rattle.strand_meaning.specs.Rest.{closed_run, prefix_run, awaited_run}
use Rattle.strand_meaning.specs.Observation.{effect_items}
use Rattle.strand_meaning.proofs.SoundSteps.ChildrenCloseNodes.{after-then}

-- a child of an instance
abbrev pub NotHalf : Effect → Type 0
NotHalf (Opens j) = Unit {0}
NotHalf (Closes j) = Unit {0}
NotHalf (Emitted e) = Unit {0}
NotHalf (Starts o (Spawned height target)) = Unit {0}
NotHalf (Starts o (Looped target)) = Unit {0}
NotHalf (Starts o Half) = ⊥
NotHalf Syncs = Unit {0}
NotHalf Loops = Unit {0}

module _ (child : Origin → Evaluation) where
  -- a trace, and then the rest
  abbrev pub so_far : Trace → List Value → (List Value → Evaluation) → Evaluation
  so_far trace values tail = prefix_run trace then λ u. awaited_run child trace.unmerged values then tail

  -- what effects show, and then the rest
  abbrev pub effects_then : List Effect → Evaluation → Evaluation
  effects_then [] r = r
  effects_then (Opens j ∷ ts) r = effects_then ts r
  effects_then (Closes j ∷ ts) r = effects_then ts r
  effects_then (Emitted e ∷ ts) r = after_items (e ∷ []) (effects_then ts r)
  effects_then (Starts o destination ∷ ts) r = child o then λ vs. effects_then ts r
  effects_then (Syncs ∷ ts) r = effects_then ts r
  effects_then (Loops ∷ ts) r = effects_then ts r

  parts-emit : (p : AwaitedChild) (ps : List AwaitedChild) (e : Event) (values : List Value) (tail : List Value → Evaluation) →
      (awaited_run child (after_last p ps e) values then tail) ≡ (awaited_run child (p ∷ ps) values then λ vs. after_items (e ∷ []) (tail vs))
  parts-emit p [] e values tail =
      then-then (child p.child) (λ vs. after_items (p.after ++ e ∷ []) (done (more_values p.destination (Ok vs) values))) tail
      ∙ then-same (child p.child) _ _ (λ vs h. one (more_values p.destination (Ok vs) values))
      ∙ sym (then-then (child p.child) (λ vs. after_items p.after (done (more_values p.destination (Ok vs) values))) (λ vs. after_items (e ∷ []) (tail vs)))
    where
      one : (vs : List Value) → (after_items (p.after ++ e ∷ []) (done vs) then tail) ≡ (after_items p.after (done vs) then λ vs. after_items (e ∷ []) (tail vs))
      one vs =
          ap (λ (l : List Event). after_items l (tail vs)) (append-nil (p.after ++ e ∷ []) ∙ ap (λ (l : List Event). l ++ e ∷ []) (sym (append-nil p.after)))
          ∙ ap (λ (l : List Event). record { items = l; ending = (tail vs).ending }) (append_assoc (p.after ++ []) (e ∷ []) (tail vs).items)
  parts-emit p (q ∷ qs) e values tail =
      then-then (child p.child) (λ vs. after_items p.after (awaited_run child (after_last q qs e) (more_values p.destination (Ok vs) values))) tail
      ∙ then-same (child p.child) _ _ (λ vs h. after-then p.after (awaited_run child (after_last q qs e) (more_values p.destination (Ok vs) values)) tail
      ∙ ap (after_items p.after) (parts-emit q qs e (more_values p.destination (Ok vs) values) tail)
      ∙ sym (after-then p.after (awaited_run child (q ∷ qs) (more_values p.destination (Ok vs) values)) (λ vs. after_items (e ∷ []) (tail vs))))
      ∙ sym (then-then (child p.child) (λ vs. after_items p.after (awaited_run child (q ∷ qs) (more_values p.destination (Ok vs) values))) (λ vs. after_items (e ∷ []) (tail vs)))

  emit-so_far : (e : Event) (trace : Trace) (values : List Value) (tail : List Value → Evaluation) → so_far (emit e trace) values tail ≡ so_far trace values (λ vs. after_items (e ∷ []) (tail vs))
  emit-so_far e trace values tail = by_parts trace.unmerged trace.fault
    where
      by_parts : (ps : List AwaitedChild) (f : Option Fault) →
          so_far (emit_at ps e (record { prefix = trace.prefix; fault = f; unmerged = ps })) values tail ≡ so_far (record { prefix = trace.prefix; fault = f; unmerged = ps }) values (λ vs. after_items (e ∷ []) (tail vs))
      by_parts [] None = ap (λ (l : List Event). record { items = l; ending = (tail values).ending }) (append_assoc trace.prefix (e ∷ []) (tail values).items)
      by_parts [] (Some f) = refl
      by_parts (p ∷ ps) None = ap (after_items trace.prefix) (parts-emit p ps e values tail)
      by_parts (p ∷ ps) (Some f) = refl

  parts-add_child : (ps : List AwaitedChild) (p : AwaitedChild) (values : List Value) (tail : List Value → Evaluation) →
      (awaited_run child (ps ++ p ∷ []) values then tail) ≡ (awaited_run child ps values then λ vs. child p.child then λ ws. after_items p.after (tail (more_values p.destination (Ok ws) vs)))
  parts-add_child [] p values tail =
      then-then (child p.child) (λ vs. after_items p.after (done (more_values p.destination (Ok vs) values))) tail
      ∙ then-same (child p.child) _ _ (λ vs h. ap (λ (l : List Event). after_items l (tail (more_values p.destination (Ok vs) values))) (append-nil p.after))
  parts-add_child (q ∷ qs) p values tail =
      let hence : List Value → Evaluation = λ vs. child p.child then λ ws. after_items p.after (tail (more_values p.destination (Ok ws) vs)) in
      then-then (child q.child) (λ vs. after_items q.after (awaited_run child (qs ++ p ∷ []) (more_values q.destination (Ok vs) values))) tail
      ∙ then-same (child q.child) _ _ (λ vs h. after-then q.after (awaited_run child (qs ++ p ∷ []) (more_values q.destination (Ok vs) values)) tail
      ∙ ap (after_items q.after) (parts-add_child qs p (more_values q.destination (Ok vs) values) tail)
      ∙ sym (after-then q.after (awaited_run child qs (more_values q.destination (Ok vs) values)) hence))
      ∙ sym (then-then (child q.child) (λ vs. after_items q.after (awaited_run child qs (more_values q.destination (Ok vs) values))) hence)

  prefix-same : (trace : Trace) (r q : Evaluation) → r ≡ q → (prefix_run trace then λ u. r) ≡ (prefix_run trace then λ u. q)
  prefix-same trace r q h = ap (λ (s : Evaluation). prefix_run trace then λ u. s) h

  pub add_child-so_far : (o : Origin) (destination : Destination) (trace : Trace) (values : List Value) (tail : List Value → Evaluation) →
      so_far (add_child o destination trace) values tail ≡ so_far trace values (λ vs. child o then λ ws. tail (more_values destination (Ok ws) vs))
  add_child-so_far o destination trace values tail =
      prefix-same trace _ _ (parts-add_child trace.unmerged (record { child = o; destination = destination; after = [] }) values tail)

  -- What a move showed stands after the trace, and before the rest.
  pub effects-so_far : (ts : List Effect) → Each NotHalf ts → (trace : Trace) (values : List Value) (tail : List Value → Evaluation) →
      so_far (with_effects ts trace) values tail ≡ so_far trace values (λ vs. effects_then ts (tail vs))
  effects-so_far [] own trace values tail = refl
  effects-so_far (Opens j ∷ ts) own trace values tail = effects-so_far ts own.1 trace values tail
  effects-so_far (Closes j ∷ ts) own trace values tail = effects-so_far ts own.1 trace values tail
  effects-so_far (Emitted e ∷ ts) own trace values tail = effects-so_far ts own.1 (emit e trace) values tail ∙ emit-so_far e trace values (λ vs. effects_then ts (tail vs))
  effects-so_far (Starts o (Spawned height target) ∷ ts) own trace values tail =
      effects-so_far ts own.1 (add_child o (Spawned height target) trace) values tail ∙ add_child-so_far o (Spawned height target) trace values (λ vs. effects_then ts (tail vs))
  effects-so_far (Starts o (Looped target) ∷ ts) own trace values tail =
      effects-so_far ts own.1 (add_child o (Looped target) trace) values tail ∙ add_child-so_far o (Looped target) trace values (λ vs. effects_then ts (tail vs))
  effects-so_far (Starts o Half ∷ ts) own trace values tail = absurd own.0
  effects-so_far (Syncs ∷ ts) own trace values tail = effects-so_far ts own.1 trace values tail
  effects-so_far (Loops ∷ ts) own trace values tail = effects-so_far ts own.1 trace values tail

-- each child that effects begin gives the same by both
abbrev pub SameChild : (Origin → Evaluation) → (Origin → Evaluation) → Effect → Type 0
SameChild some other (Opens j) = Unit {0}
SameChild some other (Closes j) = Unit {0}
SameChild some other (Emitted e) = Unit {0}
SameChild some other (Starts o destination) = some o ≡ other o
SameChild some other Syncs = Unit {0}
SameChild some other Loops = Unit {0}

pub effects_then-closed : (some other : Origin → Evaluation) (ts : List Effect) → Each (SameChild some other) ts → {A : Type 0} (r : Run Item NodeFault A) (go : A → Evaluation) →
    (closed_run some (after_items (effect_items ts) r) then go) ≡ effects_then other ts (closed_run some r then go)
effects_then-closed some other [] same r go = refl
effects_then-closed some other (Opens j ∷ ts) same r go = effects_then-closed some other ts same.1 r go
effects_then-closed some other (Closes j ∷ ts) same r go = effects_then-closed some other ts same.1 r go
effects_then-closed some other (Emitted e ∷ ts) same r go = after-then (e ∷ []) (closed_run some (after_items (effect_items ts) r)) go ∙ ap (after_items (e ∷ [])) (effects_then-closed some other ts same.1 r go)
effects_then-closed some other (Starts o destination ∷ ts) same r go =
    then-then (some o) (λ vs. closed_run some (after_items (effect_items ts) r)) go
    ∙ ap (λ (q : Evaluation). some o then λ vs. q) (effects_then-closed some other ts same.1 r go)
    ∙ ap (λ (q : Evaluation). q then λ vs. effects_then other ts (closed_run some r then go)) same.0
effects_then-closed some other (Syncs ∷ ts) same r go = effects_then-closed some other ts same.1 r go
effects_then-closed some other (Loops ∷ ts) same r go = effects_then-closed some other ts same.1 r go
