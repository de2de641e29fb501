-- Parts that differ only in the events after them.
use Rattle.std.proofs.Common.{◌≡◌, ℕ, ◌||◌, List, [], ◌∷◌, ◌++◌, Option, Ok, Err, length, refl, sym, ap, append_assoc, append-nil, subst}
use Rattle.serial_meaning.specs.Plan.{PlanView}
use Rattle.serial_meaning.specs.Names.{Names}
use Rattle.serial_meaning.specs.Eval.{Evaluation}
use Rattle.serial_meaning.specs.Open.{Own, ChildFaulted}
use Rattle.serial_meaning.specs.declared.event.Event.{Event}
use Rattle.serial_meaning.specs.declared.origin.Origin.{Origin}
use Rattle.script_grammar.specs.declared.tree.Name.{Name}
use Rattle.strand_meaning.specs.Clear.{IsApart, target_names}
use Rattle.strand_meaning.specs.Machine.{Destination, Effect, Opens, Closes, Emitted, Starts, Syncs, Loops, Frame}
use Rattle.strand_meaning.specs.Trace.{AwaitedChild, Trace, after_last, emit, emit_at, add_child, with_effects}
use Rattle.strand_meaning.specs.Task.{Stage, Running, AtSync, AtLoop, Ended, takes, takes_all}
use Rattle.strand_meaning.specs.Rest.{evaluations}
use Rattle.strand_meaning.specs.Sound.{unfilled_by, unfilled, is_by, any_by, AreSound, AreDestinations, AreHalves, IsSoundStage, AreSoundChildren}
use Rattle.strand_meaning.proofs.Unfilled.RestAfterEffects.{effect_parts}
use Rattle.strand_meaning.proofs.Unfilled.SoundMoves.{sound-as}

pub data Alike : List AwaitedChild → List AwaitedChild → Type 0 where
  End : Alike [] []
  Next : {ps qs : List AwaitedChild} (child : Origin) (destination : Destination) (before after : List Event) → Alike ps qs →
      Alike (record { child = child; destination = destination; after = before } ∷ ps) (record { child = child; destination = destination; after = after } ∷ qs)

pub alike-itself : (ps : List AwaitedChild) → Alike ps ps
alike-itself [] = End
alike-itself (p ∷ ps) = Next p.child p.destination p.after p.after (alike-itself ps)

pub alike-then : {ps qs rs : List AwaitedChild} → Alike ps qs → Alike qs rs → Alike ps rs
alike-then End b = b
alike-then (Next child destination before after a) (Next c p f g b) = Next child destination before g (alike-then a b)

alike-append : {ps qs : List AwaitedChild} (rs : List AwaitedChild) → Alike ps qs → Alike (ps ++ rs) (qs ++ rs)
alike-append rs End = alike-itself rs
alike-append rs (Next child destination before after a) = Next child destination before after (alike-append rs a)

alike-after : (p : AwaitedChild) (ps : List AwaitedChild) (e : Event) → Alike (p ∷ ps) (after_last p ps e)
alike-after p [] e = Next p.child p.destination p.after (p.after ++ e ∷ []) End
alike-after p (q ∷ qs) e = Next p.child p.destination p.after p.after (alike-after q qs e)

alike-emit : (e : Event) (trace : Trace) → Alike trace.unmerged (emit e trace).unmerged
alike-emit e trace = from trace.unmerged
  where
    from : (ps : List AwaitedChild) → Alike ps (emit_at ps e (record trace { unmerged = ps })).unmerged
    from [] = End
    from (p ∷ ps) = alike-after p ps e

-- what a move shows stands after the parts
pub alike-effects : (ts : List Effect) (trace : Trace) → Alike (trace.unmerged ++ effect_parts ts) (with_effects ts trace).unmerged
alike-effects [] trace = subst (λ (l : List AwaitedChild). Alike l trace.unmerged) (sym (append-nil trace.unmerged)) (alike-itself trace.unmerged)
alike-effects (Opens j ∷ ts) trace = alike-effects ts trace
alike-effects (Closes j ∷ ts) trace = alike-effects ts trace
alike-effects (Emitted e ∷ ts) trace = alike-then (alike-append (effect_parts ts) (alike-emit e trace)) (alike-effects ts (emit e trace))
alike-effects (Starts o destination ∷ ts) trace =
    subst (λ (l : List AwaitedChild). Alike l (with_effects ts (add_child o destination trace)).unmerged) (append_assoc trace.unmerged (record { child = o; destination = destination; after = [] } ∷ []) (effect_parts ts)) (alike-effects ts (add_child o destination trace))
alike-effects (Syncs ∷ ts) trace = alike-effects ts trace
alike-effects (Loops ∷ ts) trace = alike-effects ts trace

pub alike-takes : (child : Origin → Evaluation) {ps qs : List AwaitedChild} → Alike ps qs → (stage : Stage) → takes_all ps (evaluations child ps) stage ≡ takes_all qs (evaluations child qs) stage
alike-takes child End stage = refl
alike-takes child (Next o destination before after a) stage = alike-takes child a (takes destination (child o).ending stage)

pub alike-unfilled : (height : ℕ) {ps qs : List AwaitedChild} → Alike ps qs → unfilled height ps ≡ unfilled height qs
alike-unfilled height End = refl
alike-unfilled height (Next o destination before after a) = ap (λ l. unfilled_by height destination ++ l) (alike-unfilled height a)

alike-any : (height : ℕ) {ps qs : List AwaitedChild} → Alike ps qs → any_by height qs ≡ any_by height ps
alike-any height End = refl
alike-any height (Next o destination before after a) = ap (λ b. is_by height destination || b) (alike-any height a)

alike-places : (height : ℕ) {ps qs : List AwaitedChild} → Alike ps qs → AreDestinations height ps → AreDestinations height qs
alike-places height End h = tt
alike-places height (Next o destination before after a) h = (h.0, alike-places height a h.1)

pub alike-halves : {ps qs : List AwaitedChild} → Alike ps qs → AreHalves ps → AreHalves qs
alike-halves End h = tt
alike-halves (Next o destination before after a) h = (h.0, alike-halves a h.1)

alike-none : {ps qs : List AwaitedChild} → Alike ps qs → ps ≡ [] → qs ≡ []
alike-none End h = refl
alike-none (Next o destination before after a) h = absurd (cc)

pub alike-parts : (plan : PlanView) (o : Origin) {ps qs : List AwaitedChild} → Alike ps qs → AreSoundChildren plan o ps → AreSoundChildren plan o qs
alike-parts plan o End h = tt
alike-parts plan o (Next child destination before after a) h = (record { known = h.0.known; fits = h.0.fits; same = h.0.same }, alike-parts plan o a h.1)

alike-below : (plan : PlanView) {ps qs : List AwaitedChild} → Alike ps qs → (target : Option Name) (below : List Frame) → AreSound plan ps target below → AreSound plan qs target below
alike-below plan a target [] s = tt
alike-below plan {ps} {qs} a target (caller ∷ below) s = (
  subst (λ (l : Names). IsApart (target_names target) l) (alike-unfilled (length below) a) s.0,
  sound-as plan ps qs (length below) caller (alike-unfilled (length below) a) (alike-any (length below) a) s.1,
  alike-below plan a caller.target below s.2,
)

pub alike-stage : (plan : PlanView) {ps qs : List AwaitedChild} → Alike ps qs → (stage : Stage) → IsSoundStage plan ps stage → IsSoundStage plan qs stage
alike-stage plan {ps} {qs} a (Running m) s =
    let height = length m.below in (alike-places height a s.0, sound-as plan ps qs height m.top (alike-unfilled height a) (alike-any height a) s.1, alike-below plan a m.top.target m.below s.2)
alike-stage plan {ps} {qs} a (AtSync m) s = (alike-places (length m.below) a s.0, s.1, alike-below plan a m.top.target m.below s.2)
alike-stage plan {ps} {qs} a (AtLoop m) s =
    let height = length m.below in (sound-as plan ps qs height m.top (alike-unfilled height a) (alike-any height a) s.0, alike-below plan a m.top.target m.below s.1)
alike-stage plan a (Ended (Ok v)) s = alike-halves a s
alike-stage plan a (Ended (Err (Own f))) s = (s.0, alike-places s.0 a s.1)
alike-stage plan a (Ended (Err (ChildFaulted f))) s = alike-none a s
