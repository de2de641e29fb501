-- Ends of frames after which the instance goes on, as moves.
use Rattle.std.proofs.Common.{◌≡◌, ◌+◌, ◌<◌, ◌≤◌, Bool, true, false, inl, inr, List, [], Result, Ok, Err, IfOk, length, reverse, refl, sym, ap, subst, ◌∙◌, arith}
use Rattle.std.specs.Prelude.{OnOk}
use Rattle.script_grammar.specs.declared.tree.Stmt.{Stmt}
use Rattle.serial_meaning.specs.Plan.{PlanView}
use Rattle.serial_meaning.specs.declared.event.Event.{Event}
use Rattle.serial_meaning.specs.declared.event.FaultKind.{FaultKind}
use Rattle.strand_meaning.specs.Machine.{end_move, move, move_at, return_move}
use Rattle.strand_values.specs.declared.evaluation_error.EvaluationError as values
use Rattle.strand_values.specs.declared.evaluation_error.EvaluationError.TheVariants as error
use Rattle.strand_moves.specs.declared.frame.Level.{Level}
use Rattle.strand_moves.specs.declared.instance_parts.InstanceParts.{InstanceParts}
use Rattle.strand_moves.specs.declared.effects.Effects.TheVariants as effect
use Rattle.strand_moves.specs.declared.effects.MoveResult.TheVariants as move_result
use Rattle.strand_moves.specs.Acts.{StaysUnlessMemory, Stays}
use Rattle.strand_moves.specs.Cursors.{statements_left}
use Rattle.strand_moves.specs.Moves.{Makes, present_pedigree, run_of}
use Rattle.strand_moves.specs.FastPath.{EndsFrame, MayGiveBack, IsSentMove, IsMoved, MakesEnd, Shortens, silent}
use Rattle.strand_moves.specs.StraightRuns.{Here, SilentRun, Then}
use Rattle.strand_moves.specs.InstanceParts.{IsInstance, KeepsNames, body_of, levels_of, machine_of, open_scopes, path_of, present_of, statements_of}
use Rattle.strand_moves.proofs.OpenScopes.Keeping.{same-path, stays-instance}

-- A frame's return is paid.
abbrev pub IsReturning : InstanceParts → InstanceParts → Type 0
IsReturning old new = new ≡ record old { steps = new.steps; rank = new.rank; top = record old.top { returning = true } }

pub returning-stays : (old new : InstanceParts) → IsReturning old new → Stays old new
returning-stays old new is =
    record { trail = ap (λ (x : InstanceParts). x.trail) is; scopes = ap (λ (x : InstanceParts). open_scopes x) is; leaving = ap (λ (x : InstanceParts). x.leaving) is }

-- by what the call at a frame's end answered
module _ {S : Type 0} (after : Event → S → S) (plan : PlanView) (old new : InstanceParts) (from to : S) where
  pub did-end : (did : Bool) → did ≡ true → EndsFrame after plan old from new to did → EndsFrame after plan old from new to true
  did-end did e h = subst (EndsFrame after plan old from new to) e h

  pub did-not-end : (did : Bool) → did ≡ false → EndsFrame after plan old from new to did → EndsFrame after plan old from new to false
  did-not-end did e h = subst (EndsFrame after plan old from new to) e h

pub gives-nothing : (plan : PlanView) (i : InstanceParts) → IsInstance plan i → MayGiveBack plan i i
gives-nothing plan i sound = record { straight_run = Here i refl; path = refl; sound = sound; steps = refl; frames = omega arith }

-- one straight run of silent moves after another
more-silent : (plan : PlanView) (first between new : InstanceParts) → SilentRun plan first between → SilentRun plan between new → SilentRun plan first new
more-silent plan first between new h (Here _ e) = subst (SilentRun plan first) (sym e) h
more-silent plan first between new h (Then before _ k m) = Then before new (more-silent plan first between before h k) m

pub ends-twice : {S : Type 0} (after : Event → S → S) (plan : PlanView) (old between new : InstanceParts) (from to : S) → MakesEnd after plan old from between to → MayGiveBack plan between new → MakesEnd after plan old from new to
ends-twice after plan old between new from to h g =
    record {
      between = h.between;
      first = h.first;
      path_between = h.path_between;
      sound_between = h.sound_between;
      straight_run = more-silent plan h.between between new h.straight_run g.straight_run;
      path = g.path ∙ h.path;
      sound = g.sound;
      shorter = let before = h.shorter in omega (arith, before, g.steps, g.frames);
    }

-- where no statement and no scope of a frame is left
module _ (plan : PlanView) (i : InstanceParts) (h : IsInstance plan i) (on : i.leaving ≡ false) (none : statements_left (statements_of plan i.top) i.top.cursor ≡ []) (outside : i.top.levels.items ≡ []) where
  ends-by : (returning : Bool) → i.top.returning ≡ returning → move plan (path_of i) (machine_of plan i) ≡ return_move plan (path_of i) (machine_of plan i) returning
  ends-by returning is =
      let m = machine_of plan i in
      ap (λ (left : List Stmt). move_at plan (path_of i) m left) none
      ∙ ap (λ (ls : List Level). end_move plan (path_of i) m (levels_of (body_of plan i.top.function) (reverse ls))) outside
      ∙ ap (λ (b : Bool). return_move plan (path_of i) m b) is

  -- its value went to the frame below, or nothing changed
  module _ (new : InstanceParts) (kept : KeepsNames plan i new) (less : new.rank + new.steps ≤ i.rank + i.steps) where
    pub given-back : (done : Result (Unit {0}) values.EvaluationError) (moved : Bool) → IsMoved done moved → i.top.returning ≡ true →
        Makes (return_move plan (path_of i) (machine_of plan i) true) (present_pedigree (present_of i) (machine_of plan i)) (machine_of plan new) (silent done) →
        ((kind : FaultKind) → done ≡ Err (error.Fault kind) → new ≡ i) → StaysUnlessMemory i new (silent done) → new.steps ≡ i.steps → OnOk done (length new.below.items < length i.below.items) → MayGiveBack plan i new
    given-back (Ok u) moved w returning makes same stays steps fewer =
        let path = same-path i new stays in
        let sound = stays-instance plan i new h on stays kept less in
        record { straight_run = Then i new (Here i refl) (record { moves = ends-by true returning ∙ makes; path = path; sound = sound }); path = path; sound = sound; steps = steps; frames = omega (arith, fewer) }
    given-back (Err (error.Fault kind)) moved w returning makes same stays steps fewer = subst (MayGiveBack plan i) (sym (same kind refl)) (gives-nothing plan i h)
    given-back (Err error.Memory) moved w returning makes same stays steps fewer = absurd w

  module _ {S : Type 0} (after : Event → S → S) (from to : S) (new : InstanceParts) (kept : KeepsNames plan i new) (less : new.rank + new.steps ≤ i.rank + i.steps) where
    ends : Stays i new → IsSentMove after plan i from new to → Shortens i new → EndsFrame after plan i from new to true
    ends stays sent shorter =
        let path = same-path i new stays in
        let sound = stays-instance plan i new h on stays kept less in
        record { between = new; first = sent; path_between = path; sound_between = sound; straight_run = Here new refl; path = path; sound = sound; shorter = shorter }

    -- its value went to the frame below
    pub gave-back : {E : Type 0} (done : Result (Unit {0}) values.EvaluationError) (moved : Result Bool E) → IfOk moved (IsMoved done) → i.top.returning ≡ true →
        Makes (return_move plan (path_of i) (machine_of plan i) true) (present_pedigree (present_of i) (machine_of plan i)) (machine_of plan new) (silent done) →
        ((kind : FaultKind) → done ≡ Err (error.Fault kind) → new ≡ i) → StaysUnlessMemory i new (silent done) → new.steps ≡ i.steps → OnOk done (length new.below.items < length i.below.items) → to ≡ from →
        IfOk moved (EndsFrame after plan i from new to)
    gave-back done (Err e) w returning makes same stays steps fewer still = tt
    gave-back (Ok u) (Ok moved) w returning makes same stays steps fewer still =
        subst (EndsFrame after plan i from new to) (sym w) (ends stays (inl (ends-by true returning ∙ makes, still)) (omega (arith, steps, fewer)))
    gave-back (Err (error.Fault kind)) (Ok moved) w returning makes same stays steps fewer still = subst (EndsFrame after plan i from new to) (sym w) (inl (same kind refl, still))
    gave-back (Err error.Memory) (Ok moved) w returning makes same stays steps fewer still = absurd w

    -- its return was paid
    module _ (off : i.top.returning ≡ false) (is : IsReturning i new) (paid : new.steps + 1 ≡ i.steps) where
      shorter : Shortens i new
      shorter = let frames = ap (λ (x : InstanceParts). length x.below.items) is in omega (arith, paid, frames)

      pub returned-alone : return_move plan (path_of i) (machine_of plan i) false ≡ run_of (move_result.Moved effect.Nothing) (machine_of plan new) → to ≡ from → EndsFrame after plan i from new to true
      returned-alone moves still = ends (returning-stays i new is) (inl (ends-by false off ∙ moves, still)) shorter

      pub returned-sent : (e : Event) → return_move plan (path_of i) (machine_of plan i) false ≡ run_of (move_result.Moved (effect.Emitted e)) (machine_of plan new) → to ≡ after e from → EndsFrame after plan i from new to true
      returned-sent e moves sent = ends (returning-stays i new is) (inr (e, ends-by false off ∙ moves, sent)) shorter
