-- Moves that show nothing, or an event alone.
use Rattle.std.proofs.Common.{◌≡◌, ℕ, suc, ◌+◌, Bool, true, false, inl, List, [], ◌∷◌, Result, Ok, Err, IfOk, refl, sym, ap, subst, ◌∙◌, arith}
use Rattle.std.specs.Prelude.{OnOk}
use Rattle.script_grammar.specs.declared.tree.Stmt.{Stmt, out-Stmt}
use Rattle.script_grammar.specs.declared.tree.Act.{Act, out-Act}
use Rattle.script_grammar.specs.declared.tree.Act.TheOpen.{Act-F}
use Rattle.serial_meaning.specs.Plan.{PlanView}
use Rattle.serial_meaning.specs.declared.event.Event.{Event}
use Rattle.serial_meaning.specs.declared.event.FaultKind.{FaultKind}
use Rattle.strand_meaning.specs.Machine.{Effect, here_of, move}
use Rattle.strand_values.specs.declared.evaluation_error.EvaluationError as values
use Rattle.strand_values.specs.declared.evaluation_error.EvaluationError.TheVariants as error
use Rattle.strand_moves.specs.declared.cursor.Cursor.{Cursor}
use Rattle.strand_moves.specs.declared.instance_parts.InstanceParts.{InstanceParts}
use Rattle.strand_moves.specs.Acts.{Acts, BeginsOne, StaysUnlessMemory}
use Rattle.strand_moves.specs.Cursors.{IsAfterStatement, MayEnter, statements_left, PassesStatement}
use Rattle.strand_moves.specs.InstanceParts.{IsInstance, machine_of, path_of, present_of, statements_of}
use Rattle.strand_moves.specs.Moves.{acted, MovesTrail, present_pedigree}
use Rattle.strand_moves.specs.FastPath.{HasCalled, HasEmitted, IsDone, IsSilent, IsEmittedTo, IsMoved, emitted, is_plain, is_emitting, silent}
use Rattle.strand_moves.proofs.Statements.Equations.{paid-move}
use Rattle.strand_moves.proofs.Statements.Equations as equations
use Rattle.strand_moves.proofs.Statements.Going.{moves-on}
use Rattle.strand_moves.proofs.Statements.Naming.{top-named}

-- nothing that is shown is no child
pub silent-child : (plan : PlanView) (done : Result (Unit {0}) values.EvaluationError) → IfOk (silent done) (MovesTrail plan)
silent-child plan (Ok u) = tt
silent-child plan (Err h) = tt

-- an event is no child
pub emitted-child : (plan : PlanView) (done : Result Event values.EvaluationError) → IfOk (emitted done) (MovesTrail plan)
emitted-child plan (Ok e) = tt
emitted-child plan (Err h) = tt

-- what a call did for a statement, by what it answered
module _ (st : Stmt) (a : Act-F Act Stmt) (old new : InstanceParts) (is : out-Act (out-Stmt st).act ≡ a) where
  silent-at : (done : Result (Unit {0}) values.EvaluationError) (moved : Bool) → ((plan : PlanView) → IsAfterStatement (statements_of plan old.top) old.top.cursor st → Acts plan st a old new (silent done)) →
      ((kind : FaultKind) → done ≡ Err (error.Fault kind) → new ≡ old) → IsMoved done moved → IsSilent st old new moved
  silent-at (Ok u) moved acts same w =
      subst (IsSilent st old new) (sym w) (λ plan after. ap (λ (b : Act-F Act Stmt). acted plan (present_of old) (machine_of plan old) st b) is ∙ acts plan after)
  silent-at (Err (error.Fault kind)) moved acts same w =
      subst (IsSilent st old new) (sym w)
      (same kind refl, λ plan after plain. (record { kind = kind; at = present_pedigree (present_of old) (machine_of plan old) }, ap (λ (b : Act-F Act Stmt). acted plan (present_of old) (machine_of plan old) st b) is ∙ acts plan after))
  silent-at (Err error.Memory) moved acts same w = absurd w

  pub silent-is : {E : Type 0} (done : Result (Unit {0}) values.EvaluationError) (r : Result Bool E) → ((plan : PlanView) → IsAfterStatement (statements_of plan old.top) old.top.cursor st → Acts plan st a old new (silent done)) →
      ((kind : FaultKind) → done ≡ Err (error.Fault kind) → new ≡ old) → IfOk r (IsMoved done) → IfOk r (IsSilent st old new)
  silent-is done (Ok moved) acts same w = silent-at done moved acts same w
  silent-is done (Err e) acts same w = tt

-- where the cursor is after it
module _ (old new : InstanceParts) {E : Type 0} where
  pub stays-there : (r : Result Bool E) → new.top.cursor ≡ old.top.cursor → IfOk r (λ _. MayEnter old.top.cursor new.top.cursor)
  stays-there (Ok moved) same = inl same
  stays-there (Err e) same = tt

  pub may-enter : (done : Result (Unit {0}) values.EvaluationError) (r : Result Bool E) → IfOk r (IsMoved done) → ((kind : FaultKind) → done ≡ Err (error.Fault kind) → new ≡ old) → OnOk done (MayEnter old.top.cursor new.top.cursor) →
      IfOk r (λ _. MayEnter old.top.cursor new.top.cursor)
  may-enter done (Err e) w same on = tt
  may-enter (Ok u) (Ok moved) w same on = on
  may-enter (Err (error.Fault kind)) (Ok moved) w same on = inl (ap (λ (x : InstanceParts). x.top.cursor) (same kind refl))
  may-enter (Err error.Memory) (Ok moved) w same on = absurd w

-- the same of a call that did this act, whatever the cursor
module _ (st : Stmt) (a : Act-F Act Stmt) (old new : InstanceParts) where
  done-at : (done : Result (Unit {0}) values.EvaluationError) (moved : Bool) → ((plan : PlanView) → Acts plan st a old new (silent done)) → ((kind : FaultKind) → done ≡ Err (error.Fault kind) → new ≡ old) → IsMoved done moved → IsDone st a old new moved
  done-at (Ok u) moved acts same w = subst (IsDone st a old new) (sym w) (λ plan. acts plan)
  done-at (Err (error.Fault kind)) moved acts same w =
      subst (IsDone st a old new) (sym w) (same kind refl, λ plan plain. (record { kind = kind; at = present_pedigree (present_of old) (machine_of plan old) }, acts plan))
  done-at (Err error.Memory) moved acts same w = absurd w

  pub done-is : {E : Type 0} (done : Result (Unit {0}) values.EvaluationError) (r : Result Bool E) → ((plan : PlanView) → Acts plan st a old new (silent done)) → ((kind : FaultKind) → done ≡ Err (error.Fault kind) → new ≡ old) →
      IfOk r (IsMoved done) → IfOk r (IsDone st a old new)
  done-is done (Ok moved) acts same w = done-at done moved acts same w
  done-is done (Err e) acts same w = tt

  -- the act of the statement does the same
  module _ (same : (plan : PlanView) → acted plan (present_of old) (machine_of plan old) st (out-Act (out-Stmt st).act) ≡ acted plan (present_of old) (machine_of plan old) st a) (kind : is_plain (out-Act (out-Stmt st).act) ≡ is_plain a) where
    silent-by : (moved : Bool) → IsDone st a old new moved → IsSilent st old new moved
    silent-by true d = λ plan after. same plan ∙ d plan
    silent-by false d = (d.0, λ plan after plain. let f = d.1 plan (sym kind ∙ plain) in (f.0, same plan ∙ f.1))

    pub done-silent : {E : Type 0} (r : Result Bool E) → IfOk r (IsDone st a old new) → IfOk r (IsSilent st old new)
    done-silent (Ok moved) d = silent-by moved d
    done-silent (Err x) d = tt

-- the same of a call that showed an event, which the sink took
module _ {S : Type 0} (after : Event → S → S) (plan : PlanView) (st : Stmt) (a : Act-F Act Stmt) (old new : InstanceParts) (from to : S) where
  sent-at : (done : Result Event values.EvaluationError) (sent : Bool) → Acts plan st a old new (emitted done) → ((kind : FaultKind) → done ≡ Err (error.Fault kind) → new ≡ old) → IsEmittedTo after done from to sent → HasEmitted after plan st a old from new to sent
  sent-at (Ok e) sent acts same w = subst (HasEmitted after plan st a old from new to) (sym w.0) (e, w.1, acts)
  sent-at (Err (error.Fault kind)) sent acts same w =
      subst (HasEmitted after plan st a old from new to) (sym w.0) (same kind refl, w.1, λ emitting. (record { kind = kind; at = present_pedigree (present_of old) (machine_of plan old) }, acts))
  sent-at (Err error.Memory) sent acts same w = absurd w

  pub sent-is : {E : Type 0} (done : Result Event values.EvaluationError) (r : Result Bool E) → Acts plan st a old new (emitted done) → ((kind : FaultKind) → done ≡ Err (error.Fault kind) → new ≡ old) → IfOk r (IsEmittedTo after done from to) →
      IfOk r (HasEmitted after plan st a old from new to)
  sent-is done (Ok sent) acts same w = sent-at done sent acts same w
  sent-is done (Err e) acts same w = tt

  -- another act does the same
  module _ (b : Act-F Act Stmt) (same : acted plan (present_of old) (machine_of plan old) st b ≡ acted plan (present_of old) (machine_of plan old) st a) (kind : is_emitting b ≡ is_emitting a) where
    alike-by : (sent : Bool) → HasEmitted after plan st a old from new to sent → HasEmitted after plan st b old from new to sent
    alike-by true h = (h.0, h.1, same ∙ h.2)
    alike-by false h = (h.0, h.1, λ emitting. let f = h.2 (sym kind ∙ emitting) in (f.0, same ∙ f.1))

    pub sent-alike : {E : Type 0} (r : Result Bool E) → IfOk r (HasEmitted after plan st a old from new to) → IfOk r (HasEmitted after plan st b old from new to)
    sent-alike (Ok sent) h = alike-by sent h
    sent-alike (Err e) h = tt

  pub did-emit : (sent : Bool) → sent ≡ true → HasEmitted after plan st a old from new to sent → HasEmitted after plan st a old from new to true
  did-emit sent e h = subst (HasEmitted after plan st a old from new to) e h

  pub did-not-emit : (sent : Bool) → sent ≡ false → HasEmitted after plan st a old from new to sent → HasEmitted after plan st a old from new to false
  did-not-emit sent e h = subst (HasEmitted after plan st a old from new to) e h

-- the same of a call
module _ (plan : PlanView) (st : Stmt) (a : Act-F Act Stmt) (old new : InstanceParts) where
  called-at : (done : Result (Unit {0}) values.EvaluationError) (called : Bool) → Acts plan st a old new (silent done) → ((kind : FaultKind) → done ≡ Err (error.Fault kind) → new ≡ old) → StaysUnlessMemory old new (silent done) → OnOk done (BeginsOne old new) →
      IsMoved done called → HasCalled plan st a old new called
  called-at (Ok u) called acts same stays begins w = subst (HasCalled plan st a old new) (sym w) (acts, stays, begins)
  called-at (Err (error.Fault kind)) called acts same stays begins w = subst (HasCalled plan st a old new) (sym w) (same kind refl)
  called-at (Err error.Memory) called acts same stays begins w = absurd w

  pub called-is : {E : Type 0} (done : Result (Unit {0}) values.EvaluationError) (r : Result Bool E) → Acts plan st a old new (silent done) → ((kind : FaultKind) → done ≡ Err (error.Fault kind) → new ≡ old) → StaysUnlessMemory old new (silent done) → OnOk done (BeginsOne old new) →
      IfOk r (IsMoved done) → IfOk r (HasCalled plan st a old new)
  called-is done (Ok called) acts same stays begins w = called-at done called acts same stays begins w
  called-is done (Err e) acts same stays begins w = tt

  -- another act does the same
  module _ (b : Act-F Act Stmt) (alike : acted plan (present_of old) (machine_of plan old) st b ≡ acted plan (present_of old) (machine_of plan old) st a) where
    called-by : (called : Bool) → HasCalled plan st a old new called → HasCalled plan st b old new called
    called-by true h = (alike ∙ h.0, h.1, h.2)
    called-by false h = h

    pub called-alike : {E : Type 0} (r : Result Bool E) → IfOk r (HasCalled plan st a old new) → IfOk r (HasCalled plan st b old new)
    called-alike (Ok called) h = called-by called h
    called-alike (Err e) h = tt

  pub did-call : (called : Bool) → called ≡ true → HasCalled plan st a old new called → HasCalled plan st a old new true
  did-call called e h = subst (HasCalled plan st a old new) e h

  pub did-not-call : (called : Bool) → called ≡ false → HasCalled plan st a old new called → HasCalled plan st a old new false
  did-not-call called e h = subst (HasCalled plan st a old new) e h

pub did-silent : (st : Stmt) (old new : InstanceParts) (moved : Bool) → moved ≡ true → IsSilent st old new moved → IsSilent st old new true
did-silent st old new moved e h = subst (IsSilent st old new) e h

pub did-nothing : (st : Stmt) (old new : InstanceParts) (moved : Bool) → moved ≡ false → IsSilent st old new moved → IsSilent st old new false
did-nothing st old new moved e h = subst (IsSilent st old new) e h

module _ (plan : PlanView) (i : InstanceParts) where
  abbrev text : List Stmt
  text = statements_of plan i.top

  abbrev pub with_cursor : ℕ → Cursor → InstanceParts
  with_cursor n cursor = record i { steps = n; top = record i.top { cursor = cursor } }

  module _ (st : Stmt) (cursor : Cursor) (n : ℕ) (here : here_of (path_of i) (machine_of plan i) ≡ present_of i) (passes : PassesStatement text i.top.cursor cursor st) (steps : n + 1 ≡ i.steps) where
    passed : move plan (path_of i) (machine_of plan i) ≡ acted plan (present_of i) (machine_of plan (with_cursor n cursor)) st (out-Act (out-Stmt st).act)
    passed =
        let m = machine_of plan i in
        let left = statements_left text cursor in
        let one : m.steps ≡ suc n = omega arith in
        moves-on plan (path_of i) m st left passes.first ∙ paid-move plan (path_of i) (record m { top = record m.top { left = left } }) st left n one
        ∙ ap (λ (p : List ℕ). acted plan p (machine_of plan (with_cursor n cursor)) st (out-Act (out-Stmt st).act)) here

    -- a statement that was paid and done
    pub fast_path-moved : (new : InstanceParts) → IsSilent st (with_cursor n cursor) new true → move plan (path_of i) (machine_of plan i) ≡ equations.moved [] (machine_of plan new)
    fast_path-moved new acts = passed ∙ acts plan passes.after

    -- one that showed these effects
    pub fast_path-showed : (effects : List Effect) (new : InstanceParts) →
        acted plan (present_of (with_cursor n cursor)) (machine_of plan (with_cursor n cursor)) st (out-Act (out-Stmt st).act) ≡ equations.moved effects (machine_of plan new) →
        move plan (path_of i) (machine_of plan i) ≡ equations.moved effects (machine_of plan new)
    fast_path-showed effects new acts = passed ∙ acts

  -- a statement is left, so the sync at a scope's end isn't after it
  pub passed-on : (st : Stmt) (left : List Stmt) → IsInstance plan i → statements_left text i.top.cursor ≡ st ∷ left → i.leaving ≡ false
  passed-on st left h some = by_flag i.leaving refl
    where
      by_flag : (b : Bool) → i.leaving ≡ b → i.leaving ≡ false
      by_flag true e = let none = (h.leaving e).0 in absurd (cc)
      by_flag false e = e

  -- an instance whose cursor passed
  pub cursor-sound : (cursor : Cursor) → IsInstance plan i → (i.leaving ≡ true → statements_left text cursor ≡ []) → IsInstance plan (with_cursor i.steps cursor)
  cursor-sound cursor h none =
      record {
        strand = record { fits = h.strand.fits; within = h.strand.within; few = h.strand.few };
        few = h.few;
        around = h.around;
        leaving = λ e. (none e, (h.leaving e).1);
        named = top-named plan i (with_cursor i.steps cursor) refl refl refl refl h.named;
      }
