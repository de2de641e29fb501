-- A cursor that passes a statement, and the move that is then made.
use Rattle.std.proofs.Common.{◌≡◌, ℕ, ◌+◌, true, false, inl, inr, List, [], ◌∷◌, Option, Some, None, Result, Ok, Err, IfOk, reverse, refl, sym, ap, subst, ◌∙◌, arith}
use Rattle.script_grammar.specs.declared.tree.Stmt.{Stmt, out-Stmt}
use Rattle.script_grammar.specs.declared.tree.Act.{out-Act}
use Rattle.serial_meaning.specs.Plan.{PlanView}
use Rattle.serial_meaning.specs.declared.event.Event.{Event}
use Rattle.strand_meaning.specs.Machine.{Emitted, Machine, end_move, move, statement_move}
use Rattle.strand_moves.specs.declared.frame.Level.{Level}
use Rattle.strand_moves.specs.declared.cursor.Cursor.{Cursor}
use Rattle.strand_moves.specs.declared.cursor.Entered.{Entered}
use Rattle.strand_moves.specs.declared.instance_parts.InstanceParts.{InstanceParts}
use Rattle.strand_moves.specs.declared.effects.MoveResult.{MoveResult}
use Rattle.strand_moves.specs.declared.effects.MoveResult.TheVariants as move_result
use Rattle.strand_moves.specs.declared.effects.Effects.TheVariants as effect
use Rattle.strand_moves.specs.Acts.{Costs, Stays}
use Rattle.strand_moves.specs.Cursors.{block_of, statements_left, PassesStatement}
use Rattle.strand_moves.specs.Moves.{acted, run_of}
use Rattle.strand_moves.specs.FastPath.{EndsFrame, IsSentMove}
use Rattle.strand_moves.specs.StraightRuns.{ComesToStatement, GoesOnInBlock, HasPassedStatement, Here, IsNextStatement, More, SilentRun, StraightRun, RunsOn, Emits, Still, Then, unpassed}
use Rattle.strand_moves.specs.InstanceParts.{IsInstance, KeepsNames, block_inside, body_of, machine_of, path_of, present_of, statements_of}
use Rattle.strand_moves.proofs.Statements.Going.{moves-on}
use Rattle.strand_moves.proofs.Statements.Naming.{top-named}
use Rattle.strand_moves.proofs.Statements.FastPathLemmas.{cursor-sound, passed-on, fast_path-showed, with_cursor}
use Rattle.strand_moves.proofs.OpenScopes.Keeping.{here-is, same-path, stays-instance}

module _ (plan : PlanView) (i : InstanceParts) where
  abbrev with_left : List Stmt → Machine
  with_left left = let m = machine_of plan i in record m { top = record m.top { left = left } }

  -- the move of a statement that was passed
  pub next-moves : (next : Option Stmt) (st : Stmt) → next ≡ Some st →
      move plan (path_of i) (unpassed plan i next) ≡ statement_move plan (path_of i) (machine_of plan i) st (statements_left (statements_of plan i.top) i.top.cursor)
  next-moves next st e =
      ap (λ (n : Option Stmt). move plan (path_of i) (unpassed plan i n)) e
      ∙ moves-on plan (path_of i) (unpassed plan i (Some st)) st (statements_left (statements_of plan i.top) i.top.cursor) refl

  -- and where none was left
  pub end-moves : (next : Option Stmt) → next ≡ None → statements_left (statements_of plan i.top) i.top.cursor ≡ [] →
      move plan (path_of i) (unpassed plan i next) ≡ end_move plan (path_of i) (machine_of plan i) (machine_of plan i).top.levels
  end-moves next e none =
      ap (λ (n : Option Stmt). move plan (path_of i) (unpassed plan i n)) e
      ∙ ap (λ (left : List Stmt). end_move plan (path_of i) (with_left left) (machine_of plan i).top.levels) (sym none)

  module _ (cursor : Cursor) where
    abbrev pub passed_by : InstanceParts
    passed_by = record i { top = record i.top { cursor = cursor } }

    pub passed-machine : (next : Option Stmt) → IsNextStatement (statements_of plan i.top) i.top.cursor cursor next → unpassed plan passed_by next ≡ machine_of plan i
    passed-machine None h = ap with_left (sym h.0)
    passed-machine (Some st) h = ap with_left (sym h.first)

    pub passed-sound : (next : Option Stmt) → IsInstance plan i → IsNextStatement (statements_of plan i.top) i.top.cursor cursor next → IsInstance plan passed_by
    passed-sound None sound h = cursor-sound plan i cursor sound (λ e. h.1)
    passed-sound (Some st) sound h = let on = passed-on plan i _ _ sound h.first in cursor-sound plan i cursor sound (λ e. absurd (cc))

    pub passed-has : (next : Option Stmt) → IsInstance plan i → IsNextStatement (statements_of plan i.top) i.top.cursor cursor next → HasPassedStatement plan passed_by next
    passed-has None sound h = h.1
    passed-has (Some st) sound h = (passed-on plan i _ _ sound h.first, h.after)

-- where moves in a row came to
module _ {S : Type 0} (after : Event → S → S) (plan : PlanView) (first : InstanceParts) (start : S) (now : InstanceParts) (sent : S) (next : Option Stmt) (h : ComesToStatement after plan first start now sent next) where
  pub comes-sound : IsInstance plan now
  comes-sound = subst (λ (x : InstanceParts). IsInstance plan x) (sym h.passed) (passed-sound plan h.before now.top.cursor next h.sound h.at)

  pub comes-has : HasPassedStatement plan now next
  comes-has = subst (λ (x : InstanceParts). HasPassedStatement plan x next) (sym h.passed) (passed-has plan h.before now.top.cursor next h.sound h.at)

  pub comes-path : path_of now ≡ path_of first
  comes-path = ap (λ (x : InstanceParts). path_of x) h.passed ∙ h.path

  comes-runs : (m : MoveResult) (new : InstanceParts) → move plan (path_of now) (unpassed plan now next) ≡ run_of m (machine_of plan new) → RunsOn after plan first start m new sent
  comes-runs m new e =
      let same : unpassed plan now next ≡ machine_of plan h.before = ap (λ (x : InstanceParts). unpassed plan x next) h.passed ∙ passed-machine plan h.before now.top.cursor next h.at in
      let path : path_of now ≡ path_of h.before = ap (λ (x : InstanceParts). path_of x) h.passed in
      record {
        before = h.before;
        straight_run = h.straight_run;
        last = ap (λ (n : Machine). move plan (path_of h.before) n) (sym same) ∙ ap (λ (p : List ℕ). move plan p (unpassed plan now next)) (sym path) ∙ e;
      }

  pub comes-moved : {E : Type 0} (r : Result MoveResult E) (new : InstanceParts) → IfOk r (λ m. move plan (path_of now) (unpassed plan now next) ≡ run_of m (machine_of plan new)) → IfOk r (λ m. RunsOn after plan first start m new sent)
  comes-moved (Ok m) new e = comes-runs m new e
  comes-moved (Err e) new h = tt

-- the same text
pub text-same : (plan : PlanView) (old new : InstanceParts) → new.top.function ≡ old.top.function → new.top.levels.items ≡ old.top.levels.items → statements_of plan new.top ≡ statements_of plan old.top
text-same plan old new function levels =
    ap (λ (ls : List Level). block_inside (body_of plan new.top.function) (reverse ls)) levels ∙ ap (λ (f : ℕ). block_inside (body_of plan f) (reverse old.top.levels.items)) function

-- where moves in a row came to, and the block there
pub record InStraightRun {S : Type 0} (after : Event → S → S) (plan : PlanView) (first : InstanceParts) (start : S) (i : InstanceParts) (sent : S) (statements within : List Stmt) : Type 0 where
  pub straight_run : StraightRun after plan first start i sent
  pub sound : IsInstance plan i
  pub path : path_of i ≡ path_of first
  pub text : statements ≡ statements_of plan i.top
  pub block : within ≡ block_of statements i.top.cursor.entered.items

-- and moves in place after them
module _ {S : Type 0} (after : Event → S → S) (plan : PlanView) (first : InstanceParts) (start : S) (i : InstanceParts) (sent : S) (straight_run : StraightRun after plan first start i sent) where
  straight_run-quietly : (new : InstanceParts) → SilentRun plan i new → StraightRun after plan first start new sent
  straight_run-quietly new (Here _ e) = subst (λ (x : InstanceParts). StraightRun after plan first start x sent) (sym e) straight_run
  straight_run-quietly new (Then before _ silent m) = More before new sent (straight_run-quietly before silent) m.moves m.path m.sound

  pub straight_run-over : (new : InstanceParts) (heard : S) → StraightRun after plan i sent new heard → StraightRun after plan first start new heard
  straight_run-over new heard (Still _ _ e q) = subst (λ (x : S). StraightRun after plan first start new x) (sym q) (subst (λ (x : InstanceParts). StraightRun after plan first start x sent) (sym e) straight_run)
  straight_run-over new heard (More before _ _ more e path sound) = More before new heard (straight_run-over before heard more) e path sound
  straight_run-over new heard (Emits before _ earlier _ t more e q path sound) = Emits before new earlier heard t (straight_run-over before earlier more) e q path sound

  pub in-place : path_of i ≡ path_of first → (text block : List Stmt) → text ≡ statements_of plan i.top → block ≡ block_of text i.top.cursor.entered.items → (new : InstanceParts) (heard : S) → GoesOnInBlock after plan i sent new heard → InStraightRun after plan first start new heard text block
  in-place path text block text-is block-is new heard h =
      record {
        straight_run = straight_run-over new heard h.straight_run;
        sound = h.sound;
        path = h.path ∙ path;
        text = text-is ∙ sym (text-same plan i new h.stays.function h.stays.levels);
        block = block-is ∙ ap (λ (es : List Entered). block_of text es) (sym h.stays.entered);
      }

-- a statement whose step was taken back after moves in a row, and that the cursor still stands after
pub comes-undone : {S : Type 0} (after : Event → S → S) (plan : PlanView) (first : InstanceParts) (start : S) (i : InstanceParts) (sent : S) → StraightRun after plan first start i sent → IsInstance plan i → path_of i ≡ path_of first → (st : Stmt) (cursor : Cursor) (n : ℕ) → PassesStatement (statements_of plan i.top) i.top.cursor cursor st → n + 1 ≡ i.steps →
    (paid : InstanceParts) → paid ≡ with_cursor plan i n cursor → (last : InstanceParts) → last ≡ record paid { steps = paid.steps + 1 } → (heard : S) → heard ≡ sent → ComesToStatement after plan first start last heard (Some st)
comes-undone {S = S} after plan first start i sent straight_run sound path st cursor n passes less paid same last back heard is =
    let undone : last ≡ record i { top = record i.top { cursor = cursor } } =
    back ∙ ap (λ (x : InstanceParts). let y : InstanceParts = record x { steps = x.steps + 1 } in y) same ∙ ap (λ (k : ℕ). let y : InstanceParts = record i { steps = k; top = record i.top { cursor = cursor } } in y) less in
    subst (λ (x : InstanceParts). ComesToStatement after plan first start x heard (Some st)) (sym undone) (record {
      before = i;
      straight_run = subst (λ (x : S). StraightRun after plan first start i x) (sym is) straight_run;
      sound = sound;
      path = path;
      passed = refl;
      at = passes;
    })

-- moves in a row and one more, after which the instance is sound and on its path
pub record StraightRunOn {S : Type 0} (after : Event → S → S) (plan : PlanView) (first : InstanceParts) (start : S) (i new : InstanceParts) (heard : S) : Type 0 where
  pub straight_run : StraightRun after plan first start new heard
  pub sound : IsInstance plan new
  pub path : path_of new ≡ path_of i

-- where no statement of a frame is left
module _ {S : Type 0} (after : Event → S → S) (plan : PlanView) (first : InstanceParts) (start : S) (i : InstanceParts) (sent : S) (straight_run : StraightRun after plan first start i sent) (sound : IsInstance plan i) (cursor : Cursor) (none : IsNextStatement (statements_of plan i.top) i.top.cursor cursor None) where
  same-end : move plan (path_of i) (machine_of plan i) ≡ move plan (path_of i) (machine_of plan (passed_by plan i cursor))
  same-end = ap (λ (left : List Stmt). move plan (path_of i) (with_left plan i left)) (none.0 ∙ sym none.1)

  ended-on : (new : InstanceParts) (heard : S) → IsSentMove after plan (passed_by plan i cursor) sent new heard → IsInstance plan new → path_of new ≡ path_of i → StraightRunOn after plan first start i new heard
  ended-on new heard (inl h) kept path =
      record { straight_run = More i new heard (subst (λ (x : S). StraightRun after plan first start i x) (sym h.1) straight_run) (same-end ∙ h.0) path kept; sound = kept; path = path }
  ended-on new heard (inr h) kept path = record { straight_run = Emits i new sent heard h.0 straight_run (same-end ∙ h.1) h.2 path kept; sound = kept; path = path }

  -- a move of its end
  pub straight_run-ended : (new : InstanceParts) (heard : S) → EndsFrame after plan (passed_by plan i cursor) sent new heard true → StraightRunOn after plan first start i new heard
  straight_run-ended new heard h =
      let one = ended-on h.between heard h.first h.sound_between h.path_between in
      record { straight_run = straight_run-quietly after plan first start h.between heard one.straight_run new h.straight_run; sound = h.sound; path = h.path }

  -- and where the straight run ends there
  pub comes-ended : path_of i ≡ path_of first → (last : InstanceParts) (heard : S) → EndsFrame after plan (passed_by plan i cursor) sent last heard false → ComesToStatement after plan first start last heard None
  comes-ended path last heard (inl h) =
      subst (λ (x : InstanceParts). ComesToStatement after plan first start x heard None) (sym h.0)
      (record { before = i; straight_run = subst (λ (x : S). StraightRun after plan first start i x) (sym h.1) straight_run; sound = sound; path = path; passed = refl; at = none })
  comes-ended path last heard (inr h) =
      let on = straight_run-ended last heard h.0 in
      record { before = last; straight_run = on.straight_run; sound = on.sound; path = on.path ∙ path; passed = refl; at = (h.1, h.1) }

module _ {S : Type 0} (after : Event → S → S) (plan : PlanView) (first : InstanceParts) (start : S) (i : InstanceParts) (sent : S) (straight_run : StraightRun after plan first start i sent) (sound : IsInstance plan i) (st : Stmt) (cursor : Cursor) (n : ℕ) (passes : PassesStatement (statements_of plan i.top) i.top.cursor cursor st) (less : n + 1 ≡ i.steps) where
  abbrev paid : InstanceParts
  paid = with_cursor plan i n cursor

  paid-named : KeepsNames plan i paid
  paid-named = top-named plan i paid refl refl refl refl

  sent-on : (new : InstanceParts) (heard : S) (e : Event) → heard ≡ after e sent → acted plan (present_of paid) (machine_of plan paid) st (out-Act (out-Stmt st).act) ≡ run_of (move_result.Moved (effect.Emitted e)) (machine_of plan new) →
      KeepsNames plan paid new → Stays paid new → Costs paid new → StraightRunOn after plan first start i new heard
  sent-on new heard e is acts named stays few =
      let alike : Stays i new = record { trail = stays.trail; scopes = stays.scopes; leaving = stays.leaving } in
      let path = same-path i new alike in
      let kept = stays-instance plan i new sound (passed-on plan i _ _ sound passes.first) alike (λ h. named (paid-named h)) (omega (arith, few, less)) in
      record {
        straight_run = Emits i new sent heard e straight_run (fast_path-showed plan i st cursor n (here-is plan i sound) passes less (Emitted e ∷ []) new acts) is path kept;
        sound = kept;
        path = path;
      }

  pub straight_run-sent : (before : InstanceParts) → before ≡ paid → (new : InstanceParts) (heard : S) (e : Event) → heard ≡ after e sent → acted plan (present_of before) (machine_of plan before) st (out-Act (out-Stmt st).act) ≡ run_of (move_result.Moved (effect.Emitted e)) (machine_of plan new) →
      KeepsNames plan before new → Stays before new → Costs before new → StraightRunOn after plan first start i new heard
  straight_run-sent before same new heard e is acts named stays few =
      sent-on new heard e is
      (subst (λ (x : InstanceParts). acted plan (present_of x) (machine_of plan x) st (out-Act (out-Stmt st).act) ≡ run_of (move_result.Moved (effect.Emitted e)) (machine_of plan new)) same acts)
      (subst (λ (x : InstanceParts). KeepsNames plan x new) same named) (subst (λ (x : InstanceParts). Stays x new) same stays) (subst (λ (x : InstanceParts). Costs x new) same few)

  called-on : (new : InstanceParts) (heard : S) → heard ≡ sent → acted plan (present_of paid) (machine_of plan paid) st (out-Act (out-Stmt st).act) ≡ run_of (move_result.Moved effect.Nothing) (machine_of plan new) →
      KeepsNames plan paid new → Stays paid new → Costs paid new → StraightRunOn after plan first start i new heard
  called-on new heard is acts named stays few =
      let alike : Stays i new = record { trail = stays.trail; scopes = stays.scopes; leaving = stays.leaving } in
      let path = same-path i new alike in
      let kept = stays-instance plan i new sound (passed-on plan i _ _ sound passes.first) alike (λ h. named (paid-named h)) (omega (arith, few, less)) in
      record {
        straight_run = More i new heard (subst (λ (x : S). StraightRun after plan first start i x) (sym is) straight_run) (fast_path-showed plan i st cursor n (here-is plan i sound) passes less [] new acts) path kept;
        sound = kept;
        path = path;
      }

  pub straight_run-called : (before : InstanceParts) → before ≡ paid → (new : InstanceParts) (heard : S) → heard ≡ sent → acted plan (present_of before) (machine_of plan before) st (out-Act (out-Stmt st).act) ≡ run_of (move_result.Moved effect.Nothing) (machine_of plan new) →
      KeepsNames plan before new → Stays before new → Costs before new → StraightRunOn after plan first start i new heard
  straight_run-called before same new heard is acts named stays few =
      called-on new heard is
      (subst (λ (x : InstanceParts). acted plan (present_of x) (machine_of plan x) st (out-Act (out-Stmt st).act) ≡ run_of (move_result.Moved effect.Nothing) (machine_of plan new)) same acts)
      (subst (λ (x : InstanceParts). KeepsNames plan x new) same named) (subst (λ (x : InstanceParts). Stays x new) same stays) (subst (λ (x : InstanceParts). Costs x new) same few)
