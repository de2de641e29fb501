-- Moves that show nothing, or an event alone.
use Rattle.std.specs.Prelude.{◌≡◌, ◌+◌, ◌*◌, ◌<◌, ◌≤◌, ◌⊎◌, ℕ, Bool, true, false, List, [], Result, Ok, Err, length}
use Rattle.script_grammar.specs.declared.tree.Expr.{Expr}
use Rattle.script_grammar.specs.declared.tree.Name.{Name}
use Rattle.script_grammar.specs.declared.tree.Right.{Right}
use Rattle.script_grammar.specs.declared.tree.Right.TheVariants as right
use Rattle.script_grammar.specs.declared.tree.Stmt.{Stmt, out-Stmt}
use Rattle.script_grammar.specs.declared.tree.Act.{Act, out-Act}
use Rattle.script_grammar.specs.declared.tree.Act.TheOpen as act
use Rattle.script_grammar.specs.declared.tree.Act.TheOpen.{Act-F}
use Rattle.serial_meaning.specs.Runs.{Run}
use Rattle.serial_meaning.specs.Plan.{PlanView}
use Rattle.serial_meaning.specs.declared.event.Event.{Event}
use Rattle.serial_meaning.specs.declared.event.Event.TheVariants as event
use Rattle.serial_meaning.specs.declared.event.Fault.{Fault}
use Rattle.serial_meaning.specs.declared.event.FaultKind.{FaultKind}
use Rattle.strand_meaning.specs.Machine.{Effect, Reached, move}
use Rattle.strand_values.specs.declared.evaluation_error.EvaluationError as values
use Rattle.strand_values.specs.declared.evaluation_error.EvaluationError.TheVariants as error
use Rattle.strand_moves.specs.declared.instance_parts.InstanceParts.{InstanceParts}
use Rattle.strand_moves.specs.declared.effects.MoveResult.{MoveResult}
use Rattle.strand_moves.specs.declared.effects.MoveResult.TheVariants as move_result
use Rattle.strand_moves.specs.declared.effects.Effects.TheVariants as effect
use Rattle.strand_moves.specs.declared.fast_path.Form.{Form}
use Rattle.strand_moves.specs.declared.fast_path.Form.TheVariants as form
use Rattle.strand_moves.specs.Acts.{BeginsOne, Costs, Stays}
use Rattle.strand_moves.specs.Cursors.{IsAfterStatement, statements_left}
use Rattle.strand_moves.specs.InstanceParts.{IsInstance, machine_of, path_of, present_of, statements_of}
use Rattle.strand_moves.specs.Moves.{acted, run_of}
use Rattle.strand_moves.specs.StraightRuns.{SilentRun}

-- what was done without showing anything, as a move
abbrev pub silent : Result (Unit {0}) values.EvaluationError → Result MoveResult values.EvaluationError
silent (Ok u) = Ok (move_result.Moved effect.Nothing)
silent (Err h) = Err h

-- whether it was done; want of memory is no answer
abbrev pub IsMoved : Result (Unit {0}) values.EvaluationError → Bool → Type 0
IsMoved (Ok u) moved = moved ≡ true
IsMoved (Err (error.Fault kind)) moved = moved ≡ false
IsMoved (Err error.Memory) moved = ⊥

-- what showed an event, as a move
abbrev pub emitted : Result Event values.EvaluationError → Result MoveResult values.EvaluationError
emitted (Ok e) = Ok (move_result.Moved (effect.Emitted e))
emitted (Err h) = Err h

-- a return's step, as a move, with the sync at this pedigree, if it implies one
abbrev pub synced_at : List ℕ → Result Bool FaultKind → Result MoveResult values.EvaluationError
synced_at j (Ok true) = Ok (move_result.Moved (effect.Emitted (event.Sync j)))
synced_at j (Ok false) = Ok (move_result.Moved effect.Nothing)
synced_at j (Err kind) = Err (error.Fault kind)

-- whether an event was shown, which the sink then took; want of memory is no answer
abbrev pub IsEmittedTo : {S : Type 0} → (Event → S → S) → Result Event values.EvaluationError → S → S → Bool → Type 0
IsEmittedTo after (Ok e) old new sent = (sent ≡ true) × (new ≡ after e old)
IsEmittedTo after (Err (error.Fault kind)) old new sent = (sent ≡ false) × (new ≡ old)
IsEmittedTo after (Err error.Memory) old new sent = ⊥

-- A plain statement gives a variable the value of an expression, makes an array, stores an item, or is an `if` or a `while`. It shows
-- nothing, and begins no function.
abbrev pub is_value : Right → Bool
is_value (right.Value e) = true
is_value (right.Draw at) = false
is_value (right.New at) = false
is_value (right.Call at c) = false
is_value (right.Spawn at c) = false

-- `let x = E` or `x = E`
abbrev pub GivesValue : Act-F Act Stmt → Name → Expr → Type 0
GivesValue a x e = (a ≡ act.Let x (right.Value e)) ⊎ (a ≡ act.Set x (right.Value e))

-- `let x = draw` or `x = draw`
abbrev pub Draws : Act-F Act Stmt → Name → Type 0
Draws a x = (at : ℕ) × ((a ≡ act.Let x (right.Draw at)) ⊎ (a ≡ act.Set x (right.Draw at)))

abbrev pub is_plain : Act-F Act Stmt → Bool
is_plain (act.Let x r) = is_value r
is_plain (act.Array x n) = true
is_plain (act.Set x r) = is_value r
is_plain (act.Store x i e) = true
is_plain (act.Spawn c) = false
is_plain (act.Call c) = false
is_plain act.Sync = false
is_plain (act.Print e) = false
is_plain (act.If e a b) = true
is_plain (act.While e a) = true
is_plain (act.Pfor x lo hi target c) = false
is_plain (act.Scope a) = false

-- The instance ends by a fault, and nothing is shown.
abbrev pub ByFault : Run Effect Fault Reached → Type 0
ByFault run = (f : Fault) × (run ≡ record { items = []; ending = Err f })

-- Either the statement was done and showed nothing, or nothing changed, and the statement, if it is plain, meets a fault.
abbrev pub IsDone : Stmt → Act-F Act Stmt → InstanceParts → InstanceParts → Bool → Type 0
IsDone st a old new true = (plan : PlanView) → acted plan (present_of old) (machine_of plan old) st a ≡ run_of (move_result.Moved effect.Nothing) (machine_of plan new)
IsDone st a old new false = (new ≡ old) × ((plan : PlanView) → is_plain a ≡ true → ByFault (acted plan (present_of old) (machine_of plan old) st a))

-- The same for the statement that the cursor has just passed and whose step is paid.
abbrev pub IsSilent : Stmt → InstanceParts → InstanceParts → Bool → Type 0
IsSilent st old new true =
    (plan : PlanView) → IsAfterStatement (statements_of plan old.top) old.top.cursor st →
    acted plan (present_of old) (machine_of plan old) st (out-Act (out-Stmt st).act) ≡ run_of (move_result.Moved effect.Nothing) (machine_of plan new)
IsSilent st old new false =
    (new ≡ old)
    × ((plan : PlanView) → IsAfterStatement (statements_of plan old.top) old.top.cursor st → is_plain (out-Act (out-Stmt st).act) ≡ true →
    ByFault (acted plan (present_of old) (machine_of plan old) st (out-Act (out-Stmt st).act)))

-- An emitting statement draws, makes an object, or prints. It shows an event, and begins no function.
abbrev pub shows_event : Right → Bool
shows_event (right.Value e) = false
shows_event (right.Draw at) = true
shows_event (right.New at) = true
shows_event (right.Call at c) = false
shows_event (right.Spawn at c) = false

abbrev pub is_emitting : Act-F Act Stmt → Bool
is_emitting (act.Let x r) = shows_event r
is_emitting (act.Array x n) = false
is_emitting (act.Set x r) = shows_event r
is_emitting (act.Store x i e) = false
is_emitting (act.Spawn c) = false
is_emitting (act.Call c) = false
is_emitting act.Sync = false
is_emitting (act.Print e) = true
is_emitting (act.If e a b) = false
is_emitting (act.While e a) = false
is_emitting (act.Pfor x lo hi target c) = false
is_emitting (act.Scope a) = false

-- Either the statement was done and the sink took its event, or nothing changed, and the statement, if it is an emitting one, meets a fault.
abbrev pub HasEmitted : {S : Type 0} → (Event → S → S) → PlanView → Stmt → Act-F Act Stmt → InstanceParts → S → InstanceParts → S → Bool → Type 0
HasEmitted after plan st a old from new to true =
    (e : Event) × (to ≡ after e from) × (acted plan (present_of old) (machine_of plan old) st a ≡ run_of (move_result.Moved (effect.Emitted e)) (machine_of plan new))
HasEmitted after plan st a old from new to false =
    (new ≡ old) × (to ≡ from) × (is_emitting a ≡ true → ByFault (acted plan (present_of old) (machine_of plan old) st a))

-- Either a call was begun, or skipped where its function doesn't exist; or nothing changed.
abbrev pub HasCalled : PlanView → Stmt → Act-F Act Stmt → InstanceParts → InstanceParts → Bool → Type 0
HasCalled plan st a old new true =
    (acted plan (present_of old) (machine_of plan old) st a ≡ run_of (move_result.Moved effect.Nothing) (machine_of plan new)) × Stays old new × BeginsOne old new
HasCalled plan st a old new false = new ≡ old

-- the innermost frame is of the same function, in the same scopes, over the same frames, and no step is paid
pub record StaysThere (old new : InstanceParts) : Type 0 where
  pub below : new.below.items ≡ old.below.items
  pub function : new.top.function ≡ old.top.function
  pub levels : new.top.levels.items ≡ old.top.levels.items
  pub names : new.top.env.names ≡ old.top.env.names
  pub target : new.top.target ≡ old.top.target
  pub steps : new.steps ≡ old.steps

-- the innermost frame is where it was, and no step is paid
pub record IsThere (old new : InstanceParts) : Type 0 where
  pub there : StaysThere old new
  pub cursor : new.top.cursor ≡ old.top.cursor
  pub stays : Stays old new
  pub few : Costs old new

-- Either a statement whose step is paid was done by the call of this form, or its step was given back and nothing else changed.
abbrev pub HasGone : {S : Type 0} → (Event → S → S) → PlanView → Stmt → InstanceParts → S → InstanceParts → S → Form → Type 0
HasGone after plan st old from new to form.Emitting = HasEmitted after plan st (out-Act (out-Stmt st).act) old from new to true × IsThere old new
HasGone after plan st old from new to form.Calling = HasCalled plan st (out-Act (out-Stmt st).act) old new true × (to ≡ from) × Costs old new
HasGone after plan st old from new to form.Other = (new ≡ record old { steps = old.steps + 1 }) × (to ≡ from)

-- A move that showed nothing, or an event, which the sink took.
abbrev pub IsSentMove : {S : Type 0} → (Event → S → S) → PlanView → InstanceParts → S → InstanceParts → S → Type 0
IsSentMove after plan old from new to =
    ((move plan (path_of old) (machine_of plan old) ≡ run_of (move_result.Moved effect.Nothing) (machine_of plan new)) × (to ≡ from))
    ⊎ ((e : Event) × (move plan (path_of old) (machine_of plan old) ≡ run_of (move_result.Moved (effect.Emitted e)) (machine_of plan new)) × (to ≡ after e from))

-- At least one step or one frame less is left.
abbrev pub Shortens : InstanceParts → InstanceParts → Type 0
Shortens old new = 2 * new.steps + length new.below.items < 2 * old.steps + length old.below.items

-- Either the value of a frame went to the one below, which showed nothing, or nothing changed.
pub record MayGiveBack (plan : PlanView) (old new : InstanceParts) : Type 0 where
  pub straight_run : SilentRun plan old new
  pub path : path_of new ≡ path_of old
  pub sound : IsInstance plan new
  pub steps : new.steps ≡ old.steps
  pub frames : length new.below.items ≤ length old.below.items

-- A frame made a move of its end, and perhaps a second one that showed nothing. The instance goes on.
pub record MakesEnd {S : Type 0} (after : Event → S → S) (plan : PlanView) (old : InstanceParts) (from : S) (new : InstanceParts) (to : S) : Type 0 where
  pub between : InstanceParts
  pub first : IsSentMove after plan old from between to
  pub path_between : path_of between ≡ path_of old
  pub sound_between : IsInstance plan between
  pub straight_run : SilentRun plan between new
  pub path : path_of new ≡ path_of old
  pub sound : IsInstance plan new
  pub shorter : Shortens old new

-- Either a frame made moves of its end, and the straight run goes on; or the run ends here, since nothing changed or no statement is left after them.
abbrev pub EndsFrame : {S : Type 0} → (Event → S → S) → PlanView → InstanceParts → S → InstanceParts → S → Bool → Type 0
EndsFrame after plan old from new to true = MakesEnd after plan old from new to
EndsFrame after plan old from new to false =
    ((new ≡ old) × (to ≡ from)) ⊎ (MakesEnd after plan old from new to × (statements_left (statements_of plan new.top) new.top.cursor ≡ []))
