-- Moves in a row that show nothing, or an event alone.
use Rattle.std.specs.Prelude.{◌≡◌, ◌≤◌, ◌+◌, Bool, true, false, List, [], ◌∷◌, Option, Some, None}
use Rattle.script_grammar.specs.declared.tree.Stmt.{Stmt}
use Rattle.serial_meaning.specs.Plan.{PlanView}
use Rattle.serial_meaning.specs.declared.event.Event.{Event}
use Rattle.strand_meaning.specs.Machine.{Machine, move}
use Rattle.strand_moves.specs.declared.cursor.Cursor.{Cursor}
use Rattle.strand_moves.specs.declared.instance_parts.InstanceParts.{InstanceParts}
use Rattle.strand_moves.specs.declared.effects.MoveResult.{MoveResult}
use Rattle.strand_moves.specs.declared.effects.MoveResult.TheVariants as move_result
use Rattle.strand_moves.specs.declared.effects.Effects.TheVariants as effect
use Rattle.strand_moves.specs.Cursors.{IsAfterStatement, statements_left, PassesStatement}
use Rattle.strand_moves.specs.Moves.{run_of}
use Rattle.strand_moves.specs.InstanceParts.{IsInstance, machine_of, path_of, statements_of}

-- Such moves lead from the first of these instances to the other. A sink takes the events that they show.
pub data StraightRun {S : Type 0} (after : Event → S → S) (plan : PlanView) (first : InstanceParts) (start : S) : InstanceParts → S → Type 0 where
  Still : (now : InstanceParts) (sent : S) → now ≡ first → sent ≡ start → StraightRun after plan first start now sent
  More : (before now : InstanceParts) (sent : S) → StraightRun after plan first start before sent → move plan (path_of before) (machine_of plan before) ≡ run_of (move_result.Moved effect.Nothing) (machine_of plan now) → path_of now ≡ path_of before →
      IsInstance plan now → StraightRun after plan first start now sent
  Emits : (before now : InstanceParts) (earlier sent : S) (e : Event) → StraightRun after plan first start before earlier → move plan (path_of before) (machine_of plan before) ≡ run_of (move_result.Moved (effect.Emitted e)) (machine_of plan now) →
      sent ≡ after e earlier → path_of now ≡ path_of before → IsInstance plan now → StraightRun after plan first start now sent

-- Such moves, and then one move more.
pub record RunsOn {S : Type 0} (after : Event → S → S) (plan : PlanView) (first : InstanceParts) (start : S) (m : MoveResult) (now : InstanceParts) (sent : S) : Type 0 where
  pub before : InstanceParts
  pub straight_run : StraightRun after plan first start before sent
  pub last : move plan (path_of before) (machine_of plan before) ≡ run_of m (machine_of plan now)

-- the statement that the cursor passed, if one was left
abbrev pub IsNextStatement : List Stmt → Cursor → Cursor → Option Stmt → Type 0
IsNextStatement body old new None = (statements_left body old ≡ []) × (statements_left body new ≡ [])
IsNextStatement body old new (Some st) = PassesStatement body old new st

-- What holds where the cursor has just passed this statement, or where none was left.
abbrev pub HasPassedStatement : PlanView → InstanceParts → Option Stmt → Type 0
HasPassedStatement plan i None = statements_left (statements_of plan i.top) i.top.cursor ≡ []
HasPassedStatement plan i (Some st) = (i.leaving ≡ false) × IsAfterStatement (statements_of plan i.top) i.top.cursor st

abbrev pub with_next : Option Stmt → List Stmt → List Stmt
with_next None left = []
with_next (Some st) left = st ∷ left

-- the machine before its cursor passed this statement
abbrev pub unpassed : PlanView → InstanceParts → Option Stmt → Machine
unpassed plan i next = let m = machine_of plan i in record m { top = record m.top { left = with_next next m.top.left } }

-- Such moves lead to an instance whose cursor then passed its next statement, if one was left.
pub record ComesToStatement {S : Type 0} (after : Event → S → S) (plan : PlanView) (first : InstanceParts) (start : S) (now : InstanceParts) (sent : S) (next : Option Stmt) : Type 0 where
  pub before : InstanceParts
  pub straight_run : StraightRun after plan first start before sent
  pub sound : IsInstance plan before
  pub path : path_of before ≡ path_of first
  pub passed : now ≡ record before { top = record before.top { cursor = now.top.cursor } }
  pub at : IsNextStatement (statements_of plan before.top) before.top.cursor now.top.cursor next

-- A move that showed nothing, and left an instance on its path.
pub record IsSilentMove (plan : PlanView) (old new : InstanceParts) : Type 0 where
  pub moves : move plan (path_of old) (machine_of plan old) ≡ run_of (move_result.Moved effect.Nothing) (machine_of plan new)
  pub path : path_of new ≡ path_of old
  pub sound : IsInstance plan new

-- Such moves lead from the first of these instances to the other.
pub data SilentRun (plan : PlanView) (first : InstanceParts) : InstanceParts → Type 0 where
  Here : (now : InstanceParts) → now ≡ first → SilentRun plan first now
  Then : (before now : InstanceParts) → SilentRun plan first before → IsSilentMove plan before now → SilentRun plan first now

-- The innermost frame stands in the same block, over the same frames, and no step came back.
pub record StaysInBlock (old new : InstanceParts) : Type 0 where
  pub below : new.below.items ≡ old.below.items
  pub function : new.top.function ≡ old.top.function
  pub levels : new.top.levels.items ≡ old.top.levels.items
  pub entered : new.top.cursor.entered.items ≡ old.top.cursor.entered.items
  pub few : new.steps ≤ old.steps

-- Either a move that showed nothing was made in the same block and its step paid, or nothing changed.
abbrev pub IsMoveInBlock : PlanView → InstanceParts → InstanceParts → Bool → Type 0
IsMoveInBlock plan old new true = IsSilentMove plan old new × StaysInBlock old new × (new.steps + 1 ≡ old.steps)
IsMoveInBlock plan old new false = new ≡ old

-- Moves that showed nothing, or an event, which the sink took, led there, in the same block.
pub record GoesOnInBlock {S : Type 0} (after : Event → S → S) (plan : PlanView) (old : InstanceParts) (from : S) (new : InstanceParts) (to : S) : Type 0 where
  pub straight_run : StraightRun after plan old from new to
  pub path : path_of new ≡ path_of old
  pub sound : IsInstance plan new
  pub stays : StaysInBlock old new

-- Either a move was made in the same block, its step paid, and the sink took what it showed; or nothing changed.
abbrev pub IsSentInBlock : {S : Type 0} → (Event → S → S) → PlanView → InstanceParts → S → InstanceParts → S → Bool → Type 0
IsSentInBlock after plan old from new to true = GoesOnInBlock after plan old from new to × (new.steps + 1 ≡ old.steps)
IsSentInBlock after plan old from new to false = (new ≡ old) × (to ≡ from)
