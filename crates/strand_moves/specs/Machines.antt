-- A boxed instance as the machine that `strand_meaning` defines.
use Rattle.std.specs.Prelude.{ℕ, List, Option}
use Rattle.script_grammar.specs.declared.tree.Stmt.{Stmt}
use Rattle.serial_meaning.specs.Plan.{PlanView}
use Rattle.serial_meaning.specs.declared.event.Event.{Event}
use Rattle.strand_meaning.specs.Machine as meaning
use Rattle.strand_moves.specs.declared.instance.Instance.{Instance}
use Rattle.strand_moves.specs.StraightRuns as straight_runs
use Rattle.strand_moves.specs.InstanceParts as instance_parts
use Rattle.strand_moves.specs.Spawns as spawns
use Rattle.strand_moves.specs.Waits as waits
use Rattle.strand_moves.specs.declared.effects.Waits.{Waits}
use Rattle.strand_moves.specs.declared.effects.SpawnedChild.{SpawnedChild}
use Rattle.strand_moves.specs.declared.effects.MoveResult.{MoveResult}

abbrev pub machine_of : PlanView → Instance → meaning.Machine
machine_of plan i = instance_parts.machine_of plan i.parts.value

abbrev pub path_of : Instance → List ℕ
path_of i = instance_parts.path_of i.parts.value

-- An instance of this plan.
abbrev pub IsInstance : PlanView → Instance → Type 0
IsInstance plan i = instance_parts.IsInstance plan i.parts.value

-- Moves in a row that showed nothing, or an event, which the sink took; the cursor then passed its next statement, if one was left.
abbrev pub ComesToStatement : {S : Type 0} → (Event → S → S) → PlanView → Instance → S → Instance → S → Option Stmt → Type 0
ComesToStatement after plan i start now sent next = straight_runs.ComesToStatement after plan i.parts.value start now.parts.value sent next

abbrev pub HasPassedStatement : PlanView → Instance → Option Stmt → Type 0
HasPassedStatement plan i next = straight_runs.HasPassedStatement plan i.parts.value next

abbrev pub unpassed : PlanView → Instance → Option Stmt → meaning.Machine
unpassed plan i next = straight_runs.unpassed plan i.parts.value next

abbrev pub HasSpawned : {S : Type 0} → (Event → S → S) → PlanView → Instance → S → Option Stmt → Instance → S → Option SpawnedChild → Type 0
HasSpawned after plan old from next new to done = spawns.HasSpawned after plan old.parts.value from next new.parts.value to done

abbrev pub HasWaited : {S : Type 0} → (Event → S → S) → PlanView → Instance → S → Option Stmt → Instance → S → Option Waits → Type 0
HasWaited after plan old from next new to done = waits.HasWaited after plan old.parts.value from next new.parts.value to done

-- Moves in a row that showed nothing, or an event, which the sink took; and one more.
abbrev pub RunsOn : {S : Type 0} → (Event → S → S) → PlanView → Instance → S → MoveResult → Instance → S → Type 0
RunsOn after plan i start m now sent = straight_runs.RunsOn after plan i.parts.value start m now.parts.value sent
