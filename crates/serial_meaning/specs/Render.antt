-- The printed lines of a run (docs/LANGUAGE.md, "Printed lines"). Each ends with a line feed.
use Rattle.std.specs.Prelude.{ℕ, List, [], ◌++◌, Option, Some, None, codes, decimal, flat_map}
use Rattle.std.specs.Fmt.{signed_decimal}
use Rattle.ped_path.specs.Text.{ped_text}
use Rattle.serial_meaning.specs.Answer.{AnswerView}
use Rattle.serial_meaning.specs.declared.value.Value.{Value}
use Rattle.serial_meaning.specs.declared.value.Value.TheVariants.{Int, Id}
use Rattle.serial_meaning.specs.declared.event.FaultKind.{FaultKind}
use Rattle.serial_meaning.specs.declared.event.FaultKind.TheVariants.{Divide, Index, Depth, Calls, Budget}
use Rattle.serial_meaning.specs.declared.event.Fault.{Fault}
use Rattle.serial_meaning.specs.declared.event.Event.{Event}
use Rattle.serial_meaning.specs.declared.event.Event.TheVariants as event
use Rattle.serial_meaning.specs.declared.plan.Show.{Show}
use Rattle.serial_meaning.specs.declared.plan.Show.TheVariants.{Plain, Log}
use Rattle.serial_meaning.specs.declared.answer.Outcome.{Outcome}
use Rattle.serial_meaning.specs.declared.answer.Outcome.TheVariants as outcome
use Rattle.serial_meaning.specs.declared.answer.Strand.{Strand}

abbrev pub line : List ℕ → List ℕ
line text = text ++ codes "\n"

abbrev pub value_text : Value → List ℕ
value_text (Int n) = signed_decimal n
value_text (Id j) = ped_text j

abbrev pub draw_line : List ℕ → ℕ → List ℕ
draw_line j n = line (codes "draw " ++ ped_text j ++ codes " = " ++ decimal n)

-- a run's line of an event, if it has one
abbrev pub event_line : Show → Event → List ℕ
event_line show (event.Print j v) = line (value_text v)
event_line Plain (event.Draw j n) = []
event_line Log (event.Draw j n) = draw_line j n
event_line Plain (event.New j) = []
event_line Log (event.New j) = line (codes "new " ++ ped_text j)
event_line show (event.Spawn j) = []
event_line show (event.Sync j) = []
event_line show (event.Loop j) = []

-- a strand's line of an event
abbrev pub strand_line : Event → List ℕ
strand_line (event.Print j v) = line (value_text v)
strand_line (event.Draw j n) = draw_line j n
strand_line (event.New j) = line (codes "new " ++ ped_text j)
strand_line (event.Spawn j) = line (codes "spawn " ++ ped_text j)
strand_line (event.Sync j) = line (codes "sync " ++ ped_text j)
strand_line (event.Loop j) = line (codes "loop " ++ ped_text j)

abbrev pub fault_kind_text : FaultKind → List ℕ
fault_kind_text Divide = codes "division by zero"
fault_kind_text Index = codes "index out of range"
fault_kind_text Depth = codes "depth"
fault_kind_text Calls = codes "calls"
fault_kind_text Budget = codes "budget spent"

abbrev pub fault_line : Fault → List ℕ
fault_line f = line (codes "fault " ++ ped_text f.at ++ codes ": " ++ fault_kind_text f.kind)

abbrev pub end_line : Outcome → List ℕ
end_line (outcome.Value v) = []
end_line (outcome.Values vs) = []
end_line (outcome.Fault f) = fault_line f
end_line (outcome.Cut f) = []

-- The origin was run to its end.
abbrev pub IsWhole : Outcome → Type 0
IsWhole (outcome.Value v) = Unit {0}
IsWhole (outcome.Values vs) = Unit {0}
IsWhole (outcome.Fault f) = Unit {0}
IsWhole (outcome.Cut f) = ⊥

-- the lines of the events in order, and then a line of the fault
abbrev pub rendered : Show → List Event → Outcome → List ℕ
rendered show events ended = flat_map (event_line show) events ++ end_line ended

abbrev pub answer_text : AnswerView → List ℕ
answer_text a = rendered a.plan.show a.out a.outcome

abbrev pub last_line : Option Fault → List ℕ
last_line None = []
last_line (Some f) = fault_line f

abbrev pub strand_text : Strand → List ℕ
strand_text s = flat_map strand_line s.events ++ last_line s.fault
