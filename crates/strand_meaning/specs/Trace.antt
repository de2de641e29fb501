-- What a task gave so far, in the order of the serial elision.
use Rattle.std.specs.Prelude.{List, [], ◌∷◌, ◌++◌, Option, Some, None, Result, Ok, Err}
use Rattle.serial_meaning.specs.Eval.{Evaluation}
use Rattle.serial_meaning.specs.declared.value.Value.{Value}
use Rattle.serial_meaning.specs.declared.event.Fault.{Fault}
use Rattle.serial_meaning.specs.declared.event.Event.{Event}
use Rattle.serial_meaning.specs.declared.origin.Origin.{Origin}
use Rattle.strand_meaning.specs.Machine.{Destination, Effect, Opens, Closes, Emitted, Starts, Syncs, Loops}

-- a child whose answer isn't taken, where its value goes, and the task's own events after it, up to the next child
pub record AwaitedChild : Type 0 where
  pub child : Origin
  pub destination : Destination
  pub after : List Event

-- The events before the first child whose answer isn't taken, up to the first fault among these, and that fault, after which
-- nothing counts; and then the children.
pub record Trace : Type 0 where
  pub prefix : List Event
  pub fault : Option Fault
  pub unmerged : List AwaitedChild

abbrev pub no_trace : Trace
no_trace = record { prefix = []; fault = None; unmerged = [] }

-- An event of the task's own

abbrev pub prefix_unless : Option Fault → List Event → List Event → List Event
prefix_unless None prefix more = prefix ++ more
prefix_unless (Some f) prefix more = prefix

abbrev pub after_last : AwaitedChild → List AwaitedChild → Event → List AwaitedChild
after_last p [] e = record p { after = p.after ++ e ∷ [] } ∷ []
after_last p (q ∷ qs) e = p ∷ after_last q qs e

abbrev pub emit_at : List AwaitedChild → Event → Trace → Trace
emit_at [] e trace = record trace { prefix = prefix_unless trace.fault trace.prefix (e ∷ []) }
emit_at (p ∷ ps) e trace = record trace { unmerged = after_last p ps e }

abbrev pub emit : Event → Trace → Trace
emit e trace = emit_at trace.unmerged e trace

-- one child more
abbrev pub add_child : Origin → Destination → Trace → Trace
add_child o destination trace = record trace { unmerged = trace.unmerged ++ record { child = o; destination = destination; after = [] } ∷ [] }

-- the effects of a move
abbrev pub with_effects : List Effect → Trace → Trace
with_effects [] trace = trace
with_effects (Opens j ∷ ts) trace = with_effects ts trace
with_effects (Closes j ∷ ts) trace = with_effects ts trace
with_effects (Emitted e ∷ ts) trace = with_effects ts (emit e trace)
with_effects (Starts o destination ∷ ts) trace = with_effects ts (add_child o destination trace)
with_effects (Syncs ∷ ts) trace = with_effects ts trace
with_effects (Loops ∷ ts) trace = with_effects ts trace

-- Answers

-- the answer's events, and if it is no fault then those after the child
abbrev pub merged_answer_unless : Option Fault → List Event → AwaitedChild → List Event → Result (List Value) Fault → Trace
merged_answer_unless (Some f) prefix p events ending = record { prefix = prefix; fault = Some f; unmerged = [] }
merged_answer_unless None prefix p events (Ok vs) = record { prefix = prefix ++ (events ++ p.after); fault = None; unmerged = [] }
merged_answer_unless None prefix p events (Err f) = record { prefix = prefix ++ events; fault = Some f; unmerged = [] }

-- a trace without children, once a child's answer was taken
abbrev pub merged_answer : AwaitedChild → Evaluation → Trace → Trace
merged_answer p answer trace = merged_answer_unless trace.fault trace.prefix p answer.items answer.ending

-- the answers of all children, in order
abbrev pub merged_answers : List AwaitedChild → List Evaluation → Trace → Trace
merged_answers [] answers trace = trace
merged_answers (p ∷ ps) [] trace = trace
merged_answers (p ∷ ps) (answer ∷ answers) trace = merged_answers ps answers (merged_answer p answer trace)
