-- How a task ends where one of its children's answers is a fault or a cut.
use Rattle.std.specs.Prelude.{◌≡◌, List, [], ◌∷◌, ◌++◌, Option, Some, None, Err, Contains}
use Rattle.serial_meaning.specs.Plan.{PlanView}
use Rattle.serial_meaning.specs.Eval.{eval}
use Rattle.serial_meaning.specs.Open.{faults}
use Rattle.serial_meaning.specs.Answer.{AnswerView, IsEval, IsCut, IsAnswer}
use Rattle.serial_meaning.specs.declared.event.Fault.{Fault}
use Rattle.serial_meaning.specs.declared.answer.Outcome.{Outcome}
use Rattle.serial_meaning.specs.declared.answer.Outcome.TheVariants as outcome
use Rattle.strand_meaning.specs.Answers.{answer_evaluations}
use Rattle.strand_meaning.specs.Trace.{AwaitedChild, Trace, merged_answers}
use Rattle.strand_meaning.specs.Sound.{IsTask}
use Rattle.strand_meaning.specs.Task.{Task}
use Rattle.strand_meaning.specs.Rest.{GaveValues, evaluations}

-- One child

-- the trace of a task once these children's evaluations are merged into it
abbrev pub merged_of : Task → List AwaitedChild → Trace
merged_of t ps = merged_answers ps (evaluations (eval t.plan) ps) (record t.trace { unmerged = [] })

-- The fault that cuts a child may cut its parent too, where the children before it gave values.
abbrev pub CutsPass : Type 0
CutsPass =
    (t : Task) (front : List AwaitedChild) (p : AwaitedChild) (later : List AwaitedChild) (by : Fault) → IsTask t → t.trace.fault ≡ None → t.trace.unmerged ≡ front ++ p ∷ later →
    GaveValues (eval t.plan) front → IsCut t.plan p.child by → IsCut t.plan t.origin by

-- A child's fault is its parent's, where the children before it gave values: what was merged up to it is the parent's evaluation,
-- whatever the later children gave.
abbrev pub FaultsPass : Type 0
FaultsPass =
    (t : Task) (front : List AwaitedChild) (p : AwaitedChild) (later : List AwaitedChild) (f : Fault) → IsTask t → t.trace.fault ≡ None → t.trace.unmerged ≡ front ++ p ∷ later →
    GaveValues (eval t.plan) front → (eval t.plan p.child).ending ≡ Err f → IsEval t.plan t.origin (merged_of t (front ++ p ∷ [])).prefix (outcome.Fault f) × Contains (faults t.plan) f

-- All children

-- these are answers of these children
abbrev pub AreAnswersOf : PlanView → List AwaitedChild → List AnswerView → Type 0
AreAnswersOf plan [] [] = Unit {0}
AreAnswersOf plan [] (a ∷ answers) = ⊥
AreAnswersOf plan (p ∷ ps) [] = ⊥
AreAnswersOf plan (p ∷ ps) (a ∷ answers) = (a.plan ≡ plan) × (a.origin ≡ p.child) × IsAnswer a.plan a.origin a.out a.outcome × AreAnswersOf plan ps answers

-- the first outcome that is a fault or a cut
abbrev pub or_ends : Option Outcome → Outcome → Option Outcome
or_ends (Some ended) next = Some ended
or_ends None (outcome.Value v) = None
or_ends None (outcome.Values vs) = None
or_ends None (outcome.Fault f) = Some (outcome.Fault f)
or_ends None (outcome.Cut f) = Some (outcome.Cut f)

abbrev pub ended_after : Option Outcome → List AnswerView → Option Outcome
ended_after ended [] = ended
ended_after ended (a ∷ answers) = ended_after (or_ends ended a.outcome) answers

abbrev pub by_fault : Option Fault → Option Outcome
by_fault None = None
by_fault (Some f) = Some (outcome.Fault f)

-- the fault of an outcome, if it has one, is the plan's
abbrev pub IsByFaultOf : PlanView → Outcome → Type 0
IsByFaultOf plan (outcome.Value v) = Unit {0}
IsByFaultOf plan (outcome.Values vs) = Unit {0}
IsByFaultOf plan (outcome.Fault f) = Contains (faults plan) f
IsByFaultOf plan (outcome.Cut f) = Contains (faults plan) f

-- Once all its children's answers are merged, a task answers with the first fault or cut in the order of its trace, and with what
-- was merged up to there. Where that is a fault, the answers after it may be cuts.
abbrev pub AnswersEnd : Type 0
AnswersEnd =
    (t : Task) (answers : List AnswerView) (ended : Outcome) → IsTask t → AreAnswersOf t.plan t.trace.unmerged answers → ended_after (by_fault t.trace.fault) answers ≡ Some ended →
    IsAnswer t.plan t.origin (merged_answers t.trace.unmerged (answer_evaluations answers) (record t.trace { unmerged = [] })).prefix ended × IsByFaultOf t.plan ended
