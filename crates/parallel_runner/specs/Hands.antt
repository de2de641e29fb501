-- What contracts see of a hand, and what a turn makes of it.
use Rattle.std.specs.Prelude.{◌≡◌, ℕ, ◌<◌, ◌≤◌, ◌⊎◌, slice_index_or, Bool, true, false, Result, Ok, List, [], ◌∷◌, ◌++◌, Option, Some, None, length}
use Rattle.serial_meaning.specs.Answer.{AnswerView, AnswerTag, IsCut}
use Rattle.serial_meaning.specs.Eval.{main_origin}
use Rattle.serial_meaning.specs.declared.event.Fault.{Fault}
use Rattle.serial_meaning.specs.declared.keep.All.{All}
use Rattle.serial_meaning.specs.declared.answer.Outcome.TheVariants as outcome
use Rattle.steal_deck.specs.Ends.{OwnerEnd, ThiefEnd, risen, Pushes, Pops, FindsNone, Steals}
use Rattle.strand_machine.specs.Links.{GiveView, task_give}
use Rattle.strand_machine.specs.Stops.{IsResumed, Advances as AdvancesTo}
use Rattle.strand_machine.specs.Tasks.{TaskView}
use Rattle.strand_machine.specs.declared.stop.Stop.{Stop}
use Rattle.strand_machine.specs.declared.stop.Stop.TheVariants as stop
use Rattle.strand_machine.specs.declared.stop.Resumed.TheVariants as resumed
use Rattle.parallel_runner.specs.declared.hand_state.HandState.{HandState}
use Rattle.parallel_runner.specs.declared.hand.Looked.{Looked}
use Rattle.parallel_runner.specs.declared.hand.Looked.TheVariants as looked
use Rattle.parallel_runner.specs.declared.hand.Turn.{Turn}
use Rattle.parallel_runner.specs.declared.hand.Turn.TheVariants.{Ran, Answered, Ended, Popped, Resumed as ResumedOne, Waiting, Stole, Idle}

-- A hand's tasks: the current one; its deck, by the owner's end, with the private list after it; those that are stalled, since they wait; its ends of
-- the other hands' decks; and the answers that it has put.
pub record HandView : Type 0 where
  pub current : Option TaskView
  pub overflow : List TaskView
  pub deck : OwnerEnd TaskView
  pub stalled : List TaskView
  pub thieves : List (ThiefEnd TaskView)
  pub answered : List AnswerView

abbrev pub view_of : {K : Type 0} → HandState K → HandView
view_of h = record { current = h.current; overflow = h.overflow; deck = h.deck; stalled = h.stalled.items; thieves = h.thieves.items; answered = h.answered }

-- Whether a turn stole a task, or may have left one for others to steal.
abbrev pub has_task : {K E : Type 0} → Result (Turn K) E → Bool
has_task (Ok Ran) = true
has_task (Ok Popped) = true
has_task (Ok Stole) = true
has_task _ = false

-- The steps of a turn

-- The rest of a task that spawned a child: it is pushed on the deck, or goes to the private list's end. The latter comes only where that list
-- isn't empty, or where the deck refused the rest, which has had at least 64 pushes then.
abbrev pub IsPut : TaskView → List TaskView → OwnerEnd TaskView → List TaskView → OwnerEnd TaskView → Type 0
IsPut rest overflow deck overflow' deck' =
    ((overflow ≡ []) × (overflow' ≡ []) × Pushes deck rest deck')
    ⊎ ((overflow ≡ [] → 64 ≤ length deck.pushed) × (overflow' ≡ overflow ++ rest ∷ []) × (deck' ≡ deck))

-- The private list is empty unless the deck has had at least 64 pushes.
abbrev pub IsLate : List TaskView → OwnerEnd TaskView → Type 0
IsLate overflow deck = (overflow ≡ []) ⊎ (64 ≤ length deck.pushed)

abbrev pub KeepsLate : HandView → HandView → Type 0
KeepsLate old new = IsLate old.overflow old.deck → IsLate new.overflow new.deck

-- A stop that is no end: the rest goes after the others and the child becomes current, or the task goes to the end of the stalled tasks.
abbrev pub RunsOnward : {K : Type 0} → Stop K → HandView → HandView → Type 0
RunsOnward (stop.Spawn child rest) old new =
    IsPut rest old.overflow old.deck new.overflow new.deck × (new ≡ record old { current = Some child; overflow = new.overflow; deck = new.deck })
RunsOnward (stop.Wait rest) old new = new ≡ record old { current = None; stalled = old.stalled ++ rest ∷ [] }
RunsOnward (stop.Done answer give) old new = ⊥

-- It is a root's tag: main's of its plan. All other origins of a plan are children of others.
abbrev pub IsRoots : AnswerTag → Type 0
IsRoots asked = asked.origin ≡ main_origin asked.plan

-- The answer for this give was put by it, a root's or another's.
abbrev pub TurnAnswers : {K : Type 0} → GiveView AnswerTag → Turn K → Type 0
TurnAnswers give (Answered arrived) = (arrived ≡ give) × (IsRoots give.tag → ⊥)
TurnAnswers give (Ended arrived) = (arrived ≡ give) × IsRoots give.tag
TurnAnswers give _ = ⊥

-- The task comes to its end, and this is its answer: a cut only where it took one.
abbrev pub EndsBy : (K : Type 0) → TaskView → AnswerView → Type 0
EndsBy K t answer = (give : GiveView AnswerTag) × AdvancesTo {K = K} t (stop.Done answer give)

-- The task comes to its end, and its answer was put.
pub record HasPut (K : Type 0) (t : TaskView) (before after : List AnswerView) : Type 0 where
  pub answer : AnswerView
  pub by : EndsBy K t answer
  pub put : after ≡ before ++ answer ∷ []

-- The task is cut by this fault, and nothing of it was done: a fault of its plan that stands before all that its origin answers for.
abbrev pub MayBeCutBy : TaskView → Fault → Type 0
MayBeCutBy t by = (t.task.advanced ≡ false) × IsCut t.task.plan t.task.origin by

abbrev pub MayBeCut : TaskView → Type 0
MayBeCut t = (by : Fault) × MayBeCutBy t by

-- the answer of a task that is cut
abbrev pub cut_answer : TaskView → Fault → AnswerView
cut_answer t by = record { plan = t.task.plan; origin = t.task.origin; out = []; outcome = outcome.Cut by }

abbrev pub IsCutTo : TaskView → AnswerView → Type 0
IsCutTo t answer = (by : Fault) × MayBeCutBy t by × (answer ≡ cut_answer t by)

-- The task came to its end or was cut. Its answer was put by its give, and no other.
abbrev pub EndsTask : {K : Type 0} → TaskView → HandView → Turn K → HandView → Type 0
EndsTask {K} t old turn new =
    (answer : AnswerView) × (EndsBy K t answer ⊎ IsCutTo t answer) × TurnAnswers (task_give t.task.plan t.task.origin t.joins) turn
    × (new ≡ record old { current = None; answered = old.answered ++ answer ∷ [] })

-- What a turn does with the current task. One that took a cut for an answer comes to no other stop than its end.
abbrev pub AdvancesCurrent : {K : Type 0} → TaskView → HandView → Turn K → HandView → Type 0
AdvancesCurrent {K} t old Ran new = (stop : Stop K) × AdvancesTo t stop × RunsOnward stop old new
AdvancesCurrent {K} t old turn new = EndsTask t old turn new

-- This is what is left of the task, which goes on and has the give that it had.
abbrev pub IsUnended : TaskView → TaskView → Type 0
IsUnended t left = (t.cut ≡ None) × (task_give left.task.plan left.task.origin left.joins ≡ task_give t.task.plan t.task.origin t.joins)

-- What holds also where there was no memory: a task that had ended or took a cut was answered; any other was, by its own end, or no answer was put.
abbrev pub PutsItsEnd : (K : Type 0) → TaskView → List AnswerView → List AnswerView → Type 0
PutsItsEnd K t before after = HasPut K t before after ⊎ ((t.cut ≡ None) × (after ≡ before))

abbrev pub PutsEndOf : (K : Type 0) → Option TaskView → List AnswerView → List AnswerView → Type 0
PutsEndOf K None before after = after ≡ before
PutsEndOf K (Some t) before after = PutsItsEnd K t before after

-- The task is the last of the private list, or else the newest of the deck.
abbrev pub IsNewest : TaskView → List TaskView → OwnerEnd TaskView → List TaskView → OwnerEnd TaskView → Type 0
IsNewest t overflow deck overflow' deck' =
    ((overflow ≡ overflow' ++ t ∷ []) × (deck' ≡ deck))
    ⊎ ((overflow ≡ []) × (overflow' ≡ []) × Pops deck t deck')

-- The private list is empty, and the deck had none at one moment.
abbrev pub FindsNoTask : HandView → HandView → Type 0
FindsNoTask old new = (old.overflow ≡ []) × FindsNone old.deck new.deck

-- The task at the front of the stalled tasks still waits, and went to their end.
abbrev pub IsTurnedOver : List TaskView → List TaskView → Type 0
IsTurnedOver [] after = ⊥
IsTurnedOver (t ∷ ts) after = (same : TaskView) × IsResumed {K = All} t (resumed.NotYet same) × (after ≡ ts ++ same ∷ [])

-- It goes on, and is stalled no more.
abbrev pub ResumesFirst : List TaskView → TaskView → List TaskView → Type 0
ResumesFirst [] next after = ⊥
ResumesFirst (t ∷ ts) next after = IsResumed {K = All} t (resumed.On next) × (after ≡ ts)

-- What a look at a task that was stalled made of the hand.
abbrev pub LooksAt : TaskView → HandView → Looked → HandView → Type 0
LooksAt t old looked.Nothing new = ⊥
LooksAt t old looked.Waits new = (same : TaskView) × IsResumed {K = All} t (resumed.NotYet same) × (new ≡ record old { stalled = old.stalled ++ same ∷ [] })
LooksAt t old looked.Resumes new = (next : TaskView) × IsResumed {K = All} t (resumed.On next) × (new ≡ record old { current = Some next })

-- What a look at the front of the stalled tasks found.
abbrev pub Looks : HandView → Looked → HandView → Type 0
Looks old looked.Nothing new = (old.stalled ≡ []) × (new ≡ old)
Looks old looked.Waits new = IsTurnedOver old.stalled new.stalled × (new ≡ record old { stalled = new.stalled })
Looks old looked.Resumes new = (t : TaskView) × ResumesFirst old.stalled t new.stalled × (new ≡ record old { current = Some t; stalled = new.stalled })

-- a thief whose steal took nothing
abbrev pub missed : ThiefEnd TaskView → ThiefEnd TaskView
missed x = record x { misses = risen x.misses }

-- A steal by each thief took nothing.
pub record AllMiss (before after : List (ThiefEnd TaskView)) : Type 0 where
  pub count : length after ≡ length before
  pub each : (k : ℕ) (d : ThiefEnd TaskView) → k < length before → slice_index_or after k d ≡ missed (slice_index_or before k d)

-- The steals by the first so many took nothing, that by the next one took this task, and the others didn't steal.
pub record FirstSteals (before : List (ThiefEnd TaskView)) (t : TaskView) (after : List (ThiefEnd TaskView)) : Type 0 where
  pub fruitless : ℕ
  pub within : fruitless < length before
  pub count : length after ≡ length before
  pub miss : (k : ℕ) (d : ThiefEnd TaskView) → k < fruitless → slice_index_or after k d ≡ missed (slice_index_or before k d)
  pub take : (d : ThiefEnd TaskView) → Steals (slice_index_or before fruitless d) t (slice_index_or after fruitless d)
  pub rest : (k : ℕ) (d : ThiefEnd TaskView) → fruitless < k → slice_index_or after k d ≡ slice_index_or before k d

-- A task was stolen and became current; or there was none, and the turn was this.
abbrev pub StealsOr : {K : Type 0} → Turn K → HandView → Turn K → HandView → Type 0
StealsOr otherwise old turn new =
    ((t : TaskView) × (turn ≡ Stole) × FirstSteals old.thieves t new.thieves × (new ≡ record old { current = Some t; thieves = new.thieves }))
    ⊎ ((turn ≡ otherwise) × AllMiss old.thieves new.thieves × (new ≡ record old { thieves = new.thieves }))

-- A turn of a hand that has no current task.
abbrev pub Seeks : {K : Type 0} → HandView → Turn K → HandView → Type 0
Seeks old Popped new =
    (t : TaskView) × IsNewest t old.overflow old.deck new.overflow new.deck × (new ≡ record old { current = Some t; overflow = new.overflow; deck = new.deck })
Seeks old ResumedOne new =
    (t : TaskView) × FindsNoTask old new × ResumesFirst old.stalled t new.stalled × (new ≡ record old { current = Some t; deck = new.deck; stalled = new.stalled })
Seeks old Stole new =
    (t : TaskView) × FindsNoTask old new × (((old.stalled ≡ []) × (new.stalled ≡ [])) ⊎ IsTurnedOver old.stalled new.stalled) × FirstSteals old.thieves t new.thieves
    × (new ≡ record old { current = Some t; deck = new.deck; stalled = new.stalled; thieves = new.thieves })
Seeks old Waiting new =
    FindsNoTask old new × IsTurnedOver old.stalled new.stalled × AllMiss old.thieves new.thieves
    × (new ≡ record old { deck = new.deck; stalled = new.stalled; thieves = new.thieves })
Seeks old Idle new =
    FindsNoTask old new × (old.stalled ≡ []) × AllMiss old.thieves new.thieves × (new ≡ record old { deck = new.deck; thieves = new.thieves })
Seeks old _ new = ⊥

-- A turn, by what it did: with the current task, or else to get one.
abbrev pub IsTurnFrom : {K : Type 0} → Option TaskView → HandView → Turn K → HandView → Type 0
IsTurnFrom (Some t) old turn new = AdvancesCurrent t old turn new
IsTurnFrom None old turn new = Seeks old turn new

abbrev pub IsTurn : {K : Type 0} → HandView → Turn K → HandView → Type 0
IsTurn old turn new = IsTurnFrom old.current old turn new

-- A look between turns

-- The task at the end of the stalled tasks still waits, and stays there.
abbrev pub StaysLast : List TaskView → List TaskView → Type 0
StaysLast before after =
    (ts : List TaskView) × (t same : TaskView) × (before ≡ ts ++ t ∷ []) × IsResumed {K = All} t (resumed.NotYet same) × (after ≡ ts ++ same ∷ [])

-- It goes on, and is stalled no more.
abbrev pub LastGoesOn : List TaskView → TaskView → List TaskView → Type 0
LastGoesOn before next after = (t : TaskView) × (before ≡ after ++ t ∷ []) × IsResumed {K = All} t (resumed.On next)

-- What a look at the end of the stalled tasks found. No hand looks that has a current task.
abbrev pub LooksNewest : HandView → Looked → HandView → Type 0
LooksNewest old looked.Nothing new = (new ≡ old) × (old.current ≡ None → old.stalled ≡ [])
LooksNewest old looked.Waits new = (old.current ≡ None) × StaysLast old.stalled new.stalled × (new ≡ record old { stalled = new.stalled })
LooksNewest old looked.Resumes new =
    (t : TaskView) × (old.current ≡ None) × LastGoesOn old.stalled t new.stalled × (new ≡ record old { current = Some t; stalled = new.stalled })

-- The same of a look at their front. Where that task still waits it goes to their end.
abbrev pub LooksOldest : HandView → Looked → HandView → Type 0
LooksOldest old looked.Nothing new = (new ≡ old) × (old.current ≡ None → old.stalled ≡ [])
LooksOldest old looked.Waits new = (old.current ≡ None) × IsTurnedOver old.stalled new.stalled × (new ≡ record old { stalled = new.stalled })
LooksOldest old looked.Resumes new =
    (t : TaskView) × (old.current ≡ None) × ResumesFirst old.stalled t new.stalled × (new ≡ record old { current = Some t; stalled = new.stalled })
