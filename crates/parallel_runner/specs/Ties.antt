-- Which event of the machine of scheduling a turn of a hand is, on the part of one worker.
use Rattle.std.specs.Prelude.{◌≡◌, ℕ, ◌+◌, ◌⊎◌, List, [], ◌∷◌, ◌++◌, Option, Some, None, length, map, option_map, slice_get, remove}
use Rattle.serial_meaning.specs.Answer.{AnswerView}
use Rattle.serial_meaning.specs.declared.answer.Outcome.{Outcome}
use Rattle.strand_meaning.specs.Task.{Task, Stop, Spawn, Wait, End}
use Rattle.sched_meaning.specs.Core.{Worker, free_worker}
use Rattle.sched_meaning.specs.Steps.{WorkerRuns, WorkerPops, WorkerTakes, WorkerResumes, WorkerPasses}
use Rattle.steal_deck.specs.Ends.{OwnerEnd, Pushes, Pops, FindsNone}
use Rattle.strand_machine.specs.Stops.{IsCutOn}
use Rattle.strand_machine.specs.Tasks.{TaskView}
use Rattle.parallel_runner.specs.Hands.{HandView, MayBeCut, FirstSteals}
use Rattle.parallel_runner.specs.declared.hand.Looked.{Looked}
use Rattle.parallel_runner.specs.declared.hand.Looked.TheVariants as looked
use Rattle.parallel_runner.specs.declared.hand.Turn.{Turn}
use Rattle.parallel_runner.specs.declared.hand.Turn.TheVariants.{Ran, Answered, Ended, Popped, Resumed, Waiting, Stole, Idle}

abbrev pub tasks : List TaskView → List Task
tasks ts = map (λ t. t.task) ts

-- The worker that a hand is while these tasks are left in its deque. The private list is the back part.
abbrev pub worker_of : List TaskView → HandView → Worker
worker_of left h = record {
  current = option_map (λ t. t.task) h.current;
  deque = tasks left ++ tasks h.overflow;
  stalled = tasks h.stalled;
}

-- What a call of the deque's owner makes of the tasks left in it, at the one moment at which it does: nothing, a push, or a pop.
abbrev pub OwnerLeaves : OwnerEnd TaskView → List TaskView → OwnerEnd TaskView → List TaskView → Type 0
OwnerLeaves old left new after =
    ((new ≡ old) × (after ≡ left))
    ⊎ ((t : TaskView) × Pushes old t new × (after ≡ left ++ t ∷ []))
    ⊎ ((t : TaskView) × Pops old t new × (left ≡ after ++ t ∷ []))

abbrev pub IsEnd : Stop → Type 0
IsEnd (Spawn child rest) = ⊥
IsEnd (Wait rest) = ⊥
IsEnd (End out ended) = Unit {0}

abbrev pub IsNoEnd : Stop → Type 0
IsNoEnd stop = IsEnd stop → ⊥

-- The current task comes to a stop of this kind, whatever is left in the deque.
abbrev pub RunsTo : (Stop → Type 0) → HandView → HandView → Type 0
RunsTo Kind old new =
    (t : Task) × (stop : Stop) × Kind stop
    × ((left : List TaskView) → (after : List TaskView) × OwnerLeaves old.deck left new.deck after × WorkerRuns t stop (worker_of left old) (worker_of after new))

-- The current task was cut, or had taken a cut for an answer. It was answered and is gone, and all else stays. The machine has no such event.
abbrev pub EndsByCut : HandView → HandView → Type 0
EndsByCut old new =
    (t : TaskView) × (old.current ≡ Some t) × (MayBeCut t ⊎ ((ended : Outcome) × (t.cut ≡ Some ended)))
    × (new ≡ record old { current = None; answered = new.answered })

-- The last of the hand's own tasks becomes the current one, whatever is left after it in the deque.
abbrev pub TakesLast : HandView → HandView → Type 0
TakesLast old new =
    (t : Task)
    × ((after : List TaskView) → (left : List TaskView) × OwnerLeaves old.deck left new.deck after × WorkerPops t (worker_of left old) (worker_of after new))

-- The stalled task at this place becomes the current one. It goes on by its children's evaluations, or by answers with a cut among them.
abbrev pub ResumesAt : ℕ → List TaskView → HandView → HandView → Type 0
ResumesAt place left old new =
    ((t : Task) × WorkerResumes place t (worker_of left old) (worker_of left new))
    ⊎ ((t next : TaskView) × (answers : List AnswerView) × IsCutOn answers t next × (old.current ≡ None) × (slice_get old.stalled place ≡ Some t)
    × (new ≡ record old { current = Some next; deck = new.deck; stalled = remove old.stalled place }))

-- The task at this place of the stalled tasks still waits, and went to their end.
abbrev pub PassesAt : ℕ → List TaskView → HandView → HandView → Type 0
PassesAt place left old new = (t : Task) × WorkerPasses place t (worker_of left old) (worker_of left new)

-- the look before a steal, where a task waits
abbrev pub LooksBefore : Worker → Worker → Type 0
LooksBefore w looked = ((w.stalled ≡ []) × (looked ≡ w)) ⊎ ((t : Task) × WorkerPasses 0 t w looked)

-- A turn is this event. Those that come after a pop that found nothing are told of the moment at which nothing was left in the deque.
abbrev pub IsTied : {K : Type 0} → HandView → Turn K → HandView → Type 0
IsTied old Ran new = RunsTo IsNoEnd old new
IsTied old (Answered arrived) new = RunsTo IsEnd old new ⊎ EndsByCut old new
IsTied old (Ended arrived) new = RunsTo IsEnd old new ⊎ EndsByCut old new
IsTied old Popped new = TakesLast old new
IsTied old Resumed new = FindsNone old.deck new.deck × ResumesAt 0 [] old new
IsTied old Stole new =
    FindsNone old.deck new.deck
    × ((t : TaskView) × FirstSteals old.thieves t new.thieves
    × ((mid : Worker) × LooksBefore (worker_of [] old) mid × WorkerTakes t.task mid (worker_of [] new)))
IsTied old Waiting new = FindsNone old.deck new.deck × PassesAt 0 [] old new
IsTied old Idle new = FindsNone old.deck new.deck × (worker_of [] old ≡ free_worker) × (worker_of [] new ≡ free_worker)

-- A look between turns is a look at the last place of the stalled tasks, whatever is left in the deque.
abbrev pub IsTiedLook : HandView → Looked → HandView → Type 0
IsTiedLook old looked.Nothing new = new ≡ old
IsTiedLook old looked.Waits new = (place : ℕ) × (place + 1 ≡ length old.stalled) × ((left : List TaskView) → PassesAt place left old new)
IsTiedLook old looked.Resumes new = (place : ℕ) × (place + 1 ≡ length old.stalled) × ((left : List TaskView) → ResumesAt place left old new)

-- The same of a look at the first place.
abbrev pub IsTiedLookFirst : HandView → Looked → HandView → Type 0
IsTiedLookFirst old looked.Nothing new = new ≡ old
IsTiedLookFirst old looked.Waits new = (left : List TaskView) → PassesAt 0 left old new
IsTiedLookFirst old looked.Resumes new = (left : List TaskView) → ResumesAt 0 left old new
