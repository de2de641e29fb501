-- The simulation: the words of a seed pick among the events that make progress.
use Rattle.std.specs.Prelude.{◌≡◌, ℕ, zero, suc, ◌+◌, ◌%◌, Bool, true, false, ◌&&◌, not, nat_eq, List, [], ◌∷◌, ◌++◌, Option, Some, None, MatchOption, length, map, filter, flat_map, is_some, slice_get}
use Rattle.std.specs.List.{list_any, list_all, range_with_len}
use Rattle.dotmix.specs.Words.{seed_word}
use Rattle.serial_meaning.specs.Plan.{PlanView}
use Rattle.serial_meaning.specs.Eval.{main_origin}
use Rattle.serial_meaning.specs.declared.origin.Origin.{Origin}
use Rattle.strand_meaning.specs.Task.{Task}
use Rattle.sched_meaning.specs.Core.{Worker, Core, new_core, awaited, answered, IsRootAnswered}
use Rattle.sched_meaning.specs.Same.{same_origin}
use Rattle.sched_meaning.specs.Steps.{Step}
use Rattle.sched_meaning.specs.declared.event.CoreEvent.{CoreEvent}
use Rattle.sched_meaning.specs.declared.event.CoreEvent.TheVariants.{Run, Pop, Steal, Look, Idle}

-- Tests

abbrev pub is_answered : Core → Origin → Bool
is_answered c o = list_any (same_origin o) (answered c)

abbrev pub is_ready : Core → Option Task → Bool
is_ready c None = false
is_ready c (Some t) = list_all (is_answered c) (awaited t)

-- whether a worker has a current task; whether it exists and has none; whether its deque has a task
abbrev pub may_run : Option Worker → Bool
may_run None = false
may_run (Some w) = is_some w.current

abbrev pub is_free : Option Worker → Bool
is_free None = false
is_free (Some w) = not (is_some w.current)

abbrev pub has_task : List Task → Bool
has_task [] = false
has_task (t ∷ ts) = true

abbrev pub has_ready : Option Worker → Bool
has_ready None = false
has_ready (Some w) = has_task w.deque

abbrev pub may_resume : Core → ℕ → Option Worker → Bool
may_resume c place None = false
may_resume c place (Some w) = is_ready c (slice_get w.stalled place)

-- whether an event may happen now and makes progress
abbrev pub is_progress : Core → CoreEvent → Bool
is_progress c (Run w) = may_run (slice_get c.workers w)
is_progress c (Pop w) = is_free (slice_get c.workers w) && has_ready (slice_get c.workers w)
is_progress c (Steal thief victim) = not (nat_eq thief victim) && (is_free (slice_get c.workers thief) && has_ready (slice_get c.workers victim))
is_progress c (Look w place) = is_free (slice_get c.workers w) && may_resume c place (slice_get c.workers w)
is_progress c (Idle w) = false

abbrev pub is_choice : Core → CoreEvent → Bool
is_choice c e = not (is_answered c (main_origin c.plan)) && is_progress c e

-- Choices

abbrev pub stalled_places : Option Worker → List ℕ
stalled_places None = []
stalled_places (Some w) = range_with_len 0 (length w.stalled)

-- by kind, and within a kind by worker: steals by thief and then by victim, looks by worker and then by index
abbrev pub all_events : Core → List CoreEvent
all_events c =
    let workers = range_with_len 0 (length c.workers) in
    map (λ w. Run w) workers ++ map (λ w. Pop w) workers ++ flat_map (λ thief. map (λ victim. Steal thief victim) workers) workers
    ++ flat_map (λ w. map (λ place. Look w place) (stalled_places (slice_get c.workers w))) workers

abbrev pub choices : Core → List CoreEvent
choices c = filter (is_choice c) (all_events c)

-- the choice whose index is the word modulo their number
abbrev pub picked_of : List CoreEvent → ℕ → Option CoreEvent
picked_of [] word = None
picked_of (e ∷ es) word = slice_get (e ∷ es) (word % suc (length es))

abbrev pub picked : Core → ℕ → Option CoreEvent
picked c word = picked_of (choices c) word

-- Runs of a simulation

-- step i, from 1: what word i of the seed picks happens, or nothing where there is no choice
abbrev pub StepsByWord : ℕ → ℕ → Core → Core → Type 0
StepsByWord number i c next = MatchOption (picked c (seed_word number i)) (next ≡ c) (λ e. Step e c next)

-- this many steps lead from a new core to this one
abbrev pub Simulates : PlanView → ℕ → ℕ → ℕ → Core → Type 0
Simulates plan workers number zero c = c ≡ new_core plan workers
Simulates plan workers number (suc n) c = (before : Core) × Simulates plan workers number n before × StepsByWord number (n + 1) before c

-- the worker whose run answered the root
pub record IsSimWorker (plan : PlanView) (workers number w : ℕ) : Type 0 where
  pub steps : ℕ
  pub before : Core
  pub after : Core
  pub so_far : Simulates plan workers number steps before
  pub unanswered : IsRootAnswered before → ⊥
  pub picks : picked before (seed_word number (steps + 1)) ≡ Some (Run w)
  pub step : Step (Run w) before after
  pub answers : IsRootAnswered after
