-- Tests whether an event may happen.
use Rattle.std.specs.Prelude.{Bool, false, ◌&&◌, not, ℕ, nat_eq, nat_lt, Option, Some, None, length, is_some, slice_get}
use Rattle.sched_meaning.specs.Core.{Worker, Core}
use Rattle.sched_meaning.specs.Simulation.{has_task, is_free, has_ready, may_run}
use Rattle.sched_meaning.specs.declared.event.CoreEvent.{CoreEvent}
use Rattle.sched_meaning.specs.declared.event.CoreEvent.TheVariants.{Run, Pop, Steal, Look, Idle}

-- whether a task is stalled at this index
abbrev pub has_stalled : ℕ → Option Worker → Bool
has_stalled place None = false
has_stalled place (Some w) = nat_lt place (length w.stalled)

-- whether this worker exists and has no task
abbrev pub may_idle : Option Worker → Bool
may_idle None = false
may_idle (Some w) = not (is_some w.current) && (not (has_task w.deque) && not (has_task w.stalled))

-- whether an event may happen, while the root isn't answered
abbrev pub may_happen : Core → CoreEvent → Bool
may_happen c (Run w) = may_run (slice_get c.workers w)
may_happen c (Pop w) = is_free (slice_get c.workers w) && has_ready (slice_get c.workers w)
may_happen c (Steal thief victim) = not (nat_eq thief victim) && (is_free (slice_get c.workers thief) && has_ready (slice_get c.workers victim))
may_happen c (Look w place) = is_free (slice_get c.workers w) && has_stalled place (slice_get c.workers w)
may_happen c (Idle w) = may_idle (slice_get c.workers w)
