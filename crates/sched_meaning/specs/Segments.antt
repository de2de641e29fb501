-- Segments: what a task does between two stops. They are counted by the stops, of all tasks of a run.
use Rattle.std.specs.Prelude.{◌≡◌, ℕ, ◌+◌, List}
use Rattle.serial_meaning.specs.Plan.{PlanView}
use Rattle.serial_meaning.specs.Eval.{main_origin}
use Rattle.serial_meaning.specs.declared.event.Event.{Event}
use Rattle.serial_meaning.specs.declared.origin.Origin.{Origin}
use Rattle.serial_meaning.specs.declared.answer.Outcome.{Outcome}
use Rattle.strand_meaning.specs.Task.{Task, start, Spawn, Wait, End, IsNext}
use Rattle.sched_meaning.specs.Core.{resumed_task}

-- A task, its children, their children and so on come to this many stops in all, where each wait ends with the evaluations of the
-- children.
pub data ComesToStops : Task → ℕ → Type 0 where
  Ends : {t : Task} {n : ℕ} (out : List Event) (ended : Outcome) → IsNext t (End out ended) → n ≡ 1 → ComesToStops t n
  Waits : {t : Task} {n : ℕ} (rest : Task) (later : ℕ) → IsNext t (Wait rest) → ComesToStops (resumed_task rest) later → n ≡ 1 + later → ComesToStops t n
  Spawns : {t : Task} {n : ℕ} (child : Origin) (rest : Task) (below later : ℕ) → IsNext t (Spawn child rest) → ComesToStops (start rest.plan child) below →
      ComesToStops rest later → n ≡ 1 + (below + later) → ComesToStops t n

-- the number of segments of a run, by the stops of main's task
abbrev pub IsSegments : PlanView → ℕ → Type 0
IsSegments plan n = ComesToStops (start plan (main_origin plan)) n
