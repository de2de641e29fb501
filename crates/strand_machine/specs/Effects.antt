-- A task after a move of its instance.
use Rattle.std.specs.Prelude.{Option, Some, None}
use Rattle.serial_meaning.specs.Eval.{path_of}
use Rattle.serial_meaning.specs.Laws.{IsOriginOf}
use Rattle.serial_meaning.specs.Plan.{PlanView}
use Rattle.serial_meaning.specs.declared.origin.Origin.{Origin}
use Rattle.strand_meaning.specs.Task as meaning
use Rattle.strand_meaning.specs.Task.{Task, own_instance, passing, stage_after, child_in}
use Rattle.strand_meaning.specs.Sound.{IsTask}
use Rattle.strand_moves.specs.Machines.{machine_of}
use Rattle.strand_moves.specs.Moves.{ShowsTrail, effects_of}
use Rattle.strand_moves.specs.declared.instance.Instance.{Instance}
use Rattle.strand_moves.specs.declared.effects.Effects.{Effects}
use Rattle.strand_machine.specs.Tasks.{RunsAt, AwaitsLast, task_with}
use Rattle.strand_machine.specs.declared.task_state.TaskState.{TaskState}

-- the task after a move that showed this and left the instance so
abbrev pub task_after_effects : {K : Type 0} → TaskState K → Instance → Effects → Task
task_after_effects b i s =
    let m = machine_of b.links.plan i in
    passing (task_with b (meaning.Runs (meaning.Running m))) (effects_of s) (meaning.Runs (stage_after (effects_of s) m))

abbrev pub IsKnownChild : PlanView → Option Origin → Type 0
IsKnownChild plan None = Unit {0}
IsKnownChild plan (Some o) = IsOriginOf plan o

-- That task is sound, and its child, if any, an origin of the plan with its trail.
pub record HasSoundEffects {K : Type 0} (b : TaskState K) (i : Instance) (s : Effects) : Type 0 where
  pub task : IsTask (task_after_effects b i s)
  pub child : IsKnownChild b.links.plan (child_in (effects_of s))
  pub links : AwaitsLast b.links b.trace.unmerged
  pub runs : RunsAt b.links.plan (path_of (own_instance b.links.origin)) i
  pub trail : ShowsTrail b.links.plan s
