-- Tasks that stop, begin children and go on.
use Rattle.std.specs.Prelude.{◌≡◌, true, false, List, [], ◌∷◌, ◌++◌, None}
use Rattle.serial_meaning.specs.declared.keep.All.{All}
use Rattle.serial_meaning.specs.declared.origin.Origin.{Origin}
use Rattle.strand_meaning.specs.Sound.{IsTask}
use Rattle.strand_machine.specs.AwaitedChildren as children
use Rattle.strand_machine.specs.Links.{tag}
use Rattle.strand_machine.specs.Tasks.{TaskView}
use Rattle.strand_machine.specs.declared.stop.Stop.{Stop}
use Rattle.strand_machine.specs.declared.stop.Stop.TheVariants.{Spawn, Wait, Done}

-- a sound task that stands in no wait and took no cut
pub record IsIdle (t : TaskView) : Type 0 where
  pub task : IsTask t.task
  pub idle : t.task.waiting ≡ false
  pub goes_on : t.cut ≡ None

-- the children that a task began and whose answers it hasn't taken, in order
abbrev pub awaited : TaskView → List Origin
awaited t = children.awaited t.task.trace.unmerged

-- All tasks at a stop are of one plan. A child and the rest are idle, and the rest awaits the child too. At a wait the rest stands in it,
-- and awaits what it awaited before. An answer is of the task's origin, and a give is its answer's.
abbrev pub StopsAt : TaskView → Stop All → Type 0
StopsAt t (Spawn child rest) =
    IsIdle child × (child.task.plan ≡ t.task.plan) × IsIdle rest × (rest.task.plan ≡ t.task.plan) × (awaited rest ≡ awaited t ++ child.task.origin ∷ [])
StopsAt t (Wait rest) = (rest.task.waiting ≡ true) × (rest.task.plan ≡ t.task.plan) × (awaited rest ≡ awaited t)
StopsAt t (Done answer give) = (answer.plan ≡ t.task.plan) × (answer.origin ≡ t.task.origin) × (tag answer.plan answer.origin ≡ give.tag)
