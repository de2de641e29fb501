-- A step of a task, as contracts see it.
use Rattle.strand_machine.specs.Tasks.{TaskView}
use Rattle.strand_machine.specs.declared.stop.Stop.{Stop}

-- A move, with the task after it, or a stop.
pub data MoveOrStop (K : Type 0) : Type 0 where
  Passes : TaskView → MoveOrStop K
  Stops : Stop K → MoveOrStop K
