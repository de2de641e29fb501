use Rattle.strand_meaning.proofs.SoundSteps.StepsKeepTasks.{tasks_begin}
use Rattle.strand_meaning.proofs.laws.tasks_begin.Goals as goal

pub returns : goal.returns
returns c = tasks_begin
