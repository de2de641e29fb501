use Rattle.strand_meaning.proofs.SoundSteps.StepsKeepTasks.{steps_are_sound}
use Rattle.strand_meaning.proofs.laws.steps_are_sound.Goals as goal

pub returns : goal.returns
returns c = steps_are_sound
