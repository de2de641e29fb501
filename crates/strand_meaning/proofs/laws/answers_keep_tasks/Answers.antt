use Rattle.strand_meaning.proofs.TakenAnswers.AnswersKeepTasks.{answers_keep_tasks}
use Rattle.strand_meaning.proofs.laws.answers_keep_tasks.Goals as goal

pub returns : goal.returns
returns c = answers_keep_tasks
