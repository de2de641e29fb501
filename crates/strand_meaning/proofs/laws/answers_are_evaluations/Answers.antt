use Rattle.strand_meaning.proofs.TakenAnswers.AnswerRuns.{answers_are_evaluations}
use Rattle.strand_meaning.proofs.laws.answers_are_evaluations.Goals as goal

pub returns : goal.returns
returns c = answers_are_evaluations
