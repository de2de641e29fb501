use Rattle.strand_meaning.proofs.TakenAnswers.Cutting.{answers_end}
use Rattle.strand_meaning.proofs.laws.answers_end.Goals as goal

pub returns : goal.returns
returns c = answers_end
