use Rattle.strand_meaning.proofs.NodesObserved.NodeAnswers.{answers_show_nothing}
use Rattle.strand_meaning.proofs.laws.answers_show_nothing.Goals as goal

pub returns : goal.returns
returns c = answers_show_nothing
