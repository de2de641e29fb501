use Rattle.serial_meaning.proofs.CutsBefore.Whole.{whole_answers_are_evals}
use Rattle.serial_meaning.proofs.laws.whole_answers_are_evals.Goals as goal

pub returns : goal.returns
returns c = whole_answers_are_evals
