use Rattle.sched_meaning.proofs.WorkGoesOn.Choosing.{choices_advance, advances-choose}
use Rattle.sched_meaning.proofs.laws.choices_make_progress.Goals as goal

pub returns : goal.returns
returns c = λ core e. (choices_advance core e, advances-choose core e)
