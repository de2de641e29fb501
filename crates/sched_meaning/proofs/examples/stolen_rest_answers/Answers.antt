use Rattle.sched_meaning.proofs.Computed.Small.{stolen_rest_answers}
use Rattle.sched_meaning.proofs.examples.stolen_rest_answers.Goals as goal

pub returns : goal.returns
returns c = stolen_rest_answers
