use Rattle.engine.proofs.LawLemmas.{simulations_are_one}
use Rattle.engine.proofs.laws.simulations_are_one.Goals as goal

pub returns : goal.returns
returns c = simulations_are_one
