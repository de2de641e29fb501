use Rattle.strand_meaning.proofs.ClearPlans.ClearOfValid.{clear_of_valid}
use Rattle.strand_meaning.proofs.laws.valid_plans_are_clear.Goals as goal

pub returns : goal.returns
returns c = clear_of_valid
