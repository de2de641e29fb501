use Rattle.ped_path.proofs.Refusals.{refusals_unique}
use Rattle.ped_path.proofs.laws.refusals_are_unique.Goals as goal

pub returns : goal.returns
returns c = refusals_unique
