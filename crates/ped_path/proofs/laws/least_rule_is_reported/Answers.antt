use Rattle.ped_path.proofs.Refusals.{least_rule}
use Rattle.ped_path.proofs.laws.least_rule_is_reported.Goals as goal

pub returns : goal.returns
returns c = least_rule
