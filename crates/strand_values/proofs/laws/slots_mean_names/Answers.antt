use Rattle.strand_values.proofs.BySlots.{slots_mean_names}
use Rattle.strand_values.proofs.laws.slots_mean_names.Goals as goal

pub returns : goal.returns
returns c = slots_mean_names
