use Rattle.serial_meaning.proofs.OriginFaults.Origins.{origins_end_within_faults}
use Rattle.serial_meaning.proofs.laws.origins_end_within_faults.Goals as goal

pub returns : goal.returns
returns c = origins_end_within_faults
