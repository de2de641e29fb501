use Rattle.serial_meaning.proofs.RisingPedigrees.RisingExec.{elision_rises}
use Rattle.serial_meaning.proofs.laws.pedigrees_rise.Goals as goal

pub returns : goal.returns
returns c = elision_rises
