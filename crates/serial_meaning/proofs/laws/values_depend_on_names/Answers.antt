use Rattle.serial_meaning.proofs.RisingPedigrees.Named.{values_depend_on_names}
use Rattle.serial_meaning.proofs.laws.values_depend_on_names.Goals as goal

pub returns : goal.returns
returns c = values_depend_on_names
