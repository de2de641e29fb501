use Rattle.serial_meaning.proofs.RisingPedigrees.Draws.{draws_are_dotmix}
use Rattle.serial_meaning.proofs.laws.draws_are_dotmix.Goals as goal

pub returns : goal.returns
returns c = draws_are_dotmix
