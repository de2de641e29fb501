use Rattle.serial_meaning.proofs.CutsBefore.Whole.{main_is_not_cut}
use Rattle.serial_meaning.proofs.laws.main_is_not_cut.Goals as goal

pub returns : goal.returns
returns c = main_is_not_cut
