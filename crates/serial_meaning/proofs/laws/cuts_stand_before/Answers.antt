use Rattle.serial_meaning.proofs.CutsBefore.Whole.{cuts_stand_before}
use Rattle.serial_meaning.proofs.laws.cuts_stand_before.Goals as goal

pub returns : goal.returns
returns c = cuts_stand_before
