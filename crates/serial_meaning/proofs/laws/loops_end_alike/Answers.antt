use Rattle.serial_meaning.proofs.LeastFault.LoopEnds.{loops_end_alike}
use Rattle.serial_meaning.proofs.laws.loops_end_alike.Goals as goal

pub returns : goal.returns
returns c = loops_end_alike
