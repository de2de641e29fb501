use Rattle.serial_meaning.proofs.Equations.ScriptRuns.{target_must_have_room}
use Rattle.serial_meaning.proofs.examples.target_must_have_room.Goals as goal

pub returns : goal.returns
returns c = target_must_have_room
