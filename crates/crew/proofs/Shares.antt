-- A hand may go to another thread, whatever its tasks keep.
use denote.Param.Send.{IsSend}
use denote.Param.SendFields.{variants_send}
use mir.Syntax.{given}
use Rattle.serial_meaning.specs.contracts.keep.All as all
use Rattle.serial_meaning.specs.contracts.keep.AllKeep.TheImpl.{ghosts as all_ghosts}
use Rattle.serial_meaning.specs.contracts.keep.Lined as lined
use Rattle.serial_meaning.specs.contracts.keep.LinedKeep.TheImpl.{ghosts as lined_ghosts}
use Rattle.serial_meaning.specs.contracts.keep.Prints as prints
use Rattle.serial_meaning.specs.contracts.keep.PrintsKeep.TheImpl.{ghosts as prints_ghosts}
use Rattle.parallel_runner.proofs.CodeLemmas.Shares.{hand_sends}
use Rattle.crew.specs.contracts.any_hand.AnyHand as any_hand

pub any_hand_sends : IsSend any_hand.the_row
any_hand_sends = variants_send any_hand.enum ((hand_sends all.the_row all_ghosts (given 0), tt), ((hand_sends lined.the_row lined_ghosts (given 0), tt), ((hand_sends prints.the_row prints_ghosts (given 0), tt), tt)))
