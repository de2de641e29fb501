use Rattle.serial_meaning.proofs.KeptLines.{kept_lines}
use Rattle.serial_meaning.proofs.render.write_kept.Goals as goal

pub returns : goal.returns
returns g c = rw (← kept_lines g.K.Keep.kept c.args.show c.args.events.now c.requires) c.write_events.ensures
