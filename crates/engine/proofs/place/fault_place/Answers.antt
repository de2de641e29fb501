use Rattle.engine.proofs.Places.{by_words}
use Rattle.engine.proofs.place.fault_place.Goals as goal

pub returns-in-Ok-Replay : goal.returns-in-Ok-Replay
returns-in-Ok-Replay c = by_words _ c.in-Ok-Replay.settings c.in-Ok-Replay.at c.args.bytes.now (rw c.in-Ok-Replay.field-0-is at c.in-Ok-Replay.ensures.value) c.place_under.result c.place_under.ensures
