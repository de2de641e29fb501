use Rattle.strand_meaning.proofs.NextStops.OneSoundStop.{stops_keep_origins}
use Rattle.strand_meaning.proofs.laws.stops_keep_origins.Goals as goal

pub returns : goal.returns
returns c = stops_keep_origins
