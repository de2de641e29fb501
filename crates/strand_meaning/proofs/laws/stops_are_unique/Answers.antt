use Rattle.strand_meaning.proofs.NextStops.OneSoundStop.{stops_are_unique}
use Rattle.strand_meaning.proofs.laws.stops_are_unique.Goals as goal

pub returns : goal.returns
returns c = stops_are_unique
