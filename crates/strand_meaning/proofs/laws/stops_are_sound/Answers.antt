use Rattle.strand_meaning.proofs.NextStops.OneSoundStop.{stops_are_sound}
use Rattle.strand_meaning.proofs.laws.stops_are_sound.Goals as goal

pub returns : goal.returns
returns c = stops_are_sound
