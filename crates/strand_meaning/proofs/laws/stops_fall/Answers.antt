use Rattle.strand_meaning.proofs.NextStops.StopsLeaveFewer.{stops_fall}
use Rattle.strand_meaning.proofs.laws.stops_fall.Goals as goal

pub returns : goal.returns
returns c = stops_fall
