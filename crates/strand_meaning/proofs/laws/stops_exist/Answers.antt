use Rattle.strand_meaning.proofs.NextStops.TasksReachStops.{stops_exist}
use Rattle.strand_meaning.proofs.laws.stops_exist.Goals as goal

pub returns : goal.returns
returns c = stops_exist
