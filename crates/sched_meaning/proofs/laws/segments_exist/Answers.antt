use Rattle.sched_meaning.proofs.Segments.Counted.{segments_exist}
use Rattle.sched_meaning.proofs.laws.segments_exist.Goals as goal

pub returns : goal.returns
returns c = segments_exist
