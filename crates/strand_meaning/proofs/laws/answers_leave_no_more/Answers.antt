use Rattle.strand_meaning.proofs.NextStops.StopsLeaveFewer.{answers_leave_no_more}
use Rattle.strand_meaning.proofs.laws.answers_leave_no_more.Goals as goal

pub returns : goal.returns
returns c = answers_leave_no_more
