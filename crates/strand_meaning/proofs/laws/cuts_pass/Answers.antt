use Rattle.strand_meaning.proofs.TakenAnswers.Cutting.{cuts_pass}
use Rattle.strand_meaning.proofs.laws.cuts_pass.Goals as goal

pub returns : goal.returns
returns c = cuts_pass
