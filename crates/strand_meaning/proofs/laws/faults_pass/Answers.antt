use Rattle.strand_meaning.proofs.TakenAnswers.Cutting.{faults_pass}
use Rattle.strand_meaning.proofs.laws.faults_pass.Goals as goal

pub returns : goal.returns
returns c = faults_pass
