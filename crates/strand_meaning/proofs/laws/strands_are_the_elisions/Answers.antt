use Rattle.strand_meaning.proofs.ElisionsStrands.ElisionStrands.{strands_are_the_elisions}
use Rattle.strand_meaning.proofs.laws.strands_are_the_elisions.Goals as goal

pub returns : goal.returns
returns c = strands_are_the_elisions
