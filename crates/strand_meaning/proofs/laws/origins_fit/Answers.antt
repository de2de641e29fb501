use Rattle.strand_meaning.proofs.SoundSteps.OriginsFitDepth.{origins_fit}
use Rattle.strand_meaning.proofs.laws.origins_fit.Goals as goal

pub returns : goal.returns
returns c = origins_fit
