use Rattle.strand_meaning.proofs.ElisionsStrands.StrandDraws.{strands_draw_dotmix}
use Rattle.strand_meaning.proofs.laws.strands_draw_dotmix.Goals as goal

pub returns : goal.returns
returns c = strands_draw_dotmix
