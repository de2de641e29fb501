use Rattle.std.proofs.Common.{ap, ◌∙◌, ◌^◌, arith}
use Rattle.dotmix.specs.Draws.{swap_halves}
use Rattle.dotmix.proofs.MixLemmas.{quadratic, rotated}
use Rattle.dotmix.proofs.mixing.mixed_once.Goals as goal

pub returns : goal.returns
returns c = c.rotate_left.ensures ∙ rotated _ (omega arith) ∙ ap swap_halves (quadratic c.args.z (2 ^ 64))
