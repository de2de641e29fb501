use Rattle.std.proofs.Common.{◌∙◌, map, ap}
use Rattle.dotmix.specs.Draws.{round}
use Rattle.bulk_draw.proofs.LaneLemmas.{rounds_none, rounds_more}
use Rattle.bulk_draw.proofs.lanes.mix_each.Goals as goal

pub loop-i-init : goal.loop-i-init
loop-i-init c = rounds_none c.args.z.now

pub loop-i-preserved : goal.loop-i-preserved
loop-i-preserved c = c.mix_once.ensures ∙ ap (map round) c.loop-i.invariant ∙ rounds_more c.loop-i._i c.args.z.now
