use Rattle.std.proofs.Common.{arith}
use Rattle.ped_path.proofs.OrderLemmas.{slice_cmp-drop_min}
use Rattle.ped_path.proofs.ranks.compare.Goals as goal

pub returns : goal.returns
returns g c = let e = slice_cmp-drop_min c.loop-i.i (g.A.Ranks.ranks c.args.left.now) (g.B.Ranks.ranks c.args.right.now) (omega arith) in cc
