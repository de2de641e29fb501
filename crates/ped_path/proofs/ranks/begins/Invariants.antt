use Rattle.std.proofs.Common.{◌≡◌, take}
use Rattle.ped_path.proofs.ranks.begins.Given as goal

abbrev pub invariant-loop-i : goal.invariant-loop-i
invariant-loop-i g l = take l.i (g.A.Ranks.ranks l.list) ≡ take l.i (g.B.Ranks.ranks l.front)
