use Rattle.std.proofs.Common.{◌≡◌, ◌++◌, take}
use Rattle.ped_path.specs.Text.{stopped}
use Rattle.ped_path.proofs.text.write_pedigree.Given as goal

abbrev pub invariant-loop-i : goal.invariant-loop-i
invariant-loop-i l = l.out.items ≡ l.fn.out.items ++ stopped (take l.i l.j-inside.path)
