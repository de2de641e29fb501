use Rattle.std.proofs.Common.{◌≡◌, take}
use Rattle.ped_path.proofs.block.shared_blocks.Given as goal

abbrev pub invariant-loop-shared : goal.invariant-loop-shared
invariant-loop-shared l = l.list.items ≡ take l.shared-index l.blocks
