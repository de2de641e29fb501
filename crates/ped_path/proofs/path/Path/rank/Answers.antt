use Rattle.std.proofs.Common.{ap, arith, length}
use Rattle.std.specs.Prelude.{slice_index}
use Rattle.ped_path.proofs.BlockLemmas.{get_or-joined_block, get_or-joined_last}
use Rattle.ped_path.proofs.path.Path.rank.Goals as goal

pub returns-then-block-blocks : goal.returns-then-block-blocks
returns-then-block-blocks c =
    let blocks = ap length c.as_slice-blocks.ensures in
    let found = get_or-joined_block c.self.inside.blocks c.self.inside.last c.self.inside.count c.self.invariant c.args.i c.index-blocks-block.result (omega arith) in
    let same = ap (λ ranks. slice_index ranks c.args.i) c.self.view_is in cc

pub returns-else-block-blocks : goal.returns-else-block-blocks
returns-else-block-blocks c =
    let blocks = ap length c.as_slice-blocks.ensures in
    let long = ap length c.self.view_is in
    let found = get_or-joined_last c.self.inside.blocks c.self.inside.last c.self.inside.count c.self.invariant c.args.i (omega arith) (omega arith) in
    let same = ap (λ ranks. slice_index ranks c.args.i) c.self.view_is in cc
