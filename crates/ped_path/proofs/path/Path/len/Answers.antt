use Rattle.std.proofs.Common.{ap, arith, length}
use Rattle.ped_path.proofs.BlockLemmas.{length-joined}
use Rattle.ped_path.proofs.path.Path.len.Goals as goal

pub returns-clause-length : goal.returns-clause-length
returns-clause-length c =
    let long = length-joined c.self.inside.blocks c.self.inside.last c.self.inside.count c.self.invariant in
    let blocks = ap length c.as_slice.ensures in
    let same = ap length c.self.view_is in omega arith

pub returns-clause-small : goal.returns-clause-small
returns-clause-small c =
    let long = length-joined c.self.inside.blocks c.self.inside.last c.self.inside.count c.self.invariant in
    let same = ap length c.self.view_is in omega arith
