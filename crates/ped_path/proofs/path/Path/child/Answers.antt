use Rattle.std.proofs.Common.{◌≡◌, ◌∷◌, ◌++◌, [], ap, ◌∙◌, arith, refl, length}
use Rattle.std.specs.List.{slice_set}
use Rattle.ped_path.proofs.BlockLemmas.{IsBlocked-more, IsBlocked-filled, IsRankBlock-filled, concat-filled}
use Rattle.ped_path.proofs.path.Path.child.Goals as goal

pub invariant_of-result : goal.invariant_of-result
invariant_of-result c =
    let same = c.in_ok-share.ensures in
    rw same (IsBlocked-more _ c.self.inside.last c.self.inside.count c.self.invariant c.args.rank c.requires (omega arith))

pub new-requires : goal.new-requires
new-requires c = IsRankBlock-filled _ c.self.inside.last c.self.inside.count c.self.invariant c.args.rank c.requires (omega arith)

pub invariant_of-result-2 : goal.invariant_of-result-2
invariant_of-result-2 c =
    let few = c.self.invariant.few in
    let blocks = ap length c.as_slice.ensures in
    let block = c.in_ok-block.ensures in
    let list = c.in_ok-with.ensures in
    let items : c.in_ok-with.field-0 ≡ c.self.inside.blocks ++ slice_set c.self.inside.last c.self.inside.count c.args.rank ∷ [] = cc in
    rw items (IsBlocked-filled c.self.inside.blocks c.self.inside.last c.self.inside.count c.self.invariant c.args.rank c.requires (omega arith) (omega arith) _ refl)

pub returns : goal.returns
returns c =
    let block = c.in_ok-block.ensures in
    let list = c.in_ok-with.ensures in
    let items : c.in_ok-with.field-0 ≡ c.self.inside.blocks ++ slice_set c.self.inside.last c.self.inside.count c.args.rank ∷ [] = cc in
    rw items (concat-filled c.self.inside.blocks c.self.inside.last c.self.inside.count c.self.invariant c.args.rank c.requires (omega arith) ∙ ap (λ ranks. ranks ++ c.args.rank ∷ []) c.self.view_is)
