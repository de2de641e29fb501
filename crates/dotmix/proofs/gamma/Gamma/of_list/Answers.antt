use Rattle.std.proofs.Common.{◌≡◌, arith}
use Rattle.std.proofs.lemmas.Grind.{common_steps}
use Rattle.dotmix.specs.GammaState.{padded}
use Rattle.dotmix.proofs.GammaLemmas.{padded-IsGamma}
use Rattle.dotmix.proofs.gamma.Gamma.of_list.Goals as goal

pub gamma_of-requires : goal.gamma_of-requires
gamma_of-requires c =
    let empty = c.in_ok-coefficients.ensures.items in
    let listed = c.in_ok-extend_from_slice.ensures in
    let zeros = c.in_ok-resize.ensures.items in
    let items : c.resize.new.self.items ≡ padded c.args.list.now c.args.depth = grind (arith, common_steps) in
    let none = c.in_default.is in
    let found = c.first_too_big.ensures in
    rw items (padded-IsGamma c.args.list.now c.args.depth (omega arith) (omega arith) (cc))
