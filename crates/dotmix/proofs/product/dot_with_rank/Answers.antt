use Rattle.std.proofs.Common.{length, refl}
use Rattle.dotmix.proofs.ProductLemmas.{dot-append}
use Rattle.dotmix.proofs.product.dot_with_rank.Goals as goal

pub returns-clause-value : goal.returns-clause-value
returns-clause-value c =
    let e = dot-append c.args.gamma.now c.args.path.now c.args.rank (length c.args.path.now) refl c.requires.within in cc
