use Rattle.std.proofs.Common.{arith}
use Rattle.dotmix.proofs.ProductLemmas.{dot-take_all, dot-take_more}
use Rattle.dotmix.proofs.product.path_dot.Goals as goal

pub loop-i-preserved : goal.loop-i-preserved
loop-i-preserved c = record {
  so_far =
      let found = c.in-Some.ensures.value in
      let e = dot-take_more c.args.gamma.now c.args.path.now c.in-Some.rank c.loop-i.i (cc) (omega arith) in cc;
  small = c.add_term-sum.ensures.small;
}

pub returns-in_default-clause-value : goal.returns-in_default-clause-value
returns-in_default-clause-value c =
    let nothing = c.in_default.ensures.value in
    let e = dot-take_all c.args.gamma.now c.args.path.now c.loop-i.i (cc) in cc
