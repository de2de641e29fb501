use Rattle.std.proofs.Common.{arith}
use Rattle.dotmix.proofs.GammaLemmas.{state_after_word, coefficients_after_word, coefficients-IsGamma}
use Rattle.dotmix.proofs.gamma.Gamma.of_seed.Goals as goal

pub loop-i-preserved : goal.loop-i-preserved
loop-i-preserved c = record {
  state = state_after_word c.args.seed c.loop-i._i _ _ _ c.next_word.ensures c.loop-i.invariant.state;
  so_far = coefficients_after_word c.args.seed c.loop-i._i _ _ _ _ _ c.next_word.ensures c.loop-i.invariant.state c.loop-i.invariant.so_far c.in_ok-push.ensures.items;
}

pub gamma_of-requires : goal.gamma_of-requires
gamma_of-requires c = rw c.loop-i.invariant.so_far (coefficients-IsGamma c.args.seed c.loop-i._i (omega arith))
