use Rattle.std.proofs.Common.{◌≡◌}
use Rattle.dotmix.specs.Words.{coefficients}
use Rattle.dotmix.proofs.GammaLemmas.{state_after}
use Rattle.dotmix.proofs.gamma.Gamma.of_seed.Given as goal

abbrev pub invariant-loop-i : goal.invariant-loop-i
invariant-loop-i l = record {
  state : l.words ≡ state_after l.seed l._i;
  so_far : l.coefficients.items ≡ coefficients l.seed l._i;
}
