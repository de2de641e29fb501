use Rattle.strand_values.proofs.BoundLemmas.{IsBound}
use Rattle.strand_values.proofs.environment.Environment.bound.Given as goal

abbrev pub invariant-loop-i : goal.invariant-loop-i
invariant-loop-i l = IsBound l.names l.params l.args l.i l.env
