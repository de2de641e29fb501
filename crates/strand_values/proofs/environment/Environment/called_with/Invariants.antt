use Rattle.strand_values.proofs.BoundLemmas.{IsCalled}
use Rattle.strand_values.proofs.environment.Environment.called_with.Given as goal

abbrev pub invariant-loop-i : goal.invariant-loop-i
invariant-loop-i l = IsCalled l.names l.self.variables l.params l.args l.i l.env
