use Rattle.std.proofs.Common.{sym}
use Rattle.strand_machine.specs.Merge.{result_of_outcome}
use Rattle.strand_machine.proofs.TakenAnswers.Cutting.{half-values, half-remaining}
use Rattle.strand_machine.proofs.TakenAnswers.Taking.{ok-of, on-ok, other-values}
use Rattle.strand_machine.proofs.merge.merge_value.Goals as goal

pub returns-in-Half-clause-values : goal.returns-in-Half-clause-values
returns-in-Half-clause-values c = on-ok c.add_half.result _ _ (half-values c.args.destination (result_of_outcome c.args.outcome) _ _ c.in-Half.is) c.add_half.ensures

pub returns-in-Half-clause-remaining : goal.returns-in-Half-clause-remaining
returns-in-Half-clause-remaining c = ok-of c.add_half.result _ (half-remaining c.args.destination (result_of_outcome c.args.outcome) c.args.remaining.now c.in-Half.is)

pub returns-clause-values : goal.returns-clause-values
returns-clause-values c = ok-of c.merge_remaining.result _ (sym (other-values c.args.destination c.in_default.not-Half (result_of_outcome c.args.outcome) c.args.values.now))
