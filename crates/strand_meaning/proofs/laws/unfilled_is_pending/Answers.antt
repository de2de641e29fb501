use Rattle.strand_meaning.proofs.laws.unfilled_is_pending.Goals as goal

pub returns : goal.returns
returns c t is = is.pending
