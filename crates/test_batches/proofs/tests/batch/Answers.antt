use Rattle.seed_batch.proofs.Parts.{all_are_whole}
use Rattle.test_batches.proofs.tests.batch.Goals as goal

pub put_batch-requires-clause-whole : goal.put_batch-requires-clause-whole
put_batch-requires-clause-whole g c = all_are_whole _ _ c.in_ok-answers.ensures

pub put_batch-requires-clause-lines : goal.put_batch-requires-clause-lines
put_batch-requires-clause-lines g c = λ k d within e no. absurd (cc)
