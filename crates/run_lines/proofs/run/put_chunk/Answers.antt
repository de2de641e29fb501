use Rattle.run_lines.proofs.PutLemmas.{puts_none}
use Rattle.run_lines.proofs.run.put_chunk.Goals as goal

pub returns-then-is_silent-clause-all : goal.returns-then-is_silent-clause-all
returns-then-is_silent-clause-all g c = puts_none _ _ _ (c.is_silent.ensures c.if-is_silent.true)
