use Rattle.run_lines.proofs.PutLemmas.{err_then_flushed}
use Rattle.engine.proofs.output.Output.write.Goals as goal

pub returns-clause-front : goal.returns-clause-front
returns-clause-front g c = err_then_flushed _ _ _ _ _ _ c.requires c.in_ok-put.ensures.all c.flush.result c.flush.ensures.front
