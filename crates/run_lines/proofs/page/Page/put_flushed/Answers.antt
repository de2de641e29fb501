use Rattle.std.proofs.Common.{◌∙◌}
use Rattle.run_lines.proofs.PutLemmas.{err_flushed, ok_flushed}
use Rattle.run_lines.proofs.page.Page.put_flushed.Goals as goal

pub returns-clause-all : goal.returns-clause-all
returns-clause-all g c =
    let kept = rw c.if-take.false at c.take.ensures in
    ok_flushed _ _ _ _ _ c.in_ok-flush.ensures.all _ c.write_all.result (kept ∙ c.in_ok-flush.ensures.none) c.write_all.ensures.all

pub returns-clause-front : goal.returns-clause-front
returns-clause-front g c = err_flushed _ _ _ _ _ c.in_ok-flush.ensures.all c.write_all.result c.write_all.ensures.front
