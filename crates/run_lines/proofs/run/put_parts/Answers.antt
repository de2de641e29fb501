use Rattle.run_lines.specs.Lines.{line_in}
use Rattle.run_lines.proofs.EventLemmas.{parts_lines}
use Rattle.run_lines.proofs.PutLemmas.{err_after, err_first, ok_after, on_err}
use Rattle.run_lines.proofs.run.put_parts.Goals as goal

pub returns-in_err-put_chunks-clause-front : goal.returns-in_err-put_chunks-clause-front
returns-in_err-put_chunks-clause-front g c =
    on_err _ c.from_residual.result (err_first _ _ _ _ _ _ (parts_lines (line_in c.args.listing) c.args.full.now c.args.last.now) c.in_err-put_chunks.ensures.front)

pub returns-clause-all : goal.returns-clause-all
returns-clause-all g c =
    ok_after _ _ _ _ _ _ _ _ (parts_lines (line_in c.args.listing) c.args.full.now c.args.last.now) _ c.put_list.result c.in_ok-put_chunks.ensures.all c.put_list.ensures.all

pub returns-clause-front : goal.returns-clause-front
returns-clause-front g c =
    err_after _ _ _ _ _ _ _ _ (parts_lines (line_in c.args.listing) c.args.full.now c.args.last.now) c.put_list.result c.in_ok-put_chunks.ensures.all c.put_list.ensures.front
