use Rattle.run_lines.proofs.LineLemmas.{named_line}
use Rattle.run_lines.proofs.PutLemmas.{err_after, err_first, ok_after, on_err}
use Rattle.run_lines.proofs.line.put_named.Goals as goal

pub returns-in_err-put_front-clause-front : goal.returns-in_err-put_front-clause-front
returns-in_err-put_front-clause-front g c =
    let split = named_line c.args.word.now c.at.inside.path c.args.at.now c.at.inside.rank c.at.view_is in
    on_err _ c.from_residual.result (err_first _ _ _ _ _ _ split c.in_err-put_front.ensures.front)

pub returns-clause-all : goal.returns-clause-all
returns-clause-all g c =
    let split = named_line c.args.word.now c.at.inside.path c.args.at.now c.at.inside.rank c.at.view_is in
    ok_after _ _ _ _ _ _ _ _ split _ c.put_last.result c.in_ok-put_front.ensures.all c.put_last.ensures.all

pub returns-clause-front : goal.returns-clause-front
returns-clause-front g c =
    let split = named_line c.args.word.now c.at.inside.path c.args.at.now c.at.inside.rank c.at.view_is in
    err_after _ _ _ _ _ _ _ _ split c.put_last.result c.in_ok-put_front.ensures.all c.put_last.ensures.front
