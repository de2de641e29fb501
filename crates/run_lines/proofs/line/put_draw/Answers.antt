use Rattle.run_lines.proofs.LineLemmas.{drawn_line}
use Rattle.run_lines.proofs.PutLemmas.{err_after, err_first, ok_after, on_err}
use Rattle.run_lines.proofs.line.put_draw.Goals as goal

pub returns-in_err-put_front-clause-front : goal.returns-in_err-put_front-clause-front
returns-in_err-put_front-clause-front g c =
    let split = drawn_line c.at.inside.path c.args.at.now c.at.inside.rank c.args.number c.at.view_is in
    on_err _ c.from_residual.result (err_first _ _ _ _ _ _ split c.in_err-put_front.ensures.front)

pub returns-clause-all : goal.returns-clause-all
returns-clause-all g c =
    let split = drawn_line c.at.inside.path c.args.at.now c.at.inside.rank c.args.number c.at.view_is in
    ok_after _ _ _ _ _ _ _ _ split _ c.put_equation.result c.in_ok-put_front.ensures.all c.put_equation.ensures.all

pub returns-clause-front : goal.returns-clause-front
returns-clause-front g c =
    let split = drawn_line c.at.inside.path c.args.at.now c.at.inside.rank c.args.number c.at.view_is in
    err_after _ _ _ _ _ _ _ _ split c.put_equation.result c.in_ok-put_front.ensures.all c.put_equation.ensures.front
