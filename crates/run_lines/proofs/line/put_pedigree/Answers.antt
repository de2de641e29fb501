use Rattle.std.proofs.Common.{sym}
use Rattle.ped_path.proofs.TextLemmas.{ped_text-append}
use Rattle.run_lines.proofs.PutLemmas.{err_after, err_first, ok_after, on_err}
use Rattle.run_lines.proofs.line.put_pedigree.Goals as goal

pub returns-in_err-put_path-clause-front : goal.returns-in_err-put_path-clause-front
returns-in_err-put_path-clause-front g c =
    let split = sym (ped_text-append c.j.inside.path c.args.j.now c.j.inside.rank c.j.view_is) in
    on_err _ c.from_residual.result (err_first _ _ _ _ _ _ split c.in_err-put_path.ensures.front)

pub returns-clause-all : goal.returns-clause-all
returns-clause-all g c =
    let split = sym (ped_text-append c.j.inside.path c.args.j.now c.j.inside.rank c.j.view_is) in
    ok_after _ _ _ _ _ _ _ _ split _ c.put_number.result c.in_ok-put_path.ensures.all c.put_number.ensures.all

pub returns-clause-front : goal.returns-clause-front
returns-clause-front g c =
    let split = sym (ped_text-append c.j.inside.path c.args.j.now c.j.inside.rank c.j.view_is) in
    err_after _ _ _ _ _ _ _ _ split c.put_number.result c.in_ok-put_path.ensures.all c.put_number.ensures.front
