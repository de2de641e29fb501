use Rattle.std.proofs.Common.{refl}
use Rattle.ped_path.specs.Text.{stopped}
use Rattle.run_lines.proofs.PutLemmas.{err_after, err_first, ok_after, on_err}
use Rattle.run_lines.proofs.line.put_front.Goals as goal

pub returns-in_err-put-clause-front : goal.returns-in_err-put-clause-front
returns-in_err-put-clause-front g c = on_err _ c.from_residual.result (err_first _ _ _ _ c.args.word.now (stopped c.args.path.now) refl c.in_err-put.ensures.front)

pub returns-clause-all : goal.returns-clause-all
returns-clause-all g c = ok_after _ _ _ _ _ _ c.args.word.now (stopped c.args.path.now) refl _ c.put_path.result c.in_ok-put.ensures.all c.put_path.ensures.all

pub returns-clause-front : goal.returns-clause-front
returns-clause-front g c = err_after _ _ _ _ _ _ c.args.word.now (stopped c.args.path.now) refl c.put_path.result c.in_ok-put.ensures.all c.put_path.ensures.front
