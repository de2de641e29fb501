use Rattle.std.proofs.Common.{◌++◌, refl}
use Rattle.std.specs.Prelude.{codes, decimal}
use Rattle.serial_meaning.specs.Render.{answer_text, line}
use Rattle.run_lines.proofs.PutLemmas.{err_after, err_first, ok_after, on_err}
use Rattle.seed_batch.specs.Batch.{seed_lines}
use Rattle.seed_batch.proofs.render.put_part.Goals as goal

pub returns-in_err-put_seed-clause-front : goal.returns-in_err-put_seed-clause-front
returns-in_err-put_seed-clause-front g c =
    let text = answer_text c.args.answer.now in
    on_err _ c.from_residual.result (err_first _ _ _ (seed_lines c.args.seed text) (line (codes "seed " ++ decimal c.args.seed)) text refl c.in_err-put_seed.ensures.front)

pub returns-clause-all : goal.returns-clause-all
returns-clause-all g c =
    let text = answer_text c.args.answer.now in
    ok_after _ _ _ _ _ (seed_lines c.args.seed text) (line (codes "seed " ++ decimal c.args.seed)) text refl _ c.put_answer.result c.in_ok-put_seed.ensures.all c.put_answer.ensures.all

pub returns-clause-front : goal.returns-clause-front
returns-clause-front g c =
    let text = answer_text c.args.answer.now in
    err_after _ _ _ _ _ (seed_lines c.args.seed text) (line (codes "seed " ++ decimal c.args.seed)) text refl c.put_answer.result c.in_ok-put_seed.ensures.all c.put_answer.ensures.front
