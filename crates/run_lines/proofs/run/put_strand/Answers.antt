use Rattle.std.proofs.Common.{◌≡◌, ◌++◌, refl}
use Rattle.std.specs.Prelude.{flat_map}
use Rattle.serial_meaning.specs.Render.{last_line, strand_line, strand_text}
use Rattle.run_lines.proofs.PutLemmas.{err_after, err_first, ok_after, on_err}
use Rattle.run_lines.proofs.run.put_strand.Goals as goal

pub returns-in_err-put_events-clause-front : goal.returns-in_err-put_events-clause-front
returns-in_err-put_events-clause-front g c =
    let s = c.args.strand.now in
    let split : strand_text s ≡ flat_map strand_line s.events ++ last_line s.fault = refl in
    on_err _ c.from_residual.result (err_first _ _ _ _ _ _ split c.in_err-put_events.ensures.front)

pub returns-clause-all : goal.returns-clause-all
returns-clause-all g c = ok_after _ _ _ _ _ _ _ _ refl _ c.put_last.result c.in_ok-put_events.ensures.all c.put_last.ensures.all

pub returns-clause-front : goal.returns-clause-front
returns-clause-front g c = err_after _ _ _ _ _ _ _ _ refl c.put_last.result c.in_ok-put_events.ensures.all c.put_last.ensures.front
