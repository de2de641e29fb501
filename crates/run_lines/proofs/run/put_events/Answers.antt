use Rattle.std.proofs.Common.{◌++◌, List, ℕ, subst}
use Rattle.std.specs.Prelude.{OnErr, OnOk}
use Rattle.ped_io.specs.Streams.{AppendsFront}
use Rattle.run_lines.specs.Puts.{Puts}
use Rattle.run_lines.specs.Lines.{line_in}
use Rattle.run_lines.proofs.EventLemmas.{kept_parts, none_kept}
use Rattle.run_lines.proofs.PutLemmas.{puts_none}
use Rattle.run_lines.proofs.run.put_events.Goals as goal

pub returns-in-None-clause-all : goal.returns-in-None-clause-all
returns-in-None-clause-all g c = puts_none _ _ _ (none_kept (line_in c.args.listing) g.K.Keep.kept c.args.events.now c.requires c.in-None.ensures.none)

pub returns-in-Some-clause-all : goal.returns-in-Some-clause-all
returns-in-Some-clause-all g c =
    let P : List ℕ → Type 0 = λ l. OnOk c.put_parts.result (Puts (g.S.Sink.written c.args.out.now) (g.S.Sink.written c.put_parts.new.out) c.args.page.now c.put_parts.new.page l) in
    subst P (kept_parts (line_in c.args.listing) g.K.Keep.kept _ c.args.events.now c.requires c.in-Some.ensures.some) c.put_parts.ensures.all

pub returns-in-Some-clause-front : goal.returns-in-Some-clause-front
returns-in-Some-clause-front g c =
    let P : List ℕ → Type 0 = λ l. OnErr c.put_parts.result (AppendsFront (g.S.Sink.written c.args.out.now) (g.S.Sink.written c.put_parts.new.out) (c.args.page.now ++ l)) in
    subst P (kept_parts (line_in c.args.listing) g.K.Keep.kept _ c.args.events.now c.requires c.in-Some.ensures.some) c.put_parts.ensures.front
