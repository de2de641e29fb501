use Rattle.std.proofs.Common.{◌≡◌, map, string_bytes, subst, sym}
use Rattle.engine.specs.Clauses.{change}
use Rattle.pedrun.specs.Calls.{AnswersWithNotes}
use Rattle.pedrun.specs.declared.recorded.RecordedSink.{RecordedSink}
use Rattle.pedrun.specs.declared.recorded.RecordedSource.{RecordedSource}
use Rattle.pedrun.proofs.ticker.answer_with_progress.Goals as goal

-- What the closure returns is the status and the streams of its call.
pub returns : goal.returns
returns g c =
    let said = c.with_ticker.ensures.said-raw.1.1.1.1.1 in
    subst
    (λ r. AnswersWithNotes (map string_bytes c.args.words.now)
    (change (λ (s : RecordedSource g.row.R.Denot g.row.S.Denot). g.S.Source.left s.inner) (λ s. g.S.Source.faults s.inner) c.args.streams.script r.1.script)
    (change (λ (s : RecordedSink g.row.R.Denot g.row.K.Denot). g.K.Sink.written s.inner) (λ s. g.K.Sink.faults s.inner) c.args.streams.out r.1.out)
    (change (λ (s : RecordedSink g.row.R.Denot g.row.E.Denot). g.E.Sink.written s.inner) (λ s. g.E.Sink.faults s.inner) c.args.streams.err r.1.err)
    r.0)
    (sym said.1.1) said.0.ensures
