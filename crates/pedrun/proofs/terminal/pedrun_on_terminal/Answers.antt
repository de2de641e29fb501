use Rattle.pedrun.proofs.NoteLemmas.{some_more}
use Rattle.pedrun.specs.declared.recorded.RecordedSink.{RecordedSink}
use Rattle.pedrun.proofs.terminal.pedrun_on_terminal.Goals as goal

pub returns : goal.returns
returns g c =
    let more = some_more (λ (s : RecordedSink g.row.R.Denot g.row.E.Denot). g.E.Sink.written s.inner) (λ (s : RecordedSink g.row.R.Denot g.row.E.Denot). g.E.Sink.faults s.inner) in
    let called = c.pedrun-status.new.err in
    let first = c.show_some.new.err in
    let second = c.show_some-2.new.err in
    let third = c.show_some-3.new.err in
    let two = more called first second c.show_some.ensures c.show_some-2.ensures in
    let fourth = c.show_some-4.new.err in
    let three = more called second third two c.show_some-3.ensures in
    let four = more called third fourth three c.show_some-4.ensures in
    let fifth = c.show_some-5.new.err in
    let five = more called fourth fifth four c.show_some-5.ensures in
    record { told = called; call = c.pedrun-status.ensures; notes = more called fifth c.show.new.err five c.show.ensures }
