use Rattle.std.proofs.Common.{◌≤◌, arith}
use Rattle.run_lines.specs.Lines.{line_in}
use Rattle.run_lines.proofs.Loops.{front_of, goes_on, next_of}
use Rattle.run_lines.proofs.PutLemmas.{on_err}
use Rattle.run_lines.proofs.run.put_list.Goals as goal

pub returns-in_err-put_event-clause-front : goal.returns-in_err-put_event-clause-front
returns-in_err-put_event-clause-front g c =
    let split = next_of (line_in c.args.listing) c.args.events.now c.loop-event.event-index c.event-item.result c.event-item.result c.loop-event-test.true c.event-item.is in
    on_err _ c.from_residual.result (front_of _ _ _ _ _ _ _ _ _ split c.loop-event.invariant.going c.in_err-put_event.ensures.front)

pub loop-event-preserved : goal.loop-event-preserved
loop-event-preserved g c =
    let split = next_of (line_in c.args.listing) c.args.events.now c.loop-event.event-index c.event-item.result c.event-item.result c.loop-event-test.true c.event-item.is in
    let later : g.S.Sink.faults c.loop-event.out ≤ g.S.Sink.faults c.put_event.new.out = c.in_ok-put_event.ensures.cause.later in
    record {
      going = goes_on _ _ _ _ _ _ _ _ _ split c.loop-event.invariant.going _ c.in_ok-put_event.ensures.all;
      later = omega (arith, later, c.loop-event.invariant.later);
    }
