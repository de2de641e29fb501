use Rattle.std.proofs.Common.{sym, ◌∙◌}
use Rattle.sched_core.proofs.Choices.PickedSteps.{by-run, ends, goes-on, lawful, picks-one}
use Rattle.sched_core.proofs.simulation.take_step.Goals as goal

pub unreachable-requires : goal.unreachable-requires
unreachable-requires c = picks-one c.args.state c.requires.consistent c.requires.root c.args.word (sym c.in_ok-event.ensures ∙ c.in_default.is)

pub take_event-requires-clause-lawful : goal.take_event-requires-clause-lawful
take_event-requires-clause-lawful c = lawful c.args.state c.requires.consistent c.requires.root c.args.word c.in-Some.event (sym c.in_ok-event.ensures ∙ c.in-Some.is)

pub returns-in_default-take : goal.returns-in_default-take
returns-in_default-take c =
    goes-on c.args.state c.requires.consistent c.requires.root c.args.word c.in-Some.event (sym c.in_ok-event.ensures ∙ c.in-Some.is) c.take_event.new.state c.in_ok-take_event.ensures c.take.new.self (sym c.in_default-take.ensures.value) c.in_default-take.ensures.after

pub unreachable-requires-in_default-event : goal.unreachable-requires-in_default-event
unreachable-requires-in_default-event c =
    by-run c.args.state c.requires.consistent c.requires.root c.args.word c.in-Some.event (sym c.in_ok-event.ensures ∙ c.in-Some.is) c.take_event.new.state c.in_ok-take_event.ensures c.in-Some-take.answer (sym c.in-Some-take.ensures.value) c.in_default-event.not-Run

pub returns : goal.returns
returns c =
    ends c.args.state c.requires.consistent c.requires.root c.args.word c.in-Some.event (sym c.in_ok-event.ensures ∙ c.in-Some.is) c.take_event.new.state c.in_ok-take_event.ensures c.in-Some-take.answer (sym c.in-Some-take.ensures.value) c.in-Run.worker c.in-Run.is
