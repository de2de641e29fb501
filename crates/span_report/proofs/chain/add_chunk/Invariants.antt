use Rattle.std.proofs.Common.{◌≡◌, drop}
use Rattle.span_report.specs.Walks.{open_instances, walked_all}
use Rattle.span_report.proofs.chain.add_chunk.Given as goal

abbrev pub invariant-loop-event : goal.invariant-loop-event
invariant-loop-event l = walked_all (open_instances l.fn.walk) l.events ≡ walked_all (open_instances l.walk) (drop l.event-index l.events)
