use Rattle.std.proofs.Common.{◌≡◌, length, reverse}
use Rattle.span_report.specs.Walks.{closed_to}
use Rattle.span_report.proofs.walk.Walk.leave.Given as goal

abbrev pub invariant-loop-self : goal.invariant-loop-self
invariant-loop-self l = closed_to l.fn.path l.self.top (reverse l.self.below.items) ≡ closed_to l.fn.path l.initial.self.top (reverse l.initial.self.below.items)

abbrev pub decreases-loop-self : goal.decreases-loop-self
decreases-loop-self l = length l.self.below.items
