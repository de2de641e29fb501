use Rattle.std.proofs.Common.{◌≡◌, length, reverse}
use Rattle.span_report.specs.Walks.{after_ends}
use Rattle.span_report.proofs.walk.Walk.longest.Given as goal

abbrev pub invariant-loop-parent : goal.invariant-loop-parent
invariant-loop-parent l = after_ends l.self.top (reverse l.self.below.items) ≡ after_ends l.fn.self.top (reverse l.fn.self.below.items)

abbrev pub decreases-loop-parent : goal.decreases-loop-parent
decreases-loop-parent l = length l.self.below.items
