use Rattle.std.proofs.Common.{sym, ◌∙◌, reverse}
use Rattle.span_report.proofs.LongestChains.Stacks.{left-here}
use Rattle.span_report.proofs.walk.Walk.leave.Goals as goal

pub returns : goal.returns
returns c = sym (left-here c.args.path.now c.loop-self.self.top (reverse c.loop-self.self.below.items) (sym c.leads_to.ensures ∙ c.loop-self-test.false)) ∙ c.loop-self.invariant
