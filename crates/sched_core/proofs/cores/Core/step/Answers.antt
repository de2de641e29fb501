use Rattle.std.proofs.Common.{false, refl, sym}
use Rattle.sched_core.specs.Cores.{core_of}
use Rattle.sched_core.specs.Lawful.{may_happen}
use Rattle.sched_core.proofs.KnownOfNodes.Holding.{has-none, is-made, may-go, root-open, consistent-open}
use Rattle.sched_core.proofs.cores.Core.step.Goals as goal

pub returns-then-not-allows-clause-not_lawful : goal.returns-then-not-allows-clause-not_lawful
returns-then-not-allows-clause-not_lawful c = λ e. (refl, has-none c.self.inside.spent c.self.inside.state c.args.self.now c.self.view_is c.self.invariant c.if-self.false c.args.event c.if-not-allows.ensures)

pub take_event-requires-clause-consistent : goal.take_event-requires-clause-consistent
take_event-requires-clause-consistent c = consistent-open c.self.inside.spent c.self.inside.state c.self.invariant c.if-self.false

pub take_event-requires-clause-root : goal.take_event-requires-clause-root
take_event-requires-clause-root c = root-open c.self.inside.state.root (may_happen (core_of false c.self.inside.state) c.args.event) (sym c.if-not-allows.ensures)

pub take_event-requires-clause-lawful : goal.take_event-requires-clause-lawful
take_event-requires-clause-lawful c = may-go c.self.inside.state.root (may_happen (core_of false c.self.inside.state) c.args.event) (sym c.if-not-allows.ensures)

pub returns-clause-ok : goal.returns-clause-ok
returns-clause-ok c = is-made c.self.inside.spent c.self.inside.state c.args.self.now c.self.view_is c.self.invariant c.if-self.false c.args.event c.take_event.new.state c.in_ok-take_event.ensures

pub invariant_of-self-2 : goal.invariant_of-self-2
invariant_of-self-2 c = c.in_ok-take_event.ensures.consistent
