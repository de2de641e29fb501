use Rattle.std.proofs.Common.{◌∙◌, ap, subst}
use Rattle.sched_meaning.specs.Core as machine
use Rattle.sched_core.specs.Sound.{IsSound}
use Rattle.sched_core.proofs.KnownOfNodes.Holding.{answer-fault, answer-none, sound-held}
use Rattle.sched_core.proofs.cores.Core.answer.Goals as goal

pub returns-clause-none : goal.returns-clause-none
returns-clause-none c = λ open_yet. answer-none c.self.inside.spent c.self.inside.state c.args.self.now c.self.view_is c.self.invariant open_yet _ c.as_ref.ensures.variant

pub returns-clause-fault : goal.returns-clause-fault
returns-clause-fault c = λ open_yet. answer-fault c.self.inside.spent c.self.inside.state c.args.self.now c.self.view_is c.self.invariant open_yet _ c.as_ref.ensures.value

pub returns-clause-sound : goal.returns-clause-sound
returns-clause-sound c =
    λ open_yet. subst IsSound c.self.view_is (sound-held c.self.inside.spent c.self.inside.state c.self.invariant (ap (λ (d : machine.Core). d.spent) c.self.view_is ∙ open_yet))
