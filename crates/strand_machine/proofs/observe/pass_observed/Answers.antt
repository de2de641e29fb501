use Rattle.std.proofs.Common.{◌≡◌, IfOk, sym, subst}
use Rattle.std.specs.Prelude.{OnOk}
use Rattle.strand_meaning.specs.Observation.{step_observation}
use Rattle.strand_machine.specs.Made.{made}
use Rattle.strand_machine.specs.Observed.{with_step}
use Rattle.strand_machine.specs.Stops.{IsStep}
use Rattle.strand_machine.specs.Tasks.{task_of, view_of}
use Rattle.strand_machine.specs.declared.remaining.Remaining.{Remaining}
use Rattle.strand_machine.proofs.Moves.Making.{sound-at}
use Rattle.strand_machine.proofs.observe.pass_observed.Goals as goal

pub remaining_observed-requires : goal.remaining_observed-requires
remaining_observed-requires c = let p = c.args.parts.now in sound-at p.state p.remaining _ (sym c.replace-remaining.ensures.value) c.requires

pub returns-clause-step : goal.returns-clause-step
returns-clause-step c =
    subst (λ (x : Remaining). IfOk c.remaining_observed.result (λ passed. IsStep (view_of c.args.parts.now.state x) (made c.remaining_observed.new.parts passed))) c.replace-remaining.ensures.value c.remaining_observed.ensures.step

pub returns-clause-observation : goal.returns-clause-observation
returns-clause-observation c =
    subst (λ (x : Remaining). OnOk c.remaining_observed.result (c.remaining_observed.new.observation ≡ with_step c.args.at.now (step_observation (task_of c.args.parts.now.state x)) c.args.observation.now)) c.replace-remaining.ensures.value c.remaining_observed.ensures.observation
