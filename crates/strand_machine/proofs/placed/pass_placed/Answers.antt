use Rattle.std.proofs.Common.{◌≡◌, IfOk, sym, subst}
use Rattle.std.specs.Prelude.{OnOk}
use Rattle.strand_machine.specs.Made.{made}
use Rattle.strand_machine.specs.Placed.{latest, step_meets}
use Rattle.strand_machine.specs.Stops.{IsStep}
use Rattle.strand_machine.specs.Tasks.{task_of, view_of}
use Rattle.strand_machine.specs.declared.remaining.Remaining.{Remaining}
use Rattle.strand_machine.proofs.Moves.Making.{sound-at}
use Rattle.strand_machine.proofs.placed.pass_placed.Goals as goal

pub remaining_placed-requires : goal.remaining_placed-requires
remaining_placed-requires c = let p = c.args.parts.now in sound-at p.state p.remaining _ (sym c.replace-remaining.ensures.value) c.requires

pub returns-clause-step : goal.returns-clause-step
returns-clause-step c =
    subst (λ (x : Remaining). IfOk c.remaining_placed.result (λ passed. IsStep (view_of c.args.parts.now.state x) (made c.remaining_placed.new.parts passed))) c.replace-remaining.ensures.value c.remaining_placed.ensures.step

pub returns-clause-met : goal.returns-clause-met
returns-clause-met c =
    subst (λ (x : Remaining). OnOk c.remaining_placed.result (c.remaining_placed.new.met ≡ latest c.args.met.now (step_meets (task_of c.args.parts.now.state x)))) c.replace-remaining.ensures.value c.remaining_placed.ensures.met
