use Rattle.std.proofs.Common.{◌∙◌, ap}
use Rattle.strand_machine.specs.Observed.{IsObserved}
use Rattle.serial_runner.proofs.ObservedStops.{made, observation}
use Rattle.serial_runner.proofs.walk.run_to_stop.Goals as goal

pub returns-clause-stop : goal.returns-clause-stop
returns-clause-stop c =
    let k = c.in_ok-awaited.ensures in
    let m = c.in_ok-stop.ensures in
    observation c.args.at.now c.args.walk _ _ (ap (λ z. z.1) k.0) (made (IsObserved c.args.walk.task c.args.at.now c.args.walk.observed.probe) _ _ k.1 c.advance_observed.ensures) _ c.observe-observed.ensures _ _ (ap (λ z. z.0) m.0) m.1

pub returns-clause-awaited : goal.returns-clause-awaited
returns-clause-awaited c = ap (λ z. z.1) c.in_ok-stop.ensures.0 ∙ ap (λ z. z.0) c.in_ok-awaited.ensures.0
