-- What was made while something was kept.
use Rattle.std.proofs.Common.{◌≡◌, ◌∙◌, List, ℕ, Result, Ok, ap, subst}
use Rattle.std.specs.Result.{IfOk}
use Rattle.serial_meaning.specs.declared.keep.All.{All}
use Rattle.strand_machine.specs.Observed.{IsObserved}
use Rattle.strand_machine.specs.declared.memory.Memory.{Memory}
use Rattle.strand_machine.specs.declared.observe.ObservedStop.{ObservedStop}
use Rattle.strand_machine.specs.declared.stop.Stop.{Stop}
use Rattle.serial_runner.specs.Observed.{ObservesStop, with_observation}
use Rattle.serial_runner.specs.declared.observed.ObservedInstance.{ObservedInstance}
use Rattle.serial_runner.specs.declared.walk.NodeWalk.{NodeWalk}

pub made : {B E : Type 0} (P : B → Type 0) (r : Result B E) (b : B) → r ≡ Ok b → IfOk r P → P b
made P r b e h = subst (λ z. IfOk z P) e h

-- what was observed, and is seen by then
pub observation : (j : List ℕ) (w : NodeWalk) (before : ObservedInstance) (n : ObservedStop) → before ≡ w.observed → IsObserved w.task j w.observed.probe n → (r : Result ObservedInstance Memory) → IfOk r (λ s. s ≡ with_observation n.probe n.events n.fault n.child_fault before)
    → (stop : Stop All) (observed : ObservedInstance) → stop ≡ n.stop → r ≡ Ok observed → ObservesStop j w stop observed
observation j w before n e is r h stop observed at o = record {
  observed_stop = n;
  is_observed = is;
  stops = at;
  sees = made (λ s. s ≡ with_observation n.probe n.events n.fault n.child_fault before) r observed o h ∙ ap (with_observation n.probe n.events n.fault n.child_fault) e;
}
