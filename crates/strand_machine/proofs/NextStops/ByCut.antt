-- What advancing a task gives, by whether the task has ended.
use Rattle.std.specs.Prelude.{◌≡◌, Option, Some, None}
use Rattle.std.proofs.Common.{◌∙◌, subst, sym}
use Rattle.serial_meaning.specs.declared.answer.Outcome.{Outcome}
use Rattle.strand_machine.specs.Tasks.{TaskView}
use Rattle.strand_machine.specs.Stops.{Advances, IsCutEnd, IsStop}
use Rattle.strand_machine.specs.declared.stop.Stop.{Stop}

abbrev pub advances : {K : Type 0} → Option Outcome → TaskView → Stop K → Type 0
advances None t s = IsStop t s
advances (Some ended) t s = IsCutEnd t ended s

pub advances-at : {K : Type 0} (t : TaskView) (s : Stop K) → Advances t s → (c : Option Outcome) → t.cut ≡ c → advances c t s
advances-at t s h None e = h.goes_on e
advances-at t s h (Some ended) e = h.has_ended ended e

pub advances-so : {K : Type 0} (t : TaskView) (s : Stop K) (c : Option Outcome) → t.cut ≡ c → advances c t s → Advances t s
advances-so t s c e h = record {
  goes_on = λ none. subst (λ (o : Option Outcome). advances o t s) (sym e ∙ none) h;
  has_ended = λ ended some. subst (λ (o : Option Outcome). advances o t s) (sym e ∙ some) h;
}
