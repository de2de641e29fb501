-- One step of a simulation.
use Rattle.std.specs.Prelude.{◌≡◌, ℕ, false, Some, None}
use Rattle.serial_meaning.specs.Answer.{AnswerView}
use Rattle.serial_meaning.specs.Eval.{main_origin}
use Rattle.serial_meaning.specs.Plan.{PlanView}
use Rattle.strand_meaning.specs.Laws.{IsFaultOf}
use Rattle.sched_meaning.specs.Core as machine
use Rattle.sched_meaning.specs.Simulation.{picked}
use Rattle.sched_meaning.specs.Steps.{Step}
use Rattle.sched_meaning.specs.declared.event.CoreEvent.{CoreEvent}
use Rattle.sched_meaning.specs.declared.event.CoreEvent.TheVariants.{Run}
use Rattle.sched_core.specs.Cores.{core_of, plan_of}
use Rattle.sched_core.specs.Consistent.{StepsTo}
use Rattle.sched_core.specs.declared.simulation.Simulated.{Simulated}
use Rattle.sched_core.specs.declared.simulation.Stepped.{Stepped}
use Rattle.sched_core.specs.declared.simulation.Stepped.TheVariants.{Unfinished, Finished}
use Rattle.sched_core.specs.declared.state.CoreState.{CoreState}

-- The word picks an event, which happens, and main isn't answered yet.
pub record Continues (word : ℕ) (s next : CoreState) : Type 0 where
  pub event : CoreEvent
  pub picks : picked (core_of false s) word ≡ Some event
  pub goes : StepsTo event s next
  pub root : next.root ≡ None

pub record IsMains (plan : PlanView) (a : AnswerView) : Type 0 where
  pub plan_is : a.plan ≡ plan
  pub origin : a.origin ≡ main_origin plan
  pub fault : IsFaultOf plan a.outcome

-- The word picks a run of this worker, which answers main.
pub record AnswersMain (word : ℕ) (s : CoreState) (simulated : Simulated) : Type 0 where
  pub next : machine.Core
  pub picks : picked (core_of false s) word ≡ Some (Run simulated.worker)
  pub step : Step (Run simulated.worker) (core_of false s) next
  pub answered : machine.IsRootAnswered next
  pub mains : IsMains (plan_of s) simulated.answer

abbrev pub TakesStep : ℕ → CoreState → Stepped → Type 0
TakesStep word s (Unfinished next) = Continues word s next
TakesStep word s (Finished simulated) = AnswersMain word s simulated
