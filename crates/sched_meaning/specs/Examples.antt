-- Small cores, event by event. Each is the contract of a function of the module `examples`, which says it in words.
use Rattle.std.specs.Prelude.{◌≡◌, ◌≢◌, false, List, [], ◌∷◌, Some, None}
use Rattle.serial_meaning.specs.Plan.{PlanView}
use Rattle.serial_meaning.specs.Eval.{main_origin}
use Rattle.serial_meaning.specs.declared.event.Event.{Event}
use Rattle.serial_meaning.specs.declared.origin.Origin.{Origin}
use Rattle.serial_meaning.specs.declared.answer.Outcome.{Outcome}
use Rattle.strand_meaning.specs.Task.{Task, start, Spawn, Wait, End, IsNext}
use Rattle.sched_meaning.specs.Core.{Core, free_worker, new_core, awaited, resumed_task, IsRootAnswered}
use Rattle.sched_meaning.specs.Simulation.{choices}
use Rattle.sched_meaning.specs.Steps.{Step, Leads}
use Rattle.sched_meaning.specs.declared.event.CoreEvent.{CoreEvent}
use Rattle.sched_meaning.specs.declared.event.CoreEvent.TheVariants.{Run, Pop, Steal, Look}

-- main begins one child, waits for it, and ends; and the child ends
pub record OneChild (plan : PlanView) : Type 0 where
  pub child : Origin
  pub rest : Task
  pub waiting : Task
  pub own_events : List Event
  pub childs_end : Outcome
  pub out : List Event
  pub ended : Outcome
  pub spawns : IsNext (start plan (main_origin plan)) (Spawn child rest)
  pub waits : IsNext rest (Wait waiting)
  pub child_ends : IsNext (start rest.plan child) (End own_events childs_end)
  pub awaits : awaited waiting ≡ child ∷ []
  pub ends : IsNext (resumed_task waiting) (End out ended)
  pub other : child ≢ main_origin plan

-- the events of this run, the newest first
abbrev pub stolen_rest : List CoreEvent
stolen_rest = Run 1 ∷ Look 1 0 ∷ Run 0 ∷ Look 1 0 ∷ Run 1 ∷ Steal 1 0 ∷ Run 0 ∷ []

-- Worker 1 steals the rest of main and answers the root, once worker 0 has answered the child.
abbrev pub StolenRestAnswers : Type 0
StolenRestAnswers = (plan : PlanView) → OneChild plan → (c : Core) × Leads plan 2 stolen_rest c × IsRootAnswered c × (c.runs ≡ 4)

abbrev pub NobodyStealsFromItself : Type 0
NobodyStealsFromItself = (plan : PlanView) (next : Core) → Step (Steal 0 0) (new_core plan 2) next → ⊥

abbrev pub NoLookWhereNoneIsStalled : Type 0
NoLookWhereNoneIsStalled = (plan : PlanView) (next : Core) → Step (Look 0 0) (new_core plan 2) next → ⊥

abbrev pub OneChoiceAtFirst : Type 0
OneChoiceAtFirst = (plan : PlanView) → choices (new_core plan 2) ≡ Run 0 ∷ []

-- worker 0 runs, worker 1 has nothing, and worker 2 has only a task in its deque
abbrev pub three_workers : PlanView → Task → Task → Task → Core
three_workers plan t u v = record {
  plan = plan;
  workers = record { current = Some t; deque = u ∷ []; stalled = [] } ∷ free_worker ∷ record { current = None; deque = v ∷ []; stalled = [] } ∷ [];
  begun = [];
  answers = [];
  runs = 0;
  spent = false;
}

abbrev pub StealsGoByThief : Type 0
StealsGoByThief =
    (plan : PlanView) (t u v : Task) → choices (three_workers plan t u v) ≡ Run 0 ∷ Pop 2 ∷ Steal 1 0 ∷ Steal 1 2 ∷ Steal 2 0 ∷ []
