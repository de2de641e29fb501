-- Whether a look continues its task, by the count of the children that haven't answered.
use Rattle.std.proofs.Common.{◌≡◌, ℕ, zero, suc, Bool, true, false, ◌&&◌, ◌↔◌, IsTrue, ◌<◌, List, [], ◌∷◌, Option, Some, None, All, length, slice_get, map, refl, sym, ap, ◌∙◌, subst, arith}
use Rattle.std.proofs.lemmas.Option.{slice_get_within}
use Rattle.std.specs.List.{list_all}
use Rattle.serial_meaning.specs.declared.origin.Origin.{Origin}
use Rattle.sched_meaning.specs.Core as machine
use Rattle.sched_meaning.specs.Simulation.{is_answered, is_ready, may_resume}
use Rattle.sched_meaning.proofs.WorkGoesOn.Choosing.{answered-is}
use Rattle.sched_meaning.proofs.OneCore.OneStep.{some-one}
use Rattle.sched_core.specs.Cores.{core_of, task_in, worker_of}
use Rattle.sched_core.specs.Consistent.{IsJob, IsConsistent}
use Rattle.sched_core.specs.Workers.{WorkerView}
use Rattle.sched_core.specs.declared.job.Job.{Job}
use Rattle.sched_core.specs.declared.node.SpawnNode.{SpawnNode}
use Rattle.sched_core.specs.declared.state.CoreState.{CoreState}
use Rattle.sched_core.proofs.Worked.Lists.{get-map, get-map-none}
use Rattle.sched_core.proofs.Events.Passing.{not-ready}
use Rattle.sched_core.proofs.Choices.Picking.{any-in}
use Rattle.sched_core.proofs.Events.Resuming.{ready}

true-first : (a b : Bool) → (a && b) ≡ true → a ≡ true
true-first true b h = refl
true-first false b h = absurd (cc)

true-second : (a b : Bool) → (a && b) ≡ true → b ≡ true
true-second true b h = h
true-second false b h = absurd (cc)

all-answered : (c : machine.Core) (os : List Origin) → list_all (is_answered c) os ≡ true → All (machine.IsAnswered c) os
all-answered c [] h k d lt = absurd (omega arith)
all-answered c (o ∷ os) h zero d lt = any-in o (machine.answered c) (true-first (is_answered c o) (list_all (is_answered c) os) h)
all-answered c (o ∷ os) h (suc k) d lt = all-answered c os (true-second (is_answered c o) (list_all (is_answered c) os) h) k d (omega arith)

answered-all : (c : machine.Core) (os : List Origin) → All (machine.IsAnswered c) os → list_all (is_answered c) os ≡ true
answered-all c [] h = refl
answered-all c (o ∷ os) h = ap (λ b. b && list_all (is_answered c) os) (answered-is c o (h 0 o (omega arith))) ∙ answered-all c os (λ k d lt. h (suc k) d (omega arith))

false-or : (b : Bool) → (b ≡ true → ⊥) → b ≡ false
false-or true h = absurd (h refl)
false-or false h = refl

module _ (s : CoreState) (t : IsConsistent s) (w place : ℕ) (v : WorkerView) (there : slice_get s.workers.items w ≡ Some v) (j : Job) (at : slice_get v.stalled place ≡ Some j) (node : SpawnNode) (found : slice_get s.nodes.items j.number ≡ Some node) where
  ready-task : (r : Bool) → (IsTrue r ↔ (node.unanswered ≡ 0)) → r ≡ is_ready (core_of false s) (Some (task_in j))
  ready-task true h = sym (answered-all (core_of false s) (machine.awaited (task_in j)) (ready s t w place v there j at node found (h.0 refl)))
  ready-task false h =
      sym (false-or (list_all (is_answered (core_of false s)) (machine.awaited (task_in j)))
      (λ e. not-ready s t j ((t.workers w v there).stalled place j at) node found (λ z. (let both : false ≡ true = h.1 z in absurd (cc))) (all-answered (core_of false s) (machine.awaited (task_in j)) e)))

  pub ready-is : (r : Bool) → (IsTrue r ↔ (node.unanswered ≡ 0)) → r ≡ may_resume (core_of false s) place (slice_get (map worker_of s.workers.items) w)
  ready-is r h =
      ready-task r h
      ∙ ap (is_ready (core_of false s)) (sym (get-map task_in v.stalled place j at))
      ∙ ap (may_resume (core_of false s) place) (sym (get-map worker_of s.workers.items w v there))

-- where no such task waits
pub none-waits : (s : CoreState) (w place : ℕ) (v : WorkerView) → slice_get s.workers.items w ≡ Some v → slice_get v.stalled place ≡ None → false ≡ may_resume (core_of false s) place (slice_get (map worker_of s.workers.items) w)
none-waits s w place v there none =
    ap (is_ready (core_of false s)) (sym (get-map-none task_in v.stalled place none)) ∙ ap (may_resume (core_of false s) place) (sym (get-map worker_of s.workers.items w v there))

-- The number of a task that waits, as its worker told it

pub record WaitsAt (s : CoreState) (v : WorkerView) (place number : ℕ) : Type 0 where
  pub job : Job
  pub at : slice_get v.stalled place ≡ Some job
  pub number_is : job.number ≡ number
  pub small : number < length s.nodes.items

job-consistent : (o : Option Job) (r : Option ℕ) (n : ℕ) → ((j : Job) → o ≡ Some j → r ≡ Some j.number) → (o ≡ None → r ≡ None) → r ≡ Some n → (j : Job) × (o ≡ Some j) × (j.number ≡ n)
job-consistent None r n some none consistent = let nothing : r ≡ None = none refl in absurd (cc)
job-consistent (Some j) r n some none consistent = (j, refl, some-one j.number n (sym (some j refl) ∙ consistent))

pub none-consistent : (o : Option Job) (r : Option ℕ) → ((j : Job) → o ≡ Some j → r ≡ Some j.number) → r ≡ None → o ≡ None
none-consistent None r some consistent = refl
none-consistent (Some j) r some consistent = let one : r ≡ Some j.number = some j refl in absurd (cc)

pub waits-consistent : (s : CoreState) (t : IsConsistent s) (w place : ℕ) (v : WorkerView) → slice_get s.workers.items w ≡ Some v → (r : Option ℕ) (n : ℕ) → ((j : Job) → slice_get v.stalled place ≡ Some j → r ≡ Some j.number) →
    (slice_get v.stalled place ≡ None → r ≡ None) → r ≡ Some n → WaitsAt s v place n
waits-consistent s t w place v there r n some none consistent = record { job = found.0; at = found.1; number_is = found.2; small = subst (λ m. m < length s.nodes.items) found.2 short }
  where
    found : (j : Job) × (slice_get v.stalled place ≡ Some j) × (j.number ≡ n)
    found = job-consistent (slice_get v.stalled place) r n some none consistent

    own : IsJob s.nodes.items found.0
    own = (t.workers w v there).stalled place found.0 found.1

    short : found.0.number < length s.nodes.items
    short = slice_get_within s.nodes.items found.0.number own.node own.there
