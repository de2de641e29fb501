-- A fruitless look: the task goes to the end of the stalled tasks.
use Rattle.std.proofs.Common.{◌≡◌, ℕ, zero, suc, true, false, List, [], ◌∷◌, ◌++◌, Some, None, All, Contains, inr, slice_get, remove, map, refl, sym, ap, ◌∙◌, subst}
use Rattle.serial_meaning.specs.Plan.{PlanView}
use Rattle.serial_meaning.specs.declared.origin.Origin.{Origin}
use Rattle.strand_machine.specs.AwaitedChildren.{awaited}
use Rattle.sched_meaning.specs.Core as machine
use Rattle.sched_meaning.specs.Simulation.{is_free}
use Rattle.sched_meaning.specs.Steps.{Changes, WorkerPasses}
use Rattle.sched_meaning.specs.declared.event.CoreEvent.TheVariants.{Look}
use Rattle.sched_meaning.proofs.OneCore.OneStep.{some-one}
use Rattle.sched_core.specs.Cores.{core_of, origins_of, plan_of, task_in, worker_of}
use Rattle.sched_core.specs.Moves.{TakesStalled, Stalls, WorkerChanges}
use Rattle.sched_core.specs.Nodes.{missing}
use Rattle.sched_core.specs.Consistent.{AreJobs, AreNodes, AreWorkers, Awaits, StepsTo, IsChild, IsAnsweredBy, IsJob, IsConsistent}
use Rattle.sched_core.specs.Workers.{WorkerView}
use Rattle.sched_core.specs.declared.job.Job.{Job}
use Rattle.sched_core.specs.declared.node.SpawnNode.{SpawnNode}
use Rattle.sched_core.specs.declared.state.CoreState.{CoreState}
use Rattle.sched_core.proofs.Worked.Lists.{get-map, map-remove, everywhere-end, everywhere-remove, everywhere-set}
use Rattle.sched_core.proofs.Worked.Ready.{AreAnswersGiven, awaited-same, not-all}
use Rattle.sched_core.proofs.Events.Taking.{Both, Keeps, changed, core-keeps, free-none, map-end, moves, was-given}

-- What holds of the answers in a node

pub answer_given : (plan : PlanView) (given : List Origin) (nodes : List SpawnNode) → AreNodes plan given nodes → (n : ℕ) (node : SpawnNode) → slice_get nodes n ≡ Some node →
    AreAnswersGiven plan given (origins_of nodes) node.children
answer_given plan given nodes all n node there k c at o og = subst (λ p. IsAnsweredBy plan given p c.answer) same child.answer_given
  where
    child : IsChild plan given nodes n k c
    child = (all n node there).children k c at

    same : child.node.origin ≡ o
    same = some-one child.node.origin o (sym (get-map (λ (x : SpawnNode). x.origin) nodes c.number child.node child.there) ∙ og)

not-zero : (k m : ℕ) → k ≡ m → (k ≡ 0 → ⊥) → (n : ℕ) × (m ≡ suc n)
not-zero k zero e h = absurd (h e)
not-zero k (suc m) e h = (m, refl)

module _ (s : CoreState) (t : IsConsistent s) where
  -- a task of which a child hasn't answered isn't ready
  pub not-ready : (j : Job) → IsJob s.nodes.items j → (node : SpawnNode) → slice_get s.nodes.items j.number ≡ Some node → (node.unanswered ≡ 0 → ⊥) →
      machine.IsReady (core_of false s) (task_in j) → ⊥
  not-ready j is node there some ready =
      let z = not-zero node.unanswered (missing node.children) (t.nodes j.number node there).unanswered some in
      not-all (plan_of s) s.given (origins_of s.nodes.items) node.children (awaited (task_in j).trace.unmerged) z.0
      (subst (λ (n : SpawnNode). Awaits (origins_of s.nodes.items) n.children (awaited (task_in j).trace.unmerged)) same is.awaits)
      (answer_given (plan_of s) s.given s.nodes.items t.nodes j.number node there) z.1 given
    where
      same : is.node ≡ node
      same = some-one is.node node (sym is.there ∙ there)

      given : All (Contains s.given) (awaited (task_in j).trace.unmerged)
      given = subst (All (Contains s.given)) (awaited-same (task_in j).trace.unmerged) (λ k d lt. was-given false s _ (ready k d lt))

module _ (s next : CoreState) (t : IsConsistent s) (none : s.root ≡ None) (k : Keeps s next) (w place : ℕ) (j : Job) where
  module _ (b : Both w (TakesStalled place j) (Stalls j) s.workers.items next.workers.items) (free : is_free (slice_get (map worker_of s.workers.items) w) ≡ true) where
    old : AreJobs s.nodes.items b.worker
    old = t.workers w b.worker b.there

    after-is : b.after ≡ record b.worker { stalled = remove b.worker.stalled place ++ j ∷ [] }
    after-is = b.second ∙ ap (λ (v : WorkerView). record v { stalled = v.stalled ++ j ∷ [] }) b.first.1

    stalled-is : map task_in (remove b.worker.stalled place ++ j ∷ []) ≡ remove (map task_in b.worker.stalled) place ++ task_in j ∷ []
    stalled-is = map-end (remove b.worker.stalled place) j ∙ ap (λ l. l ++ task_in j ∷ []) (map-remove task_in b.worker.stalled place)

    passes : WorkerPasses place (task_in j) (worker_of b.worker) (worker_of b.after)
    passes = record {
      free = free-none s.workers.items w b.worker b.there free;
      there = get-map task_in b.worker.stalled place j b.first.0;
      after = ap worker_of after-is ∙ ap (λ r. record (worker_of b.worker) { stalled = r }) stalled-is;
    }

    jobs : AreJobs s.nodes.items b.after
    jobs = subst (AreJobs s.nodes.items) (sym after-is) (record {
      current = old.current;
      deque = old.deque;
      stalled = everywhere-end (IsJob s.nodes.items) (remove b.worker.stalled place) j (everywhere-remove (IsJob s.nodes.items) b.worker.stalled place old.stalled) (old.stalled place j b.first.0);
    })

    change : WorkerChanges w (λ v x. WorkerPasses place (task_in j) (worker_of v) (worker_of x)) s.workers.items next.workers.items
    change = record { worker = b.worker; after = b.after; there = b.there; does = passes; next_is = b.next_is }

    -- A look at a task of which a child hasn't answered.
    pub pass-goes : (node : SpawnNode) → slice_get s.nodes.items j.number ≡ Some node → (node.unanswered ≡ 0 → ⊥) → StepsTo (Look w place) s next
    pass-goes node there some =
        moves (Look w place) s next t none k
        (inr (record {
          task = task_in j;
          waits = not-ready s t j (old.stalled place j b.first.0) node there some;
          passes = subst (Changes w (WorkerPasses place (task_in j)) (core_of false s)) (sym (core-keeps s next k))
              (changed w _ (WorkerPasses place (task_in j)) (core_of false s) s.workers.items next.workers.items refl change change.does);
        }))
        (subst (AreWorkers s.nodes.items) (sym b.next_is) (everywhere-set (AreJobs s.nodes.items) s.workers.items w b.after jobs t.workers))
