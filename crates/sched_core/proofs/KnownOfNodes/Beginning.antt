-- A core before its first step is the machine's new core, and what holds of cores holds of it.
use Rattle.std.proofs.Common.{◌≡◌, ℕ, zero, suc, ◌-◌, false, List, [], ◌∷◌, ◌++◌, ◌+◌, ◌≤◌, Some, None, length, replicate, map, refl, sym, ap, ◌∙◌, subst, arith}
use Rattle.std.proofs.lemmas.List.{length-replicate}
use Rattle.script_check.specs.Valid.{IsValid}
use Rattle.serial_meaning.specs.Eval.{main_origin}
use Rattle.serial_meaning.specs.Plan.{PlanView}
use Rattle.strand_machine.specs.Links.{detached}
use Rattle.strand_machine.specs.Tasks.{TaskView, fresh}
use Rattle.sched_meaning.specs.Core as machine
use Rattle.sched_meaning.specs.Core.{free_worker, new_core}
use Rattle.sched_meaning.proofs.OneCore.OneStep.{some-one}
use Rattle.sched_core.specs.Begun.{IsBegun, first_workers}
use Rattle.sched_core.specs.Cores.{answer_of, core_of, origins_of, plan_of, worker_of}
use Rattle.sched_core.specs.Moves.{job}
use Rattle.sched_core.specs.Nodes.{new_node}
use Rattle.sched_core.specs.Consistent.{AreJobs, AreNodes, AreWorkers, IsAnsweredBy, IsNode, IsConsistent}
use Rattle.sched_core.specs.Workers.{worker_with}
use Rattle.sched_core.specs.declared.node.SpawnNode.{SpawnNode}
use Rattle.sched_core.specs.declared.state.CoreState.{CoreState}
use Rattle.sched_core.proofs.Events.Taking.{carry-nodes, carry-root, carry-workers}

free-workers : (n : ℕ) → map worker_of (replicate n (worker_with None)) ≡ replicate n free_worker
free-workers zero = refl
free-workers (suc n) = ap (λ l. free_worker ∷ l) (free-workers n)

module _ (plan : PlanView) where
  first_workers-begun : (n : ℕ) → map worker_of (first_workers (fresh plan (main_origin plan) detached) n) ≡ (new_core plan n).workers
  first_workers-begun n = ap (λ l. machine.first_worker plan ∷ l) (free-workers (n - 1))

  pub core-begun : (n : ℕ) (s : CoreState) → IsBegun plan n s → core_of false s ≡ new_core plan n
  core-begun n s b = λ i. record { plan = b.plan_is i; workers = workers i; begun = begun i; answers = answers i; runs = b.runs i; spent = false }
    where
      workers : map worker_of s.workers.items ≡ (new_core plan n).workers
      workers = ap (map worker_of) b.workers_are ∙ first_workers-begun n

      begun : origins_of s.nodes.items ≡ main_origin plan ∷ []
      begun = ap origins_of b.nodes

      answers : map (answer_of (plan_of s)) s.given ≡ []
      answers = ap (map (answer_of (plan_of s))) b.given

  free-jobs : (nodes : List SpawnNode) → AreJobs nodes (worker_with None)
  free-jobs nodes = record { current = tt; deque = λ k x h. absurd (cc); stalled = λ k x h. absurd (cc) }

  all-free : (nodes : List SpawnNode) (n : ℕ) → AreWorkers nodes (replicate n (worker_with None))
  all-free nodes zero k x h = absurd (cc)
  all-free nodes (suc n) zero x h = subst (AreJobs nodes) (some-one (worker_with None) x h) (free-jobs nodes)
  all-free nodes (suc n) (suc k) x h = all-free nodes n k x h

  first-jobs : AreJobs (new_node (main_origin plan) None ∷ []) (worker_with (Some (job (fresh plan (main_origin plan) detached) 0)))
  first-jobs = record {
    current = record { node = new_node (main_origin plan) None; there = refl; origin = refl; awaits = tt; uncut = refl };
    deque = λ k x h. absurd (cc);
    stalled = λ k x h. absurd (cc);
  }

  workers-consistent : (n : ℕ) → AreWorkers (new_node (main_origin plan) None ∷ []) (first_workers (fresh plan (main_origin plan) detached) n)
  workers-consistent n zero x h = subst (AreJobs (new_node (main_origin plan) None ∷ [])) (some-one (worker_with (Some (job (fresh plan (main_origin plan) detached) 0))) x h) first-jobs
  workers-consistent n (suc k) x h = all-free (new_node (main_origin plan) None ∷ []) (n - 1) k x h

  nodes-consistent : AreNodes plan [] (new_node (main_origin plan) None ∷ [])
  nodes-consistent zero node h = subst (IsNode plan [] (new_node (main_origin plan) None ∷ []) 0) (some-one (new_node (main_origin plan) None) node h)
      (record { unanswered = refl; children = λ k c at. absurd (cc); link = λ open_yet. refl; first = λ e. refl })
  nodes-consistent (suc k) node h = absurd (cc)

  none-given : IsAnsweredBy plan [] (main_origin plan) None
  none-given = λ h. absurd (omega (arith, h.1))

  pub consistent-begun : (n : ℕ) (s : CoreState) → IsValid plan.script → IsBegun plan n s → IsConsistent s
  consistent-begun n s valid b = record {
    valid = subst (λ (p : PlanView). IsValid p.script) (sym b.plan_is) valid;
    led = record { workers = n; events = []; leads = core-begun n s b ∙ ap (λ (p : PlanView). new_core p n) (sym b.plan_is) };
    workers = carry-workers s.nodes.items (new_node (main_origin plan) None ∷ []) s.workers.items (first_workers (fresh plan (main_origin plan) detached) n) b.nodes b.workers_are (workers-consistent n);
    nodes = carry-nodes (plan_of s) plan s.given [] s.nodes.items (new_node (main_origin plan) None ∷ []) b.plan_is b.given b.nodes nodes-consistent;
    root = carry-root (plan_of s) plan s.given [] s.root None b.plan_is b.given b.root none-given;
  }

replicate-end : {A : Type 0} (k : ℕ) (x : A) → replicate k x ++ x ∷ [] ≡ replicate (suc k) x
replicate-end zero x = refl
replicate-end (suc k) x = ap (λ l. x ∷ l) (replicate-end k x)

-- one more free worker
pub first_workers-more : (main : TaskView) (n : ℕ) → 1 ≤ n → first_workers main n ++ worker_with None ∷ [] ≡ first_workers main (n + 1)
first_workers-more main zero h = absurd (omega arith)
first_workers-more main (suc k) h =
    let e : suc k - 1 ≡ k = omega arith in
    let f : suc k + 1 - 1 ≡ suc k = omega arith in
    ap (λ m. worker_with (Some (job main 0)) ∷ (replicate m (worker_with None) ++ worker_with None ∷ [])) e ∙ ap (λ l. worker_with (Some (job main 0)) ∷ l) (replicate-end k (worker_with None))
    ∙ ap (λ m. worker_with (Some (job main 0)) ∷ replicate m (worker_with None)) (sym f)

pub first_workers-many : (main : TaskView) (n : ℕ) → 1 ≤ n → length (first_workers main n) ≡ n
first_workers-many main n h = let e : length (replicate (n - 1) (worker_with None)) ≡ n - 1 = length-replicate (n - 1) (worker_with None) in omega arith
