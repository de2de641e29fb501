-- A look by which a task continues.
use Rattle.std.specs.Arc.{arc_value}
use Rattle.std.proofs.Common.{◌≡◌, ℕ, ◌+◌, ◌≤◌, true, false, [], Some, None, All, Contains, inl, slice_get, slice_set, remove, map, refl, sym, ap, ◌∙◌, subst, arith}
use Rattle.strand_meaning.proofs.TakenAnswers.AnswersKeepTasks.{none-unmerged}
use Rattle.strand_machine.specs.Links.{tags}
use Rattle.strand_machine.specs.AwaitedChildren.{awaited}
use Rattle.strand_machine.specs.Stops.{IsResumedWith, answer_tags, resumed_view}
use Rattle.strand_machine.specs.Tasks.{TaskView}
use Rattle.sched_meaning.specs.Core as machine
use Rattle.sched_meaning.specs.Core.{current_tasks, resumed_task}
use Rattle.sched_meaning.specs.Simulation.{is_free}
use Rattle.sched_meaning.specs.declared.event.CoreEvent.TheVariants.{Look}
use Rattle.sched_meaning.proofs.BegunOnce.Begun.{is-it, is_it}
use Rattle.sched_meaning.proofs.BegunOnce.Changing.{each-get, total, total-remove}
use Rattle.sched_meaning.proofs.KeptByEvents.Cores as cores
use Rattle.sched_meaning.proofs.KeptByEvents.Good.{IsGood, IsStalled}
use Rattle.sched_meaning.proofs.KeptByEvents.Kept.{by_origin}
use Rattle.sched_meaning.proofs.OneCore.OneStep.{some-one}
use Rattle.sched_core.specs.Cores.{answer_of, core_of, origins_of, plan_of, task_in, worker_of}
use Rattle.sched_core.specs.Nodes.{answers_in, missing, without_children}
use Rattle.sched_core.specs.Consistent.{AreJobs, Awaits, StepsTo, IsJob, IsConsistent}
use Rattle.sched_core.specs.Workers.{WorkerView}
use Rattle.sched_core.specs.declared.job.Job.{Job}
use Rattle.sched_core.specs.declared.node.SpawnNode.{SpawnNode}
use Rattle.sched_core.specs.declared.state.CoreState.{CoreState}
use Rattle.sched_core.proofs.Worked.Lists.{everywhere-remove, get-map, get-set, map-remove, map-set}
use Rattle.sched_core.proofs.Worked.Others.{others-stay, times, times-few, worker-stays}
use Rattle.sched_core.proofs.Events.Passing.{answer_given}
use Rattle.sched_core.proofs.Worked.Ready.{all-given, awaited-same, none-cut, tags-are}
use Rattle.sched_core.proofs.KnownOfNodes.TakingAnswers.{job-takes, nodes-take, origins-same}
use Rattle.sched_core.proofs.Events.Taking.{carry-nodes, carry-root, carry-workers, free-none, goes, is-answered}

-- A stalled task, whose number's node has answers of all its children
module _ (s : CoreState) (t : IsConsistent s) (w place : ℕ) (v : WorkerView) (there : slice_get s.workers.items w ≡ Some v) (j : Job) (at : slice_get v.stalled place ≡ Some j) where
  pub stalled-job : IsJob s.nodes.items j
  stalled-job = (t.workers w v there).stalled place j at

  pub is-stalled : IsStalled (plan_of s) (origins_of s.nodes.items) (task_in j)
  is-stalled =
      let kept = cores.kept (plan_of s) t.led.workers t.led.events (core_of false s) t.valid t.led.leads in
      each-get (IsStalled (plan_of s) (origins_of s.nodes.items)) (map task_in v.stalled) place (task_in j) (get-map task_in v.stalled place j at)
      (each-get (IsGood (plan_of s) (origins_of s.nodes.items)) (map worker_of s.workers.items) w (worker_of v) (get-map worker_of s.workers.items w v there) kept.workers).stalled

  module _ (node : SpawnNode) (found : slice_get s.nodes.items j.number ≡ Some node) (zero_left : node.unanswered ≡ 0) where
    pub whole : missing node.children ≡ 0
    whole = sym (t.nodes j.number node found).unanswered ∙ zero_left

    awaits : Awaits (origins_of s.nodes.items) node.children (awaited (task_in j).trace.unmerged)
    awaits = subst (λ (n : SpawnNode). Awaits (origins_of s.nodes.items) n.children (awaited (task_in j).trace.unmerged)) (some-one stalled-job.node node (sym stalled-job.there ∙ found)) stalled-job.awaits

    pub tags-right : answer_tags (answers_in node.children) ≡ tags (task_in j).plan (awaited (task_in j).trace.unmerged)
    tags-right =
        tags-are (plan_of s) s.given (origins_of s.nodes.items) node.children (awaited (task_in j).trace.unmerged) awaits (answer_given (plan_of s) s.given s.nodes.items t.nodes j.number node found) whole
        ∙ ap (λ p. tags p (awaited (task_in j).trace.unmerged)) (sym is-stalled.0.plan_is)

    pub ready : machine.IsReady (core_of false s) (task_in j)
    ready =
        let all : All (Contains s.given) (awaited (task_in j).trace.unmerged) = all-given (plan_of s) s.given (origins_of s.nodes.items) node.children (awaited (task_in j).trace.unmerged) awaits (answer_given (plan_of s) s.given s.nodes.items t.nodes j.number node found) whole in
        let listed : All (Contains s.given) (machine.awaited (task_in j)) = subst (All (Contains s.given)) (sym (awaited-same (task_in j).trace.unmerged)) all in
        λ k d lt. is-answered false s _ (listed k d lt)

    -- it continued with the answers, of which none is a cut
    pub is_resumed-is : (next : Job) → IsResumedWith (answers_in node.children) j.task next.task → next.task ≡ resumed_view j.task
    is_resumed-is next h =
        h.whole (none-cut (plan_of s) s.given (origins_of s.nodes.items) node.children (awaited (task_in j).trace.unmerged) awaits (answer_given (plan_of s) s.given s.nodes.items t.nodes j.number node found))

-- what the state is after the look
pub record HasResumed (w place : ℕ) (j next_job : Job) (node : SpawnNode) (v : WorkerView) (s next : CoreState) : Type 0 where
  pub workers : next.workers.items ≡ slice_set s.workers.items w (record v { current = Some next_job; stalled = remove v.stalled place })
  pub nodes : next.nodes.items ≡ slice_set s.nodes.items j.number (without_children node)
  pub plan : next.plan ≡ s.plan
  pub given : next.given ≡ s.given
  pub root : next.root ≡ s.root
  pub runs : next.runs ≡ s.runs

module _ (s next : CoreState) (t : IsConsistent s) (none : s.root ≡ None) (w place : ℕ) (v : WorkerView) (there : slice_get s.workers.items w ≡ Some v) (free : is_free (slice_get (map worker_of s.workers.items) w) ≡ true) (j : Job) (at : slice_get v.stalled place ≡ Some j) where
  one-in-stalled : times (task_in j).origin v ≡ 1 + (times (task_in j).origin (record v { stalled = remove v.stalled place }))
  one-in-stalled = sums _ _ _ _ removed (is-it (task_in j).origin)
    where
      removed : total (by_origin (is_it (task_in j).origin)) (map task_in (remove v.stalled place)) + is_it (task_in j).origin (task_in j).origin ≡ total (by_origin (is_it (task_in j).origin)) (map task_in v.stalled)
      removed = ap (λ l. total (by_origin (is_it (task_in j).origin)) l + by_origin (is_it (task_in j).origin) (task_in j)) (map-remove task_in v.stalled place) ∙ total-remove (by_origin (is_it (task_in j).origin)) (map task_in v.stalled) place (task_in j) (get-map task_in v.stalled place j at)

      sums : (a b c d : ℕ) → c + d ≡ total (by_origin (is_it (task_in j).origin)) (map task_in v.stalled) → d ≡ 1 → a + (b + total (by_origin (is_it (task_in j).origin)) (map task_in v.stalled)) ≡ 1 + (a + (b + c))
      sums a b c d e f = omega arith

  none-left : times (task_in j).origin (record v { stalled = remove v.stalled place }) ≡ 0
  none-left = left (times (task_in j).origin v) (times (task_in j).origin (record v { stalled = remove v.stalled place })) (times-few s t w v (task_in j).origin there) one-in-stalled
    where
      left : (a b : ℕ) → a ≤ 1 → a ≡ 1 + b → b ≡ 0
      left a b f e = omega arith

  module _ (node : SpawnNode) (found : slice_get s.nodes.items j.number ≡ Some node) (zero_left : node.unanswered ≡ 0) (next_job : Job) (resumes : IsResumedWith (answers_in node.children) j.task next_job.task) (number : next_job.number ≡ j.number)
      (p : HasResumed w place j next_job node v s next) where
    task-is : next_job.task ≡ resumed_view j.task
    task-is = is_resumed-is s t w place v there j at node found zero_left next_job resumes

    own : IsJob s.nodes.items j
    own = stalled-job s t w place v there j at

    nothing-awaited : awaited (task_in next_job).trace.unmerged ≡ []
    nothing-awaited =
        ap (λ (x : TaskView). awaited x.task.trace.unmerged) task-is ∙ sym (awaited-same (resumed_task (task_in j)).trace.unmerged)
        ∙ ap (λ ps. map (λ q. q.child) ps) (none-unmerged (task_in j) (is-stalled s t w place v there j at).0.task)

    next-is-job : IsJob (slice_set s.nodes.items j.number (without_children node)) next_job
    next-is-job = record {
      node = without_children node;
      there = ap (λ m. slice_get (slice_set s.nodes.items j.number (without_children node)) m) number ∙ get-set s.nodes.items j.number node (without_children node) found;
      origin = ap (λ (n : SpawnNode). n.origin) (some-one node own.node (sym found ∙ own.there)) ∙ own.origin ∙ sym (ap (λ (x : TaskView). x.task.origin) task-is);
      awaits = subst (Awaits (origins_of (slice_set s.nodes.items j.number (without_children node))) []) (sym nothing-awaited) tt;
      uncut = ap (λ (x : TaskView). x.cut) task-is ∙ own.uncut;
    }

    grow : (i : Job) → IsJob s.nodes.items i → (i.number ≡ j.number → ⊥) → IsJob (slice_set s.nodes.items j.number (without_children node)) i
    grow = job-takes (plan_of s) s.given s.nodes.items t.nodes j.number node found (whole s t w place v there j at node found zero_left)

    rest-jobs : AreJobs (slice_set s.nodes.items j.number (without_children node)) (record v { stalled = remove v.stalled place })
    rest-jobs =
        let old : AreJobs s.nodes.items v = t.workers w v there in
        worker-stays s t j own (slice_set s.nodes.items j.number (without_children node)) grow (record v { stalled = remove v.stalled place })
        (record { current = old.current; deque = old.deque; stalled = everywhere-remove (IsJob s.nodes.items) v.stalled place old.stalled }) none-left

    jobs : AreJobs (slice_set s.nodes.items j.number (without_children node)) (record v { current = Some next_job; stalled = remove v.stalled place })
    jobs = record { current = next-is-job; deque = rest-jobs.deque; stalled = rest-jobs.stalled }

    has-one : 1 ≤ times (task_in j).origin v
    has-one = let e = one-in-stalled in omega (arith, e)

    after-is : worker_of (record v { current = Some next_job; stalled = remove v.stalled place }) ≡ record (worker_of v) { current = Some (resumed_task (task_in j)); stalled = remove (map task_in v.stalled) place }
    after-is = λ i. record { current = Some (ap (λ (x : TaskView). x.task) task-is i); deque = map task_in v.deque; stalled = map-remove task_in v.stalled place i }

    core-is : core_of false next ≡ record (core_of false s) { workers = slice_set (map worker_of s.workers.items) w (record (worker_of v) { current = Some (resumed_task (task_in j)); stalled = remove (map task_in v.stalled) place }) }
    core-is = λ i. record {
      plan = arc_value (p.plan i);
      workers = workers i;
      begun = begun i;
      answers = map (answer_of (arc_value (p.plan i))) (p.given i);
      runs = p.runs i;
      spent = false;
    }
      where
        workers : map worker_of next.workers.items ≡ slice_set (map worker_of s.workers.items) w (record (worker_of v) { current = Some (resumed_task (task_in j)); stalled = remove (map task_in v.stalled) place })
        workers =
            ap (map worker_of) p.workers ∙ map-set worker_of s.workers.items w (record v { current = Some next_job; stalled = remove v.stalled place }) ∙ ap (λ x. slice_set (map worker_of s.workers.items) w x) after-is

        begun : origins_of next.nodes.items ≡ origins_of s.nodes.items
        begun = ap origins_of p.nodes ∙ origins-same (plan_of s) s.given s.nodes.items t.nodes j.number node found (whole s t w place v there j at node found zero_left)

    -- A look at a task all of whose children have answered.
    pub resume-goes : StepsTo (Look w place) s next
    resume-goes =
        goes (Look w place) s next t none (ap arc_value p.plan)
        (inl (record {
          task = task_in j;
          ready = ready s t w place v there j at node found zero_left;
          resumes = record {
            worker = worker_of v;
            after = record (worker_of v) { current = Some (resumed_task (task_in j)); stalled = remove (map task_in v.stalled) place };
            there = get-map worker_of s.workers.items w v there;
            does = record { free = free-none s.workers.items w v there free; there = get-map task_in v.stalled place j at; after = refl };
            next_is = core-is;
          };
        }))
        (carry-workers _ _ _ _ p.nodes p.workers (others-stay s t j own (slice_set s.nodes.items j.number (without_children node)) grow w v (record v { current = Some next_job; stalled = remove v.stalled place }) there has-one jobs))
        (carry-nodes _ _ _ _ _ _ (ap arc_value p.plan) p.given p.nodes (nodes-take (plan_of s) s.given s.nodes.items t.nodes j.number node found (whole s t w place v there j at node found zero_left)))
        (carry-root _ _ _ _ _ _ (ap arc_value p.plan) p.given p.root t.root)
