-- Runs: a task comes to its next stop.
use Rattle.std.specs.Arc.{arc_value}
use Rattle.std.proofs.Common.{◌≡◌, ℕ, ◌+◌, ◌≤◌, false, [], ◌∷◌, ◌++◌, Some, None, IfSome, Contains, slice_get, slice_set, map, refl, sym, ap, ◌∙◌, subst, arith}
use Rattle.strand_meaning.specs.Task.{Stop, Wait, IsNext}
use Rattle.strand_meaning.proofs.NextStops.OneSoundStop.{stops_keep_origins}
use Rattle.strand_machine.specs.AwaitedChildren.{awaited}
use Rattle.serial_meaning.specs.declared.keep.All.{All}
use Rattle.strand_machine.specs.Stops.{IsStop}
use Rattle.strand_machine.specs.declared.stop.Stop.TheVariants as stop
use Rattle.sched_meaning.specs.Core as machine
use Rattle.sched_meaning.specs.Core.{current_tasks}
use Rattle.sched_meaning.specs.Steps.{Happens, Step, after_stop, recorded}
use Rattle.sched_meaning.specs.Steps as steps
use Rattle.sched_meaning.specs.declared.event.CoreEvent.TheVariants.{Run}
use Rattle.sched_meaning.proofs.BegunOnce.Begun.{is-it, is_it}
use Rattle.sched_meaning.proofs.BegunOnce.Changing.{each-get, total}
use Rattle.sched_meaning.proofs.KeptByEvents.Cores as cores
use Rattle.sched_meaning.proofs.KeptByEvents.Good.{IsRunning, IsGood, current-good}
use Rattle.sched_meaning.proofs.BegunOnce.Starts.{stops_start}
use Rattle.sched_meaning.proofs.KeptByEvents.Kept.{by_origin}
use Rattle.sched_core.specs.Cores.{answer_of, core_of, current_in, origins_of, plan_of, task_in, worker_of}
use Rattle.sched_core.specs.Consistent.{AreJobs, Awaits, StepsTo, IsJob, IsConsistent}
use Rattle.sched_core.specs.Workers.{WorkerView}
use Rattle.sched_core.specs.declared.job.Job.{Job}
use Rattle.sched_core.specs.declared.state.CoreState.{CoreState}
use Rattle.sched_core.proofs.Worked.Lists.{everywhere-end, everywhere-set, get-map, map-set}
use Rattle.sched_core.proofs.Worked.Others.{not-given, times, times-few}
use Rattle.sched_core.proofs.Worked.Ready.{awaited-same}
use Rattle.sched_core.proofs.Events.Taking.{carry-nodes, carry-root, carry-workers, goes, map-end, unanswered}

-- The worker, and its current job

module _ (s : CoreState) (t : IsConsistent s) (w : ℕ) (v : WorkerView) (there : slice_get s.workers.items w ≡ Some v) (j : Job) (current : v.current ≡ Some j) where
  pub own-job : IsJob s.nodes.items j
  own-job = subst (λ o. IfSome o (IsJob s.nodes.items)) current (t.workers w v there).current

  -- its task is sound and doesn't wait
  pub going : IsRunning (plan_of s) (origins_of s.nodes.items) (task_in j)
  going =
      let kept = cores.kept (plan_of s) t.led.workers t.led.events (core_of false s) t.valid t.led.leads in
      current-good (plan_of s) (origins_of s.nodes.items) (worker_of v) (task_in j) (each-get (IsGood (plan_of s) (origins_of s.nodes.items)) (map worker_of s.workers.items) w (worker_of v) (get-map worker_of s.workers.items w v there) kept.workers)
      (ap current_in current)

  current-one : total (by_origin (is_it (task_in j).origin)) (current_tasks (current_in v.current)) ≡ 1
  current-one =
      let e : total (by_origin (is_it (task_in j).origin)) (current_tasks (current_in v.current)) ≡ is_it (task_in j).origin (task_in j).origin + 0 = ap (λ o. total (by_origin (is_it (task_in j).origin)) (current_tasks (current_in o))) current in
      let i : is_it (task_in j).origin (task_in j).origin ≡ 1 = is-it (task_in j).origin in omega arith

  pub has : 1 ≤ times (task_in j).origin v
  has = more _ _ _ current-one
    where
      more : (a b c : ℕ) → a ≡ 1 → 1 ≤ a + (b + c)
      more a b c e = omega arith

  few : times (task_in j).origin v ≤ 1
  few = times-few s t w v (task_in j).origin there

  pub deque-none : total (by_origin (is_it (task_in j).origin)) (map task_in v.deque) ≡ 0
  deque-none = rest (total (by_origin (is_it (task_in j).origin)) (current_tasks (current_in v.current))) _ _ current-one few
    where
      rest : (a b c : ℕ) → a ≡ 1 → a + (b + c) ≤ 1 → b ≡ 0
      rest a b c e f = omega arith

  pub stalled-none : total (by_origin (is_it (task_in j).origin)) (map task_in v.stalled) ≡ 0
  stalled-none = rest (total (by_origin (is_it (task_in j).origin)) (current_tasks (current_in v.current))) (total (by_origin (is_it (task_in j).origin)) (map task_in v.deque)) _ current-one few
    where
      rest : (a b c : ℕ) → a ≡ 1 → a + (b + c) ≤ 1 → c ≡ 0
      rest a b c e f = omega arith

  pub own-fresh : Contains s.given (task_in j).origin → ⊥
  own-fresh g = not-given s t w v (task_in j).origin there has g

-- The machine's step

module _ (s next : CoreState) (t : IsConsistent s) (none : s.root ≡ None) (w : ℕ) (v after : WorkerView) (there : slice_get s.workers.items w ≡ Some v) (j : Job) (current : v.current ≡ Some j) (stop : Stop) (comes : IsNext (task_in j) stop) where
  abbrev pub moved : machine.Core
  moved = record (core_of false s) { workers = slice_set (map worker_of s.workers.items) w (after_stop stop (worker_of v)) }

  runs : core_of false next ≡ recorded (task_in j) stop moved → steps.ReachesStop w (core_of false s) (core_of false next)
  runs e = record {
    task = task_in j;
    stop = stop;
    moved = moved;
    runs = record {
      worker = worker_of v;
      after = after_stop stop (worker_of v);
      there = get-map worker_of s.workers.items w v there;
      does = record { current = ap current_in current; comes = comes; after = refl };
      next_is = refl;
    };
    next_is = e;
  }

  pub run-step : core_of false next ≡ recorded (task_in j) stop moved → Step (Run w) (core_of false s) (core_of false next)
  run-step e = record { unanswered = unanswered s t none; happens = runs e }

  pub workers-moved : worker_of after ≡ after_stop stop (worker_of v) → map worker_of (slice_set s.workers.items w after) ≡ slice_set (map worker_of s.workers.items) w (after_stop stop (worker_of v))
  workers-moved e = map-set worker_of s.workers.items w after ∙ ap (λ x. slice_set (map worker_of s.workers.items) w x) e

-- A wait

-- what the state is after it
pub record HasStalled (w : ℕ) (j rest : Job) (v : WorkerView) (s next : CoreState) : Type 0 where
  pub workers : next.workers.items ≡ slice_set s.workers.items w (record v { current = None; stalled = v.stalled ++ rest ∷ [] })
  pub nodes : next.nodes.items ≡ s.nodes.items
  pub plan : next.plan ≡ s.plan
  pub given : next.given ≡ s.given
  pub root : next.root ≡ s.root
  pub runs : next.runs ≡ s.runs + 1

module _ (s next : CoreState) (t : IsConsistent s) (none : s.root ≡ None) (w : ℕ) (v : WorkerView) (there : slice_get s.workers.items w ≡ Some v) (j : Job) (current : v.current ≡ Some j) (rest : Job) where
  module _ (stops : IsStop {K = All} j.task (stop.Wait rest.task)) (number : rest.number ≡ j.number) (p : HasStalled w j rest v s next) where
    own : IsJob s.nodes.items j
    own = own-job s t w v there j current

    starts : awaited (task_in rest).trace.unmerged ≡ awaited (task_in j).trace.unmerged
    starts = sym (awaited-same (task_in rest).trace.unmerged) ∙ stops_start (task_in j) (Wait (task_in rest)) (going s t w v there j current).0.task stops.next ∙ awaited-same (task_in j).trace.unmerged

    rest-job : IsJob s.nodes.items rest
    rest-job = record {
      node = own.node;
      there = ap (λ n. slice_get s.nodes.items n) number ∙ own.there;
      origin = own.origin ∙ sym (stops_keep_origins (task_in j) (Wait (task_in rest)) stops.next).1;
      awaits = subst (Awaits (origins_of s.nodes.items) own.node.children) (sym starts) own.awaits;
      uncut = stops.keeps.2;
    }

    jobs : AreJobs s.nodes.items (record v { current = None; stalled = v.stalled ++ rest ∷ [] })
    jobs =
        let old : AreJobs s.nodes.items v = t.workers w v there in
        record { current = tt; deque = old.deque; stalled = everywhere-end (IsJob s.nodes.items) v.stalled rest old.stalled rest-job }

    core-is : core_of false next ≡ recorded (task_in j) (Wait (task_in rest)) (record (core_of false s) { workers = slice_set (map worker_of s.workers.items) w (after_stop (Wait (task_in rest)) (worker_of v)) })
    core-is = λ i. record {
      plan = arc_value (p.plan i);
      workers = workers i;
      begun = origins_of (p.nodes i);
      answers = map (answer_of (arc_value (p.plan i))) (p.given i);
      runs = p.runs i;
      spent = false;
    }
      where
        workers : map worker_of next.workers.items ≡ slice_set (map worker_of s.workers.items) w (after_stop (Wait (task_in rest)) (worker_of v))
        workers =
            ap (map worker_of) p.workers
            ∙ workers-moved s next t none w v (record v { current = None; stalled = v.stalled ++ rest ∷ [] }) there j current (Wait (task_in rest)) stops.next (ap (λ r. record { current = None; deque = map task_in v.deque; stalled = r }) (map-end v.stalled rest))

    pub wait-goes : StepsTo (Run w) s next
    wait-goes =
        goes (Run w) s next t none (ap arc_value p.plan)
        (run-step s next t none w v (record v { current = None; stalled = v.stalled ++ rest ∷ [] }) there j current (Wait (task_in rest)) stops.next core-is).happens
        (carry-workers _ _ _ _ p.nodes p.workers (everywhere-set (AreJobs s.nodes.items) s.workers.items w (record v { current = None; stalled = v.stalled ++ rest ∷ [] }) jobs t.workers))
        (carry-nodes _ _ _ _ _ _ (ap arc_value p.plan) p.given p.nodes t.nodes) (carry-root _ _ _ _ _ _ (ap arc_value p.plan) p.given p.root t.root)
