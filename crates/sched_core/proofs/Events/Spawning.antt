-- A spawn: the child is begun and becomes current.
use Rattle.std.specs.Arc.{arc_value}
use Rattle.std.proofs.Common.{◌≡◌, ℕ, ◌+◌, ◌≤◌, false, List, [], ◌∷◌, ◌++◌, Some, None, Contains, slice_get, slice_set, length, map, refl, sym, ap, ◌∙◌, subst, arith}
use Rattle.strand_meaning.specs.Task.{Task, start, Spawn}
use Rattle.strand_meaning.proofs.NextStops.OneSoundStop.{stops_keep_origins}
use Rattle.strand_machine.specs.AwaitedChildren.{awaited}
use Rattle.serial_meaning.specs.declared.keep.All.{All}
use Rattle.strand_machine.specs.Stops.{IsStop}
use Rattle.strand_machine.specs.Tasks.{TaskView}
use Rattle.strand_machine.specs.declared.stop.Stop.TheVariants as stop
use Rattle.sched_meaning.specs.Steps.{Step, after_stop, recorded}
use Rattle.sched_meaning.specs.declared.event.CoreEvent.TheVariants.{Run}
use Rattle.sched_meaning.proofs.BegunOnce.Begun.{is-it, is_it}
use Rattle.sched_meaning.proofs.BegunOnce.Changing.{total}
use Rattle.sched_meaning.proofs.BegunOnce.Starts.{stops_start}
use Rattle.sched_meaning.proofs.KeptByEvents.Kept.{by_origin}
use Rattle.sched_meaning.proofs.BegunOnce.Loads.{load}
use Rattle.sched_meaning.proofs.OneCore.OneStep.{some-one}
use Rattle.sched_core.specs.Cores.{answer_of, core_of, origins_of, plan_of, task_in, worker_of}
use Rattle.sched_core.specs.Nodes.{awaiting, new_node}
use Rattle.sched_core.specs.Consistent.{AreJobs, Awaits, StepsTo, IsJob, IsLed, IsConsistent}
use Rattle.sched_core.specs.Workers.{WorkerView}
use Rattle.sched_core.specs.declared.job.Job.{Job}
use Rattle.sched_core.specs.declared.node.SpawnNode.{SpawnNode}
use Rattle.sched_core.specs.declared.state.CoreState.{CoreState}
use Rattle.sched_core.proofs.Worked.Lists.{everywhere-end, get-end, get-map, get-set, length-map}
use Rattle.sched_core.proofs.Worked.Others.{get-total, list-stays, not-answered, others-stay}
use Rattle.sched_core.proofs.Worked.Ready.{awaited-same}
use Rattle.sched_core.proofs.Events.Running.{deque-none, going, has, own-job, stalled-none, run-step, workers-moved}
use Rattle.sched_core.proofs.KnownOfNodes.Spawning.{at-new, at-parent, awaits-end, awaits-grow, job-stays, nodes-after, origins-after}
use Rattle.sched_core.proofs.KnownOfNodes.Spawning as spawning
use Rattle.sched_core.proofs.Events.Taking.{carry-nodes, carry-root, carry-workers, goes, is-answered, map-end}

-- what the state is after a spawn
pub record HasSpawned (w : ℕ) (node : SpawnNode) (j child rest : Job) (v : WorkerView) (s next : CoreState) : Type 0 where
  pub workers : next.workers.items ≡ slice_set s.workers.items w (record v { current = Some child; deque = v.deque ++ rest ∷ [] })
  pub nodes : next.nodes.items ≡ slice_set s.nodes.items j.number (awaiting (length s.nodes.items) node)
      ++ new_node (task_in child).origin (Some (record { parent = j.number; place = length node.children })) ∷ []
  pub plan : next.plan ≡ s.plan
  pub given : next.given ≡ s.given
  pub root : next.root ≡ s.root
  pub runs : next.runs ≡ s.runs + 1

module _ (s next : CoreState) (t : IsConsistent s) (none : s.root ≡ None) (w : ℕ) (v : WorkerView) (there : slice_get s.workers.items w ≡ Some v) (j : Job) (current : v.current ≡ Some j) where
  module _ (child rest : Job) (stops : IsStop {K = All} j.task (stop.Spawn child.task rest.task)) (begun : child.number ≡ length s.nodes.items) (number : rest.number ≡ j.number) (node : SpawnNode) (found : slice_get s.nodes.items j.number ≡ Some node)
      (p : HasSpawned w node j child rest v s next) where
    abbrev after : List SpawnNode
    after = spawning.after (plan_of s) s.given s.nodes.items t.nodes j.number node found (task_in child).origin

    own : IsJob s.nodes.items j
    own = own-job s t w v there j current

    keeps : (task_in rest).plan ≡ (task_in j).plan
    keeps = (stops_keep_origins (task_in j) (Spawn (task_in child).origin (task_in rest)) stops.next).0

    -- the child is at its beginning
    child-is : task_in child ≡ start (task_in rest).plan (task_in child).origin
    child-is = ap (λ (x : TaskView). x.task) stops.keeps.0 ∙ ap (λ q. start q (task_in child).origin) (sym keeps)

    child-job : IsJob after child
    child-job = record {
      node = new_node (task_in child).origin (Some (record { parent = j.number; place = length node.children }));
      there = ap (λ m. slice_get after m) begun ∙ at-new (plan_of s) s.given s.nodes.items t.nodes j.number node found (task_in child).origin;
      origin = refl;
      awaits = subst (λ (x : Task). Awaits (origins_of after) [] (awaited x.trace.unmerged)) (sym child-is) tt;
      uncut = ap (λ (x : TaskView). x.cut) stops.keeps.0;
    }

    origins : origins_of after ≡ origins_of s.nodes.items ++ (task_in child).origin ∷ []
    origins = origins-after (plan_of s) s.given s.nodes.items t.nodes j.number node found (task_in child).origin

    same-node : own.node ≡ node
    same-node = some-one own.node node (sym own.there ∙ found)

    starts : awaited (task_in rest).trace.unmerged ≡ awaited (task_in j).trace.unmerged ++ (task_in child).origin ∷ []
    starts =
        sym (awaited-same (task_in rest).trace.unmerged) ∙ (stops_start (task_in j) (Spawn (task_in child).origin (task_in rest)) (going s t w v there j current).0.task stops.next).0
        ∙ ap (λ l. l ++ (task_in child).origin ∷ []) (awaited-same (task_in j).trace.unmerged)

    new-origin : slice_get (origins_of s.nodes.items ++ (task_in child).origin ∷ []) (length s.nodes.items) ≡ Some (task_in child).origin
    new-origin = ap (λ m. slice_get (origins_of s.nodes.items ++ (task_in child).origin ∷ []) m) (sym (length-map (λ (n : SpawnNode). n.origin) s.nodes.items)) ∙ get-end (origins_of s.nodes.items) (task_in child).origin

    rest-awaits : Awaits (origins_of s.nodes.items ++ (task_in child).origin ∷ []) (node.children ++ record { number = length s.nodes.items; answer = None } ∷ []) (awaited (task_in j).trace.unmerged ++ (task_in child).origin ∷ [])
    rest-awaits =
        awaits-end (origins_of s.nodes.items ++ (task_in child).origin ∷ []) node.children (awaited (task_in j).trace.unmerged) (record { number = length s.nodes.items; answer = None }) (task_in child).origin
        (awaits-grow (origins_of s.nodes.items) ((task_in child).origin ∷ []) node.children (awaited (task_in j).trace.unmerged)
        (subst (λ (n : SpawnNode). Awaits (origins_of s.nodes.items) n.children (awaited (task_in j).trace.unmerged)) same-node own.awaits)) new-origin

    rest-job : IsJob after rest
    rest-job = record {
      node = awaiting (length s.nodes.items) node;
      there = ap (λ m. slice_get after m) number ∙ at-parent (plan_of s) s.given s.nodes.items t.nodes j.number node found (task_in child).origin;
      origin = ap (λ (n : SpawnNode). n.origin) (sym same-node) ∙ own.origin ∙ sym (stops_keep_origins (task_in j) (Spawn (task_in child).origin (task_in rest)) stops.next).1;
      awaits = subst (λ b. Awaits b (node.children ++ record { number = length s.nodes.items; answer = None } ∷ []) (awaited (task_in rest).trace.unmerged)) (sym origins)
          (subst (Awaits (origins_of s.nodes.items ++ (task_in child).origin ∷ []) (node.children ++ record { number = length s.nodes.items; answer = None } ∷ [])) (sym starts) rest-awaits);
      uncut = stops.keeps.3;
    }

    grow : (i : Job) → IsJob s.nodes.items i → (i.number ≡ j.number → ⊥) → IsJob after i
    grow = job-stays (plan_of s) s.given s.nodes.items t.nodes j.number node found (task_in child).origin

    jobs : AreJobs after (record v { current = Some child; deque = v.deque ++ rest ∷ [] })
    jobs =
        let old : AreJobs s.nodes.items v = t.workers w v there in
        record {
          current = child-job;
          deque = everywhere-end (IsJob after) v.deque rest (list-stays s t j own after grow v.deque old.deque (deque-none s t w v there j current)) rest-job;
          stalled = list-stays s t j own after grow v.stalled old.stalled (stalled-none s t w v there j current);
        }

    after-is : worker_of (record v { current = Some child; deque = v.deque ++ rest ∷ [] }) ≡ after_stop (Spawn (task_in child).origin (task_in rest)) (worker_of v)
    after-is = λ i. record { current = Some (child-is i); deque = map-end v.deque rest i; stalled = map task_in v.stalled }

    core-is : core_of false next ≡ recorded (task_in j) (Spawn (task_in child).origin (task_in rest)) (record (core_of false s) { workers = slice_set (map worker_of s.workers.items) w (after_stop (Spawn (task_in child).origin (task_in rest)) (worker_of v)) })
    core-is = λ i. record {
      plan = arc_value (p.plan i);
      workers = workers i;
      begun = begun-is i;
      answers = map (answer_of (arc_value (p.plan i))) (p.given i);
      runs = p.runs i;
      spent = false;
    }
      where
        workers : map worker_of next.workers.items ≡ slice_set (map worker_of s.workers.items) w (after_stop (Spawn (task_in child).origin (task_in rest)) (worker_of v))
        workers =
            ap (map worker_of) p.workers
            ∙ workers-moved s next t none w v (record v { current = Some child; deque = v.deque ++ rest ∷ [] }) there j current (Spawn (task_in child).origin (task_in rest)) stops.next after-is

        begun-is : origins_of next.nodes.items ≡ origins_of s.nodes.items ++ (task_in child).origin ∷ []
        begun-is = ap origins_of p.nodes ∙ origins

    step : Step (Run w) (core_of false s) (core_of false next)
    step = run-step s next t none w v (record v { current = Some child; deque = v.deque ++ rest ∷ [] }) there j current (Spawn (task_in child).origin (task_in rest)) stops.next core-is

    led : IsLed (plan_of s) (core_of false next)
    led = record { workers = t.led.workers; events = Run w ∷ t.led.events; leads = (core_of false s, t.led.leads, step) }

    at-worker : slice_get (map worker_of next.workers.items) w ≡ Some (worker_of (record v { current = Some child; deque = v.deque ++ rest ∷ [] }))
    at-worker =
        ap (λ l. slice_get (map worker_of l) w) p.workers
        ∙ get-map worker_of (slice_set s.workers.items w (record v { current = Some child; deque = v.deque ++ rest ∷ [] })) w (record v { current = Some child; deque = v.deque ++ rest ∷ [] })
        (get-set s.workers.items w v (record v { current = Some child; deque = v.deque ++ rest ∷ [] }) there)

    has-child : 1 ≤ load (by_origin (is_it (task_in child).origin)) (worker_of (record v { current = Some child; deque = v.deque ++ rest ∷ [] }))
    has-child = more _ _ (is-it (task_in child).origin)
      where
        more : (b c : ℕ) → is_it (task_in child).origin (task_in child).origin ≡ 1 → 1 ≤ (is_it (task_in child).origin (task_in child).origin + 0) + (b + c)
        more b c e = omega arith

    -- the child wasn't begun before, so no node has its answer
    fresh : Contains s.given (task_in child).origin → ⊥
    fresh g =
        let i : load (by_origin (is_it (task_in child).origin)) (worker_of (record v { current = Some child; deque = v.deque ++ rest ∷ [] })) ≤ total (load (by_origin (is_it (task_in child).origin))) (map worker_of next.workers.items) = get-total (load (by_origin (is_it (task_in child).origin))) (map worker_of next.workers.items) w _ at-worker in
        let h = has-child in
        not-answered (plan_of s) (core_of false next) t.valid led (task_in child).origin (omega (arith, i, h)) (is-answered false next (task_in child).origin (subst (λ l. Contains l (task_in child).origin) (sym p.given) g))

    pub spawn-goes : StepsTo (Run w) s next
    spawn-goes =
        goes (Run w) s next t none (ap arc_value p.plan) step.happens
        (carry-workers _ _ _ _ p.nodes p.workers (others-stay s t j own after grow w v (record v { current = Some child; deque = v.deque ++ rest ∷ [] }) there (has s t w v there j current) jobs))
        (carry-nodes _ _ _ _ _ _ (ap arc_value p.plan) p.given p.nodes (nodes-after (plan_of s) s.given s.nodes.items t.nodes j.number node found (task_in child).origin fresh))
        (carry-root _ _ _ _ _ _ (ap arc_value p.plan) p.given p.root t.root)
