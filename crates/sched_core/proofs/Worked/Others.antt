-- A task stands in one place, so no other job has its number.
use Rattle.std.proofs.Common.{◌≡◌, ℕ, zero, suc, ◌+◌, ◌≤◌, ◌⊎◌, inl, inr, Bool, true, false, List, [], ◌∷◌, Option, Some, None, IfSome, Contains, slice_get, slice_set, map, refl, sym, ap, ◌∙◌, subst, arith}
use Rattle.script_check.specs.Valid.{IsValid}
use Rattle.serial_meaning.specs.Plan.{PlanView}
use Rattle.serial_meaning.specs.declared.origin.Origin.{Origin}
use Rattle.strand_meaning.specs.Task.{Task}
use Rattle.sched_meaning.specs.Core as machine
use Rattle.sched_meaning.specs.Core.{answered, current_tasks, resumed_task}
use Rattle.sched_meaning.specs.Same.{same_origin}
use Rattle.sched_meaning.proofs.BegunOnce.Begun.{contains-counts, find-some, is-it, is-that, is_it, one_if}
use Rattle.sched_meaning.proofs.BegunOnce.Changing.{total}
use Rattle.sched_meaning.proofs.KeptByEvents.Cores as cores
use Rattle.sched_meaning.proofs.KeptByEvents.Kept.{IsKept, by_origin}
use Rattle.sched_meaning.proofs.BegunOnce.Loads.{load}
use Rattle.sched_meaning.proofs.OneCore.OneStep.{some-one}
use Rattle.sched_core.specs.Cores.{core_of, current_in, plan_of, task_in, worker_of}
use Rattle.sched_core.specs.Consistent.{AreJobs, AreWorkers, Everywhere, IsJob, IsLed, IsConsistent}
use Rattle.sched_core.specs.Workers.{WorkerView}
use Rattle.sched_core.specs.declared.job.Job.{Job}
use Rattle.sched_core.specs.declared.node.SpawnNode.{SpawnNode}
use Rattle.sched_core.specs.declared.state.CoreState.{CoreState}
use Rattle.sched_core.proofs.Worked.Lists.{get-map, get-other, get-set, same-or}
use Rattle.sched_core.proofs.Events.Taking.{is-answered}

-- Sums

test-small : (b : Bool) → one_if b ≤ 1
test-small true = omega arith
test-small false = omega arith

once-more : (q o : Origin) (os : List Origin) → ((j k : ℕ) → slice_get (o ∷ os) j ≡ Some q → slice_get (o ∷ os) k ≡ Some q → j ≡ k) → total (is_it q) os ≤ 1 →
    (n m : ℕ) → is_it q o ≡ n → total (is_it q) os ≡ m → is_it q o + total (is_it q) os ≤ 1
once-more q o os h small zero m e f = omega arith
once-more q o os h small (suc n) zero e f = let one : is_it q o ≤ 1 = test-small (same_origin q o) in omega arith
once-more q o os h small (suc n) (suc m) e f =
    let s = find-some (is_it q) os m f in
    let a : slice_get (o ∷ os) 0 ≡ Some q = ap (λ x. Some x) (sym (is-that q o n e)) in
    let b : slice_get (o ∷ os) (suc s.at) ≡ Some q = s.there ∙ ap (λ x. Some x) (sym (is-that q s.value s.more s.is)) in
    let z : 0 ≡ suc s.at = h 0 (suc s.at) a b in absurd (omega arith)

less-one : (j k : ℕ) → suc j ≡ suc k → j ≡ k
less-one j k e = omega arith

once-total : (q : Origin) (os : List Origin) → ((j k : ℕ) → slice_get os j ≡ Some q → slice_get os k ≡ Some q → j ≡ k) → total (is_it q) os ≤ 1
once-total q [] h = omega arith
once-total q (o ∷ os) h = once-more q o os h (once-total q os (λ j k a b. less-one j k (h (suc j) (suc k) a b))) (is_it q o) (total (is_it q) os) refl refl

pub get-total : {A : Type 0} (f : A → ℕ) (xs : List A) (k : ℕ) (x : A) → slice_get xs k ≡ Some x → f x ≤ total f xs
get-total f [] k x h = absurd (cc)
get-total f (y ∷ xs) zero x h = let e : f y ≡ f x = ap f (some-one y x h) in omega arith
get-total f (y ∷ xs) (suc k) x h = let e : f x ≤ total f xs = get-total f xs k x h in omega arith

-- where one has the whole sum, the others have nothing
other-zero : {A : Type 0} (f : A → ℕ) (xs : List A) (n k : ℕ) (x y : A) → total f xs ≤ 1 → slice_get xs n ≡ Some x → 1 ≤ f x → slice_get xs k ≡ Some y → (k ≡ n → ⊥) → f y ≡ 0
other-zero f [] n k x y small a one b two = absurd (cc)
other-zero f (z ∷ xs) zero zero x y small a one b two = absurd (two refl)
other-zero f (z ∷ xs) zero (suc k) x y small a one b two =
    let e : f z ≡ f x = ap f (some-one z x a) in let g : f y ≤ total f xs = get-total f xs k y b in omega arith
other-zero f (z ∷ xs) (suc n) zero x y small a one b two =
    let e : f z ≡ f y = ap f (some-one z y b) in let g : f x ≤ total f xs = get-total f xs n x a in omega arith
other-zero f (z ∷ xs) (suc n) (suc k) x y small a one b two =
    let g : total f xs ≤ 1 = omega arith in other-zero f xs n k x y g a one b (λ e. two (ap suc e))

zero-each : (f : Task → ℕ) (js : List Job) → total f (map task_in js) ≡ 0 → (k : ℕ) (i : Job) → slice_get js k ≡ Some i → f (task_in i) ≡ 0
zero-each f [] e k i h = absurd (cc)
zero-each f (j ∷ js) e zero i h =
    let both : f (task_in j) + total f (map task_in js) ≡ 0 = e in
    let same : f (task_in j) ≡ f (task_in i) = ap (λ x. f (task_in x)) (some-one j i h) in omega arith
zero-each f (j ∷ js) e (suc k) i h = zero-each f js (let both : f (task_in j) + total f (map task_in js) ≡ 0 = e in omega arith) k i h

-- Jobs that have another number

-- how often a worker has a task of this origin
abbrev pub times : Origin → WorkerView → ℕ
times o w = load (by_origin (is_it o)) (worker_of w)

-- The answered origins and those of tasks are begun once.
module _ (plan : PlanView) (c : machine.Core) (valid : IsValid plan.script) (led : IsLed plan c) where
  kept : IsKept plan [] c
  kept = cores.kept plan led.workers led.events c valid led.leads

  pub in-all : (o : Origin) → total (is_it o) (answered c) + total (load (by_origin (is_it o))) c.workers ≤ 1
  in-all o = small (total (is_it o) c.begun) (once-total o c.begun (λ j k a b. cores.begun-once plan led.workers led.events c valid led.leads o j k a b)) (kept.same (is_it o))
    where
      small : (b : ℕ) → b ≤ 1 → b ≡ total (is_it o) (answered c) + (total (load (by_origin (is_it o))) c.workers + 0) → total (is_it o) (answered c) + total (load (by_origin (is_it o))) c.workers ≤ 1
      small b f e = omega arith

  -- the origin of a task isn't answered
  pub not-answered : (o : Origin) → 1 ≤ total (load (by_origin (is_it o))) c.workers → machine.IsAnswered c o → ⊥
  not-answered o has a =
      let i : total (is_it o) (answered c) + total (load (by_origin (is_it o))) c.workers ≤ 1 = in-all o in
      let one : 1 ≤ total (is_it o) (answered c) = contains-counts o (answered c) a in absurd (omega arith)

module _ (s : CoreState) (t : IsConsistent s) where
  pub all-once : (o : Origin) → total (load (by_origin (is_it o))) (map worker_of s.workers.items) ≤ 1
  all-once o = let i : total (is_it o) (answered (core_of false s)) + total (load (by_origin (is_it o))) (map worker_of s.workers.items) ≤ 1 = in-all (plan_of s) (core_of false s) t.valid t.led o in omega arith

  -- a worker has a task of an origin once
  pub times-few : (w : ℕ) (v : WorkerView) (o : Origin) → slice_get s.workers.items w ≡ Some v → times o v ≤ 1
  times-few w v o there =
      let i : load (by_origin (is_it o)) (worker_of v) ≤ total (load (by_origin (is_it o))) (map worker_of s.workers.items) = get-total (load (by_origin (is_it o))) (map worker_of s.workers.items) w (worker_of v) (get-map worker_of s.workers.items w v there) in
      let a : total (load (by_origin (is_it o))) (map worker_of s.workers.items) ≤ 1 = all-once o in omega arith

  -- a task of a worker isn't answered
  pub not-given : (w : ℕ) (v : WorkerView) (o : Origin) → slice_get s.workers.items w ≡ Some v → 1 ≤ times o v → Contains s.given o → ⊥
  not-given w v o there has g =
      let i : load (by_origin (is_it o)) (worker_of v) ≤ total (load (by_origin (is_it o))) (map worker_of s.workers.items) = get-total (load (by_origin (is_it o))) (map worker_of s.workers.items) w (worker_of v) (get-map worker_of s.workers.items w v there) in
      not-answered (plan_of s) (core_of false s) t.valid t.led o (omega arith) (is-answered false s o g)

  pub differs : (i j : Job) → IsJob s.nodes.items i → IsJob s.nodes.items j → is_it (task_in j).origin (task_in i).origin ≡ 0 → i.number ≡ j.number → ⊥
  differs i j p q z e = let one : is_it (task_in j).origin (task_in i).origin ≡ 1 = ap (is_it (task_in j).origin) same ∙ is-it (task_in j).origin in absurd (omega arith)
    where
      node : p.node ≡ q.node
      node = some-one p.node q.node (sym p.there ∙ ap (λ n. slice_get s.nodes.items n) e ∙ q.there)

      same : (task_in i).origin ≡ (task_in j).origin
      same = sym p.origin ∙ ap (λ (n : SpawnNode). n.origin) node ∙ q.origin

  -- jobs of other numbers than this job's still are
  module _ (j : Job) (is : IsJob s.nodes.items j) (after : List SpawnNode) (grow : (i : Job) → IsJob s.nodes.items i → (i.number ≡ j.number → ⊥) → IsJob after i) where
    stays : (i : Job) → IsJob s.nodes.items i → is_it (task_in j).origin (task_in i).origin ≡ 0 → IsJob after i
    stays i p z = grow i p (differs i j p is z)

    pub list-stays : (js : List Job) → Everywhere (IsJob s.nodes.items) js → total (by_origin (is_it (task_in j).origin)) (map task_in js) ≡ 0 → Everywhere (IsJob after) js
    list-stays js all z k i h = stays i (all k i h) (zero-each (by_origin (is_it (task_in j).origin)) js z k i h)

    current-stays : (o : Option Job) → IfSome o (IsJob s.nodes.items) → total (by_origin (is_it (task_in j).origin)) (current_tasks (current_in o)) ≡ 0 → IfSome o (IsJob after)
    current-stays None h z = tt
    current-stays (Some i) h z = stays i h (let both : is_it (task_in j).origin (task_in i).origin + 0 ≡ 0 = z in omega arith)

    pub worker-stays : (v : WorkerView) → AreJobs s.nodes.items v → times (task_in j).origin v ≡ 0 → AreJobs after v
    worker-stays v all z = record {
      current = current-stays v.current all.current (first _ _ _ z);
      deque = list-stays v.deque all.deque (second (total (by_origin (is_it (task_in j).origin)) (current_tasks (current_in v.current))) _ _ z);
      stalled = list-stays v.stalled all.stalled (third (total (by_origin (is_it (task_in j).origin)) (current_tasks (current_in v.current))) (total (by_origin (is_it (task_in j).origin)) (map task_in v.deque)) _ z);
    }
      where
        first : (a b c : ℕ) → a + (b + c) ≡ 0 → a ≡ 0
        first a b c e = omega arith

        second : (a b c : ℕ) → a + (b + c) ≡ 0 → b ≡ 0
        second a b c e = omega arith

        third : (a b c : ℕ) → a + (b + c) ≡ 0 → c ≡ 0
        third a b c e = omega arith

    -- a worker that has the job changes, and all others have other jobs
    pub others-stay : (w : ℕ) (v next : WorkerView) → slice_get s.workers.items w ≡ Some v → 1 ≤ times (task_in j).origin v → AreJobs after next → AreWorkers after (slice_set s.workers.items w next)
    others-stay w v next there has jobs k x h = by_number (same-or k w)
      where
        at : slice_get (slice_set s.workers.items w next) w ≡ Some next
        at = get-set s.workers.items w v next there

        by_number : (k ≡ w) ⊎ (k ≡ w → ⊥) → AreJobs after x
        by_number (inl e) = subst (AreJobs after) (some-one next x (sym at ∙ ap (λ n. slice_get (slice_set s.workers.items w next) n) (sym e) ∙ h)) jobs
        by_number (inr two) =
            let old : slice_get s.workers.items k ≡ Some x = sym (get-other s.workers.items w k next two) ∙ h in
            worker-stays x (t.workers k x old)
            (other-zero (load (by_origin (is_it (task_in j).origin))) (map worker_of s.workers.items) w k (worker_of v) (worker_of x) (all-once (task_in j).origin) (get-map worker_of s.workers.items w v there) has
            (get-map worker_of s.workers.items k x old) two)
