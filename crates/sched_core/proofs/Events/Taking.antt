-- Events by which a task goes from one place to another: the core takes the machine's step, and keeps its invariant.
use Rattle.std.specs.Arc.{arc_value}
use Rattle.std.proofs.Common.{◌≡◌, ℕ, zero, suc, Bool, true, false, ◌&&◌, not, List, [], ◌∷◌, ◌++◌, Option, Some, None, Contains, slice_get, slice_set, map, is_some, refl, sym, ap, ◌∙◌, subst}
use Rattle.script_check.specs.Valid.{IsValid}
use Rattle.serial_meaning.specs.Answer.{AnswerView}
use Rattle.serial_meaning.specs.Eval.{main_origin}
use Rattle.serial_meaning.specs.Plan.{PlanView}
use Rattle.serial_meaning.specs.declared.origin.Origin.{Origin}
use Rattle.strand_meaning.specs.Task.{Task}
use Rattle.sched_meaning.specs.Core as machine
use Rattle.sched_meaning.specs.Simulation.{has_task, is_free}
use Rattle.sched_meaning.specs.Steps.{Changes, Happens, Leads, Step, WorkerGives, WorkerPops, WorkerTakes}
use Rattle.sched_meaning.specs.declared.event.CoreEvent.{CoreEvent}
use Rattle.sched_meaning.specs.declared.event.CoreEvent.TheVariants.{Idle, Pop, Steal}
use Rattle.sched_meaning.proofs.OneCore.OneStep.{some-one}
use Rattle.sched_core.specs.Cores.{answer_of, core_of, current_in, origins_of, plan_of, task_in, worker_of}
use Rattle.sched_core.specs.Lawful.{may_happen, may_idle}
use Rattle.sched_core.specs.Moves.{PopsBack, PopsFront, SetsCurrent, WorkerChanges}
use Rattle.sched_core.specs.Consistent.{AreJobs, AreNodes, AreWorkers, Everywhere, StepsTo, IsAnsweredBy, IsJob, IsConsistent}
use Rattle.sched_core.specs.Workers.{WorkerView}
use Rattle.sched_core.specs.declared.job.Job.{Job}
use Rattle.sched_core.specs.declared.node.SpawnNode.{SpawnNode}
use Rattle.sched_core.specs.declared.state.CoreState.{CoreState}
use Rattle.sched_core.proofs.Worked.Lists.{everywhere-front, everywhere-last, everywhere-set, get-map, get-other, get-set, map-set, set-set}

-- The origins that were answered

pub given-origins : (plan : PlanView) (os : List Origin) → map (λ (a : AnswerView). a.origin) (map (answer_of plan) os) ≡ os
given-origins plan [] = refl
given-origins plan (o ∷ os) = ap (λ l. o ∷ l) (given-origins plan os)

pub is-answered : (spent : Bool) (s : CoreState) (o : Origin) → Contains s.given o → machine.IsAnswered (core_of spent s) o
is-answered spent s o h = subst (λ l. Contains l o) (sym (given-origins (plan_of s) s.given)) h

pub was-given : (spent : Bool) (s : CoreState) (o : Origin) → machine.IsAnswered (core_of spent s) o → Contains s.given o
was-given spent s o h = subst (λ l. Contains l o) (given-origins (plan_of s) s.given) h

-- while there is no answer of main's
pub unanswered : (s : CoreState) → IsConsistent s → s.root ≡ None → machine.IsRootAnswered (core_of false s) → ⊥
unanswered s t none a = subst (λ (r : Option AnswerView). IsAnsweredBy (plan_of s) s.given (main_origin (plan_of s)) r) none t.root (was-given false s (main_origin (plan_of s)) a)

-- A step

pub carry-nodes : (p q : PlanView) (g h : List Origin) (n m : List SpawnNode) → p ≡ q → g ≡ h → n ≡ m → AreNodes q h m → AreNodes p g n
carry-nodes p q g h n m a b c x = subst (λ l. AreNodes p g l) (sym c) (subst (λ l. AreNodes p l m) (sym b) (subst (λ l. AreNodes l h m) (sym a) x))

pub carry-root : (p q : PlanView) (g h : List Origin) (r u : Option AnswerView) → p ≡ q → g ≡ h → r ≡ u → IsAnsweredBy q h (main_origin q) u → IsAnsweredBy p g (main_origin p) r
carry-root p q g h r u a b c x = subst (λ l. IsAnsweredBy p g (main_origin p) l) (sym c) (subst (λ l. IsAnsweredBy p l (main_origin p) u) (sym b) (subst (λ l. IsAnsweredBy l h (main_origin l) u) (sym a) x))

pub carry-workers : (n m : List SpawnNode) (ws vs : List WorkerView) → n ≡ m → ws ≡ vs → AreWorkers m vs → AreWorkers n ws
carry-workers n m ws vs a b x = subst (λ l. AreWorkers n l) (sym b) (subst (λ l. AreWorkers l vs) (sym a) x)

-- The plan is unchanged, and the next core keeps the invariant.
pub goes : (e : CoreEvent) (s next : CoreState) → IsConsistent s → s.root ≡ None → plan_of next ≡ plan_of s → Happens e (core_of false s) (core_of false next) →
    AreWorkers next.nodes.items next.workers.items → AreNodes (plan_of next) next.given next.nodes.items → IsAnsweredBy (plan_of next) next.given (main_origin (plan_of next)) next.root → StepsTo e s next
goes e s next t none plan happens workers nodes root = record { step = step; consistent = consistent }
  where
    step : Step e (core_of false s) (core_of false next)
    step = record { unanswered = unanswered s t none; happens = happens }

    consistent : IsConsistent next
    consistent = record {
      valid = subst (λ (p : PlanView). IsValid p.script) (sym plan) t.valid;
      led = record { workers = t.led.workers; events = e ∷ t.led.events; leads = (core_of false s, subst (λ (p : PlanView). Leads p t.led.workers t.led.events (core_of false s)) (sym plan) t.led.leads, step) };
      workers = workers;
      nodes = nodes;
      root = root;
    }

-- Two changes of one worker

pub record Both (n : ℕ) (R S : WorkerView → WorkerView → Type 0) (ws last : List WorkerView) : Type 0 where
  pub worker : WorkerView
  pub mid : WorkerView
  pub after : WorkerView
  pub there : slice_get ws n ≡ Some worker
  pub first : R worker mid
  pub second : S mid after
  pub next_is : last ≡ slice_set ws n after

pub both : (n : ℕ) (R S : WorkerView → WorkerView → Type 0) (ws mid last : List WorkerView) → WorkerChanges n R ws mid → WorkerChanges n S mid last → Both n R S ws last
both n R S ws mid last p q = record {
  worker = p.worker;
  mid = p.after;
  after = q.after;
  there = p.there;
  first = p.does;
  second = subst (λ v. S v q.after) (sym same) q.does;
  next_is = q.next_is ∙ ap (λ l. slice_set l n q.after) p.next_is ∙ set-set ws n p.after q.after;
}
  where
    same : p.after ≡ q.worker
    same = some-one p.after q.worker (sym (ap (λ l. slice_get l n) p.next_is ∙ get-set ws n p.worker p.after p.there) ∙ q.there)

-- Where only workers change

-- the rest is unchanged
pub record Keeps (s next : CoreState) : Type 0 where
  pub plan : next.plan ≡ s.plan
  pub nodes : next.nodes.items ≡ s.nodes.items
  pub given : next.given ≡ s.given
  pub root : next.root ≡ s.root
  pub runs : next.runs ≡ s.runs

pub core-keeps : (s next : CoreState) → Keeps s next → core_of false next ≡ record (core_of false s) { workers = map worker_of next.workers.items }
core-keeps s next k = λ i. record {
  plan = arc_value (k.plan i);
  workers = map worker_of next.workers.items;
  begun = origins_of (k.nodes i);
  answers = map (answer_of (arc_value (k.plan i))) (k.given i);
  runs = k.runs i;
  spent = false;
}

pub moves : (e : CoreEvent) (s next : CoreState) → IsConsistent s → s.root ≡ None → Keeps s next → Happens e (core_of false s) (core_of false next) →
    AreWorkers s.nodes.items next.workers.items → StepsTo e s next
moves e s next t none k happens workers =
    goes e s next t none (ap arc_value k.plan) happens (subst (λ l. AreWorkers l next.workers.items) (sym k.nodes) workers) (carry-nodes _ _ _ _ _ _ (ap arc_value k.plan) k.given k.nodes t.nodes) (carry-root _ _ _ _ _ _ (ap arc_value k.plan) k.given k.root t.root)

-- a worker's change, in the machine's words
pub changed : (n : ℕ) (R : WorkerView → WorkerView → Type 0) (S : machine.Worker → machine.Worker → Type 0) (c : machine.Core) (ws next : List WorkerView) →
    c.workers ≡ map worker_of ws → (p : WorkerChanges n R ws next) → S (worker_of p.worker) (worker_of p.after) → Changes n S c (record c { workers = map worker_of next })
changed n R S c ws next e p does = record {
  worker = worker_of p.worker;
  after = worker_of p.after;
  there = ap (λ l. slice_get l n) e ∙ get-map worker_of ws n p.worker p.there;
  does = does;
  next_is = ap (λ l. record c { workers = l }) (ap (map worker_of) p.next_is ∙ map-set worker_of ws n p.after ∙ ap (λ l. slice_set l n (worker_of p.after)) (sym e));
}

-- a worker that is free has no current task
not-some : {A : Type 0} (o : Option A) → not (is_some o) ≡ true → o ≡ None
not-some None h = refl
not-some (Some x) h = absurd (cc)

pub free-none : (ws : List WorkerView) (n : ℕ) (w : WorkerView) → slice_get ws n ≡ Some w → is_free (slice_get (map worker_of ws) n) ≡ true → current_in w.current ≡ None
free-none ws n w h f = not-some (current_in w.current) (subst (λ o. is_free o ≡ true) (get-map worker_of ws n w h) f)

-- Jobs of a worker

pub map-end : (js : List Job) (j : Job) → map task_in (js ++ j ∷ []) ≡ map task_in js ++ task_in j ∷ []
map-end [] j = refl
map-end (i ∷ js) j = ap (λ l. task_in i ∷ l) (map-end js j)

gives : (j : Job) (w next : WorkerView) → PopsFront j w next → WorkerGives (task_in j) (worker_of w) (worker_of next)
gives j w next p = record {
  front = ap (map task_in) p.0;
  current = ap (λ (v : WorkerView). current_in v.current) p.1;
  stalled = ap (λ (v : WorkerView). map task_in v.stalled) p.1;
}

takes : (j : Job) (w next : WorkerView) → current_in w.current ≡ None → SetsCurrent j w next → WorkerTakes (task_in j) (worker_of w) (worker_of next)
takes j w next free p = record { free = free; after = ap worker_of p }

-- The task at a worker's deque's back becomes current.
module _ (s next : CoreState) (t : IsConsistent s) (none : s.root ≡ None) (k : Keeps s next) (w : ℕ) (j : Job) (free : is_free (slice_get (map worker_of s.workers.items) w) ≡ true) where
  module _ (b : Both w (PopsBack j) (SetsCurrent j) s.workers.items next.workers.items) where
    back-is : b.worker.deque ≡ b.mid.deque ++ j ∷ []
    back-is = b.first.0

    popped : b.after ≡ record b.worker { current = Some j; deque = b.mid.deque }
    popped = b.second ∙ ap (λ (v : WorkerView). record v { current = Some j }) b.first.1

    pops : WorkerPops (task_in j) (worker_of b.worker) (worker_of b.after)
    pops = record {
      free = free-none s.workers.items w b.worker b.there free;
      back = ap (map task_in) back-is ∙ map-end b.mid.deque j ∙ ap (λ (v : WorkerView). map task_in v.deque ++ task_in j ∷ []) (sym popped);
      current = ap (λ (v : WorkerView). current_in v.current) popped;
      stalled = ap (λ (v : WorkerView). map task_in v.stalled) popped;
    }

    jobs : AreJobs s.nodes.items b.after
    jobs =
        let old : AreJobs s.nodes.items b.worker = t.workers w b.worker b.there in
        let all : Everywhere (IsJob s.nodes.items) (b.mid.deque ++ j ∷ []) = subst (Everywhere (IsJob s.nodes.items)) back-is old.deque in
        subst (AreJobs s.nodes.items) (sym popped) (record {
          current = everywhere-last (IsJob s.nodes.items) b.mid.deque j all;
          deque = everywhere-front (IsJob s.nodes.items) b.mid.deque (j ∷ []) all;
          stalled = old.stalled;
        })

    change : WorkerChanges w (λ v x. WorkerPops (task_in j) (worker_of v) (worker_of x)) s.workers.items next.workers.items
    change = record { worker = b.worker; after = b.after; there = b.there; does = pops; next_is = b.next_is }

    pub pop-goes : StepsTo (Pop w) s next
    pop-goes =
        moves (Pop w) s next t none k
        (record {
          task = task_in j;
          pops = subst (Changes w (WorkerPops (task_in j)) (core_of false s)) (sym (core-keeps s next k))
              (changed w (λ v x. WorkerPops (task_in j) (worker_of v) (worker_of x)) (WorkerPops (task_in j)) (core_of false s) s.workers.items next.workers.items refl change change.does);
        })
        (subst (AreWorkers s.nodes.items) (sym b.next_is) (everywhere-set (AreJobs s.nodes.items) s.workers.items w b.after jobs t.workers))

-- A steal

jobs-give : (nodes : List SpawnNode) (j : Job) (w next : WorkerView) → PopsFront j w next → AreJobs nodes w → IsJob nodes j × AreJobs nodes next
jobs-give nodes j w next p is = (first, rest)
  where
    all : Everywhere (IsJob nodes) (j ∷ next.deque)
    all = subst (Everywhere (IsJob nodes)) p.0 is.deque

    first : IsJob nodes j
    first = all zero j refl

    others : Everywhere (IsJob nodes) next.deque
    others k x h = all (suc k) x h

    rest : AreJobs nodes next
    rest = subst (AreJobs nodes) (sym p.1) (record { current = is.current; deque = others; stalled = is.stalled })

module _ (s next : CoreState) (t : IsConsistent s) (none : s.root ≡ None) (k : Keeps s next) (thief victim : ℕ) (j : Job) (mid : List WorkerView) where
  module _ (two : thief ≡ victim → ⊥) (p : WorkerChanges victim (PopsFront j) s.workers.items mid) (q : WorkerChanges thief (SetsCurrent j) mid next.workers.items) where
    there : slice_get s.workers.items thief ≡ Some q.worker
    there = sym (get-other s.workers.items victim thief p.after two) ∙ ap (λ l. slice_get l thief) (sym p.next_is) ∙ q.there

    given : IsJob s.nodes.items j × AreJobs s.nodes.items p.after
    given = jobs-give s.nodes.items j p.worker p.after p.does (t.workers victim p.worker p.there)

    without : AreWorkers s.nodes.items mid
    without = subst (AreWorkers s.nodes.items) (sym p.next_is) (everywhere-set (AreJobs s.nodes.items) s.workers.items victim p.after given.1 t.workers)

    taken : AreJobs s.nodes.items q.after
    taken =
        let is : AreJobs s.nodes.items q.worker = t.workers thief q.worker there in
        subst (AreJobs s.nodes.items) (sym q.does) (record { current = given.0; deque = is.deque; stalled = is.stalled })

    -- The task at the front of the victim's deque becomes the thief's current one.
    pub steal-goes : is_free (slice_get (map worker_of s.workers.items) thief) ≡ true → StepsTo (Steal thief victim) s next
    steal-goes free =
        moves (Steal thief victim) s next t none k
        (record {
          two = two;
          task = task_in j;
          without = record (core_of false s) { workers = map worker_of mid };
          gives = changed victim (PopsFront j) (WorkerGives (task_in j)) (core_of false s) s.workers.items mid refl p (gives j p.worker p.after p.does);
          takes = subst (Changes thief (WorkerTakes (task_in j)) (record (core_of false s) { workers = map worker_of mid })) (sym (core-keeps s next k))
              (changed thief (SetsCurrent j) (WorkerTakes (task_in j)) (record (core_of false s) { workers = map worker_of mid }) mid next.workers.items refl q
              (takes j q.worker q.after (free-none s.workers.items thief q.worker there free) q.does));
        })
        (subst (AreWorkers s.nodes.items) (sym q.next_is) (everywhere-set (AreJobs s.nodes.items) mid thief q.after taken without))

-- Nothing to do

empty-worker : (current : Option Task) (deque stalled : List Task) → (not (is_some current) && (not (has_task deque) && not (has_task stalled))) ≡ true →
    record { current = current; deque = deque; stalled = stalled } ≡ machine.free_worker
empty-worker None [] [] h = refl
empty-worker None [] (x ∷ stalled) h = absurd (cc)
empty-worker None (x ∷ deque) stalled h = absurd (cc)
empty-worker (Some x) deque stalled h = absurd (cc)

idle-free : (o : Option machine.Worker) → may_idle o ≡ true → o ≡ Some machine.free_worker
idle-free None h = absurd (cc)
idle-free (Some w) h = ap (λ v. Some v) (empty-worker w.current w.deque w.stalled h)

idle-goes : (s : CoreState) → IsConsistent s → s.root ≡ None → (w : ℕ) → may_idle (slice_get (map worker_of s.workers.items) w) ≡ true → StepsTo (Idle w) s s
idle-goes s t none w idle =
    goes (Idle w) s s t none refl (record { free = idle-free (slice_get (map worker_of s.workers.items) w) idle; next_is = refl }) t.workers t.nodes t.root

pub idle-any : (s : CoreState) → IsConsistent s → s.root ≡ None → (e : CoreEvent) (w : ℕ) → e ≡ Idle w → may_happen (core_of false s) e ≡ true → StepsTo e s s
idle-any s t none e w is lawful = subst (λ (d : CoreEvent). StepsTo d s s) (sym is) (idle-goes s t none w (subst (λ (d : CoreEvent). may_happen (core_of false s) d ≡ true) is lawful))
