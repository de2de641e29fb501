-- What each step of the core keeps: its tasks are sound, its answers are evaluations, and two sums over all its tasks stay.
use Rattle.std.proofs.Common.{◌≡◌, ℕ, zero, suc, ◌+◌, ◌*◌, ◌-◌, List, [], ◌∷◌, ◌++◌, Some, inl, inr, slice_get, slice_set, map, replicate, refl, sym, ap, ◌∙◌, subst, arith, mul-add, mul-one}
use Rattle.serial_meaning.specs.Answer.{AnswerView, IsEval}
use Rattle.serial_meaning.specs.Plan.{PlanView}
use Rattle.serial_meaning.specs.Eval.{main_origin}
use Rattle.serial_meaning.specs.Laws.{Main}
use Rattle.serial_meaning.specs.declared.origin.Origin.{Origin}
use Rattle.strand_meaning.specs.Clear.{IsClearPlan}
use Rattle.strand_meaning.specs.Task.{Task, start, Stop, Spawn, Wait, End, IsNext}
use Rattle.strand_meaning.proofs.SoundSteps.StepsKeepTasks.{tasks_begin}
use Rattle.sched_meaning.specs.Core.{Worker, Core, free_worker, new_core, resumed_task, answered}
use Rattle.sched_meaning.specs.Steps.{after_stop, WorkerRuns, WorkerPops, WorkerGives, WorkerTakes, WorkerResumes, WorkerPasses, Changes, recorded, Happens, Step, Leads}
use Rattle.sched_meaning.specs.Steps as steps
use Rattle.sched_meaning.specs.declared.event.CoreEvent.{CoreEvent}
use Rattle.sched_meaning.specs.declared.event.CoreEvent.TheVariants.{Run, Pop, Steal, Look, Idle}
use Rattle.sched_meaning.proofs.Segments.Weights.{weight, stop_weight, weight-stop}
use Rattle.sched_meaning.proofs.BegunOnce.Changing.{total, total-end, total-map, total-set, Each, each-append, each-map, each-get, each-set}
use Rattle.sched_meaning.proofs.BegunOnce.Loads.{load, stop_load, load-stop, load-pops, load-gives, load-takes, load-resumes, load-passes}
use Rattle.sched_meaning.proofs.KeptByEvents.Good.{IsRunning, IsGood, IsLeft, stop-leaves, grow, current-good, good-runs, good-pops, good-given, good-gives, good-takes, good-resumes, good-passes}

abbrev pub IsAnswerOf : PlanView → AnswerView → Type 0
IsAnswerOf plan a = (a.plan ≡ plan) × IsEval plan a.origin a.out a.outcome

-- where an origin weighs so much, the task of such an origin
abbrev pub by_origin : (Origin → ℕ) → Task → ℕ
by_origin h t = h t.origin

-- While a task is stolen it stands in no place: such tasks are told beside the core. Each origin begun is answered or is that of a task,
-- so often as it was begun. And what was begun and what is left to be begun is what main's task begins.
pub record IsKept (plan : PlanView) (out : List Task) (c : Core) : Type 0 where
  pub plan_is : c.plan ≡ plan
  pub workers : Each (IsGood plan c.begun) c.workers
  pub between : Each (IsRunning plan c.begun) out
  pub root : (more : List Origin) × (c.begun ≡ main_origin plan ∷ more)
  pub answers : Each (IsAnswerOf plan) c.answers
  pub same : (h : Origin → ℕ) → total h c.begun ≡ total h (answered c) + (total (load (by_origin h)) c.workers + total (by_origin h) out)
  pub left : (a : ℕ) (h : Origin → ℕ) →
      a * c.runs + (total h c.begun + (total (load (weight a h)) c.workers + total (weight a h) out)) ≡ h (main_origin plan) + weight a h (start plan (main_origin plan))

module _ (plan : PlanView) where
  -- A new core

  free-loads : (f : Task → ℕ) (n : ℕ) → total (load f) (replicate n free_worker) ≡ 0
  free-loads f zero = refl
  free-loads f (suc n) = let h : total (load f) (replicate n free_worker) ≡ 0 = free-loads f n in omega arith

  free-good : (begun : List Origin) (n : ℕ) → Each (IsGood plan begun) (replicate n free_worker)
  free-good begun zero = tt
  free-good begun (suc n) = (record { current = tt; deque = tt; stalled = tt }, free-good begun n)

  pub new-kept : (n : ℕ) → IsClearPlan plan → IsKept plan [] (new_core plan n)
  new-kept n clear = record {
    plan_is = refl;
    workers = (
      record {
        current = (record { task = tasks_begin plan (main_origin plan) Main clear; plan_is = refl; children = tt }, refl);
        deque = tt;
        stalled = tt;
      },
      free-good (main_origin plan ∷ []) (n - 1),
    );
    between = tt;
    root = ([], refl);
    answers = tt;
    same = λ h. (let e : total (load (by_origin h)) (replicate (n - 1) free_worker) ≡ 0 = free-loads (by_origin h) (n - 1) in one _ _ e);
    left = λ a h. (let e : total (load (weight a h)) (replicate (n - 1) free_worker) ≡ 0 = free-loads (weight a h) (n - 1) in two a _ _ _ e);
  }
    where
      one : (x r : ℕ) → r ≡ 0 → x + 0 ≡ 0 + (((x + 0) + (0 + 0) + r) + 0)
      one x r e = omega arith

      two : (a x y r : ℕ) → r ≡ 0 → a * 0 + ((x + 0) + (((y + 0) + (0 + 0) + r) + 0)) ≡ x + y
      two a x y r e = let z : a * 0 ≡ 0 = omega arith in omega arith

  -- A step by which one worker changes and nothing is recorded

  changed-kept : (n : ℕ) (R : Worker → Worker → Type 0) (c next : Core) (p : Changes n R c next) (out after : List Task) → IsKept plan out c →
      IsGood plan c.begun p.after → Each (IsRunning plan c.begun) after → ((f : Task → ℕ) → load f p.after + total f after ≡ load f p.worker + total f out) → IsKept plan after next
  changed-kept n R c next p out after is good between loads = subst (λ (d : Core). IsKept plan after d) (sym p.next_is) (record {
    plan_is = is.plan_is;
    workers = each-set (IsGood plan c.begun) c.workers n p.after good is.workers;
    between = between;
    root = is.root;
    answers = is.answers;
    same = λ h. is.same h ∙ ap (λ x. total h (answered c) + x) (sums (by_origin h));
    left = λ a h. ap (λ x. a * c.runs + (total h c.begun + x)) (sym (sums (weight a h))) ∙ is.left a h;
  })
    where
      sums : (f : Task → ℕ) → total (load f) c.workers + total f out ≡ total (load f) (slice_set c.workers n p.after) + total f after
      sums f =
          let s : total (load f) (slice_set c.workers n p.after) + load f p.worker ≡ total (load f) c.workers + load f p.after = total-set (load f) c.workers n p.worker p.after p.there in
          let e : load f p.after + total f after ≡ load f p.worker + total f out = loads f in omega arith

  worker-good : (n : ℕ) (R : Worker → Worker → Type 0) (c next : Core) (p : Changes n R c next) (out : List Task) → IsKept plan out c → IsGood plan c.begun p.worker
  worker-good n R c next p out is = each-get (IsGood plan c.begun) c.workers n p.worker p.there is.workers

  pops-kept : (w : ℕ) (c next : Core) → steps.Pops w c next → IsKept plan [] c → IsKept plan [] next
  pops-kept w c next s is =
      changed-kept w _ c next s.pops [] [] is (good-pops plan c.begun s.task s.pops.worker s.pops.after s.pops.does (worker-good w _ c next s.pops [] is)) tt
      (λ f. ap (λ x. x + 0) (load-pops f s.task s.pops.worker s.pops.after s.pops.does))

  steals-kept : (thief victim : ℕ) (c next : Core) → steps.Steals thief victim c next → IsKept plan [] c → IsKept plan [] next
  steals-kept thief victim c next s is = take mid
    where
      victim-good : IsGood plan c.begun s.gives.worker
      victim-good = worker-good victim _ c s.without s.gives [] is

      mid : IsKept plan (s.task ∷ []) s.without
      mid = changed-kept victim _ c s.without s.gives [] (s.task ∷ []) is (good-gives plan c.begun s.task s.gives.worker s.gives.after s.gives.does victim-good)
          (good-given plan c.begun s.task s.gives.worker s.gives.after s.gives.does victim-good, tt)
          (λ f. (let e : load f s.gives.after + f s.task ≡ load f s.gives.worker = load-gives f s.task s.gives.worker s.gives.after s.gives.does in omega arith))

      take : IsKept plan (s.task ∷ []) s.without → IsKept plan [] next
      take m = changed-kept thief _ s.without next s.takes (s.task ∷ []) [] m
          (good-takes plan s.without.begun s.task s.takes.worker s.takes.after s.takes.does m.between.0 (worker-good thief _ s.without next s.takes (s.task ∷ []) m)) tt
          (λ f. (let e : load f s.takes.after ≡ load f s.takes.worker + f s.task = load-takes f s.task s.takes.worker s.takes.after s.takes.does in omega arith))

  resumes-kept : (w k : ℕ) (c next : Core) → steps.Resumes w k c next → IsKept plan [] c → IsKept plan [] next
  resumes-kept w k c next s is =
      changed-kept w _ c next s.resumes [] [] is (good-resumes plan c.begun k s.task s.resumes.worker s.resumes.after s.resumes.does (worker-good w _ c next s.resumes [] is)) tt
      (λ f. ap (λ x. x + 0) (load-resumes f k s.task s.resumes.worker s.resumes.after s.resumes.does))

  passes-kept : (w k : ℕ) (c next : Core) → steps.StaysStalled w k c next → IsKept plan [] c → IsKept plan [] next
  passes-kept w k c next s is =
      changed-kept w _ c next s.passes [] [] is (good-passes plan c.begun k s.task s.passes.worker s.passes.after s.passes.does (worker-good w _ c next s.passes [] is)) tt
      (λ f. ap (λ x. x + 0) (load-passes f k s.task s.passes.worker s.passes.after s.passes.does))

  -- A run

  times-more : (a r : ℕ) → a * (r + 1) ≡ a * r + a
  times-more a r = mul-add a r 1 ∙ ap (λ x. a * r + x) (mul-one a)

  module _ (w : ℕ) (c : Core) (worker : Worker) (t : Task) (there : slice_get c.workers w ≡ Some worker) (current : worker.current ≡ Some t) (is : IsKept plan [] c) where
    good : IsGood plan c.begun worker
    good = each-get (IsGood plan c.begun) c.workers w worker there is.workers

    going : IsRunning plan c.begun t
    going = current-good plan c.begun worker t good current

    moved : Stop → Core
    moved stop = record c { workers = slice_set c.workers w (after_stop stop worker) }

    sums : (f : Task → ℕ) (stop : Stop) → total (load f) (slice_set c.workers w (after_stop stop worker)) + f t ≡ total (load f) c.workers + stop_load f stop
    sums f stop =
        let s : total (load f) (slice_set c.workers w (after_stop stop worker)) + load f worker ≡ total (load f) c.workers + load f (after_stop stop worker) = total-set (load f) c.workers w worker (after_stop stop worker) there in
        let e : load f (after_stop stop worker) + f t ≡ load f worker + stop_load f stop = load-stop f worker t stop current in omega arith

    weighs : (a : ℕ) (h : Origin → ℕ) (stop : Stop) → IsNext t stop → weight a h t ≡ stop_weight a h stop
    weighs a h stop n = weight-stop a h t stop going.0.task going.1 n

    abbrev before : (Task → ℕ) → ℕ
    before f = total (load f) c.workers

    abbrev load_after : (Task → ℕ) → Stop → ℕ
    load_after f stop = total (load f) (slice_set c.workers w (after_stop stop worker))

    abbrev all : ℕ → (Origin → ℕ) → ℕ
    all a h = h (main_origin plan) + weight a h (start plan (main_origin plan))

    run-kept : (stop : Stop) → IsNext t stop → IsLeft plan c.begun t stop → IsKept plan [] (recorded t stop (record c { workers = slice_set c.workers w (after_stop stop worker) }))
    run-kept (Spawn child rest) n l = record {
      plan_is = is.plan_is;
      workers = each-set (IsGood plan (c.begun ++ child ∷ [])) c.workers w (after_stop (Spawn child rest) worker) (good-runs plan c.begun worker t (Spawn child rest) good l)
          (each-map (IsGood plan c.begun) (IsGood plan (c.begun ++ child ∷ [])) (λ v g. grow plan c.begun (child ∷ []) v g) c.workers is.workers);
      between = tt;
      root = (is.root.0 ++ child ∷ [], ap (λ l. l ++ child ∷ []) is.root.1);
      answers = is.answers;
      same = λ h. same (h child) (total h c.begun) _ (total h (answered c)) (before (by_origin h)) (load_after (by_origin h) (Spawn child rest)) (h t.origin) (h rest.origin) (total-end h c.begun child) (is.same h) (sums (by_origin h) (Spawn child rest)) (ap h l.2);
      left = λ a h. left a (h child) (total h c.begun) _ (before (weight a h)) (load_after (weight a h) (Spawn child rest)) (weight a h t) (weight a h (start rest.plan child)) (weight a h rest) (a * c.runs) (a * (c.runs + 1)) (all a h) (total-end h c.begun child) (is.left a h) (sums (weight a h) (Spawn child rest)) (weighs a h (Spawn child rest) n) (times-more a c.runs);
    }
      where
        same : (k b d x y z u v : ℕ) → d ≡ b + k → b ≡ x + (y + 0) → z + u ≡ y + (k + v) → v ≡ u → d ≡ x + (z + 0)
        same k b d x y z u v p q r s = omega arith

        left : (a k b d y z u v x r s g : ℕ) → d ≡ b + k → r + (b + (y + 0)) ≡ g → z + u ≡ y + (v + x) → u ≡ a + (k + (v + x)) → s ≡ r + a → s + (d + (z + 0)) ≡ g
        left a k b d y z u v x r s g e f i j m = omega arith
    run-kept (Wait rest) n l = record {
      plan_is = is.plan_is;
      workers = each-set (IsGood plan c.begun) c.workers w (after_stop (Wait rest) worker) (good-runs plan c.begun worker t (Wait rest) good l) is.workers;
      between = tt;
      root = is.root;
      answers = is.answers;
      same = λ h. same (total h c.begun) (total h (answered c)) (before (by_origin h)) (load_after (by_origin h) (Wait rest)) (h t.origin) (h rest.origin) (is.same h) (sums (by_origin h) (Wait rest)) (ap h l.1);
      left = λ a h. left a (total h c.begun) (before (weight a h)) (load_after (weight a h) (Wait rest)) (weight a h t) (weight a h (resumed_task rest)) (a * c.runs) (a * (c.runs + 1)) (all a h) (is.left a h) (sums (weight a h) (Wait rest)) (weighs a h (Wait rest) n) (times-more a c.runs);
    }
      where
        same : (b x y z u v : ℕ) → b ≡ x + (y + 0) → z + u ≡ y + v → v ≡ u → b ≡ x + (z + 0)
        same b x y z u v q r s = omega arith

        left : (a b y z u v r s g : ℕ) → r + (b + (y + 0)) ≡ g → z + u ≡ y + v → u ≡ a + v → s ≡ r + a → s + (b + (z + 0)) ≡ g
        left a b y z u v r s g f i j m = omega arith
    run-kept (End out ended) n l = record {
      plan_is = is.plan_is;
      workers = each-set (IsGood plan c.begun) c.workers w (after_stop (End out ended) worker) (good-runs plan c.begun worker t (End out ended) good l) is.workers;
      between = tt;
      root = is.root;
      answers = each-append (IsAnswerOf plan) c.answers _ is.answers (l, tt);
      same = λ h. same (total h c.begun) (total h (answered c)) _ (before (by_origin h)) (load_after (by_origin h) (End out ended)) (h t.origin) (answers-end h) (is.same h) (sums (by_origin h) (End out ended));
      left = λ a h. left a (total h c.begun) (before (weight a h)) (load_after (weight a h) (End out ended)) (weight a h t) (a * c.runs) (a * (c.runs + 1)) (all a h) (is.left a h) (sums (weight a h) (End out ended)) (weighs a h (End out ended) n) (times-more a c.runs);
    }
      where
        answer : AnswerView
        answer = record { plan = t.plan; origin = t.origin; out = out; outcome = ended }

        answers-end : (h : Origin → ℕ) → total h (map (λ (b : AnswerView). b.origin) (c.answers ++ answer ∷ [])) ≡ total h (answered c) + h t.origin
        answers-end h =
            let p : total h (map (λ (b : AnswerView). b.origin) (c.answers ++ answer ∷ [])) ≡ total (λ (b : AnswerView). h b.origin) (c.answers ++ answer ∷ []) = total-map h (λ (b : AnswerView). b.origin) (c.answers ++ answer ∷ []) in
            let q : total (λ (b : AnswerView). h b.origin) (c.answers ++ answer ∷ []) ≡ total (λ (b : AnswerView). h b.origin) c.answers + h t.origin = total-end (λ (b : AnswerView). h b.origin) c.answers answer in
            let r : total h (answered c) ≡ total (λ (b : AnswerView). h b.origin) c.answers = total-map h (λ (b : AnswerView). b.origin) c.answers in omega arith

        same : (b x d y z u : ℕ) → d ≡ x + u → b ≡ x + (y + 0) → z + u ≡ y + 0 → b ≡ d + (z + 0)
        same b x d y z u p q r = omega arith

        left : (a b y z u r s g : ℕ) → r + (b + (y + 0)) ≡ g → z + u ≡ y + 0 → u ≡ a → s ≡ r + a → s + (b + (z + 0)) ≡ g
        left a b y z u r s g f i j m = omega arith

  runs-kept : (w : ℕ) (c next : Core) → steps.ReachesStop w c next → IsKept plan [] c → IsKept plan [] next
  runs-kept w c next s is =
      let p = s.runs in
      let g : IsRunning plan c.begun s.task = current-good plan c.begun p.worker s.task (worker-good w _ c s.moved p [] is) p.does.current in
      let k = run-kept w c p.worker s.task p.there p.does.current is s.stop p.does.comes (stop-leaves plan c.begun s.task s.stop g p.does.comes) in
      let e : s.moved ≡ record c { workers = slice_set c.workers w (after_stop s.stop p.worker) } = p.next_is ∙ ap (λ v. record c { workers = slice_set c.workers w v }) p.does.after in
      subst (λ (d : Core). IsKept plan [] d) (sym (s.next_is ∙ ap (λ (d : Core). recorded s.task s.stop d) e)) k

  pub step-keeps : (e : CoreEvent) (c next : Core) → Step e c next → IsKept plan [] c → IsKept plan [] next
  step-keeps e c next s is = by_event e s.happens
    where
      by_event : (e : CoreEvent) → Happens e c next → IsKept plan [] next
      by_event (Run w) h = runs-kept w c next h is
      by_event (Pop w) h = pops-kept w c next h is
      by_event (Steal thief victim) h = steals-kept thief victim c next h is
      by_event (Look w k) (inl h) = resumes-kept w k c next h is
      by_event (Look w k) (inr h) = passes-kept w k c next h is
      by_event (Idle w) h = subst (λ (d : Core). IsKept plan [] d) (sym h.next_is) is

  pub leads-keep : (workers : ℕ) (events : List CoreEvent) (c : Core) → IsClearPlan plan → Leads plan workers events c → IsKept plan [] c
  leads-keep workers [] c clear l = subst (λ (d : Core). IsKept plan [] d) (sym l) (new-kept workers clear)
  leads-keep workers (e ∷ es) c clear l = step-keeps e l.0 c l.2 (leads-keep workers es l.0 clear l.1)
