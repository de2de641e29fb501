-- An event leads to one core at most.
use Rattle.std.proofs.Common.{◌≡◌, ℕ, List, [], ◌∷◌, ◌++◌, Some, slice_set, remove, inl, inr, refl, sym, ap, ◌∙◌, subst}
use Rattle.strand_meaning.specs.Task.{Task, Stop, IsNext}
use Rattle.strand_meaning.proofs.NextStops.OneSoundStop.{stops_are_unique}
use Rattle.sched_meaning.specs.Core.{Worker, Core, resumed_task, IsReady}
use Rattle.sched_meaning.specs.Steps.{after_stop, WorkerRuns, WorkerPops, WorkerGives, WorkerTakes, WorkerResumes, WorkerPasses, Changes, recorded, ReachesStop, Steals, Resumes, StaysStalled, Happens, Step}
use Rattle.sched_meaning.specs.declared.event.CoreEvent.{CoreEvent}
use Rattle.sched_meaning.specs.declared.event.CoreEvent.TheVariants.{Run, Pop, Steal, Look, Idle}

pub some-one : {A : Type 0} (x y : A) → Some x ≡ Some y → x ≡ y
some-one x y h = cc

worker-one : (v w : Worker) → v.current ≡ w.current → v.deque ≡ w.deque → v.stalled ≡ w.stalled → v ≡ w
worker-one v w a b c = λ i. record { current = a i; deque = b i; stalled = c i }

last-one : {A : Type 0} (xs ys : List A) (x y : A) → xs ++ x ∷ [] ≡ ys ++ y ∷ [] → (xs ≡ ys) × (x ≡ y)
last-one [] [] x y h = (refl, cc)
last-one [] (b ∷ []) x y h = absurd (cc)
last-one [] (b ∷ c ∷ ys) x y h = absurd (cc)
last-one (a ∷ []) [] x y h = absurd (cc)
last-one (a ∷ c ∷ xs) [] x y h = absurd (cc)
last-one (a ∷ xs) (b ∷ ys) x y h = both (last-one xs ys x y (cc))
  where
    both : (xs ≡ ys) × (x ≡ y) → (a ∷ xs ≡ b ∷ ys) × (x ≡ y)
    both p = let e : xs ≡ ys = p.0 in (cc, p.1)

-- One worker

runs-task : (t u : Task) (s r : Stop) (w a b : Worker) → WorkerRuns t s w a → WorkerRuns u r w b → t ≡ u
runs-task t u s r w a b p q = some-one t u (sym p.current ∙ q.current)

runs-stop : (t u : Task) (s r : Stop) (w a b : Worker) → WorkerRuns t s w a → WorkerRuns u r w b → s ≡ r
runs-stop t u s r w a b p q = stops_are_unique u s r (subst (λ x. IsNext x s) (runs-task t u s r w a b p q) p.comes) q.comes

runs-one : (t u : Task) (s r : Stop) (w a b : Worker) → WorkerRuns t s w a → WorkerRuns u r w b → a ≡ b
runs-one t u s r w a b p q = p.after ∙ ap (λ x. after_stop x w) (runs-stop t u s r w a b p q) ∙ sym q.after

pops-one : (t u : Task) (w a b : Worker) → WorkerPops t w a → WorkerPops u w b → a ≡ b
pops-one t u w a b p q = from (last-one a.deque b.deque t u (sym p.back ∙ q.back))
  where
    from : (a.deque ≡ b.deque) × (t ≡ u) → a ≡ b
    from e = worker-one a b (p.current ∙ ap (λ x. Some x) e.1 ∙ sym q.current) e.0 (p.stalled ∙ sym q.stalled)

gives-task : (t u : Task) (w a b : Worker) → WorkerGives t w a → WorkerGives u w b → t ≡ u
gives-task t u w a b p q = let e : t ∷ a.deque ≡ u ∷ b.deque = sym p.front ∙ q.front in cc

gives-one : (t u : Task) (w a b : Worker) → WorkerGives t w a → WorkerGives u w b → a ≡ b
gives-one t u w a b p q = worker-one a b (p.current ∙ sym q.current) rest (p.stalled ∙ sym q.stalled)
  where
    rest : a.deque ≡ b.deque
    rest = let e : t ∷ a.deque ≡ u ∷ b.deque = sym p.front ∙ q.front in cc

takes-one : (t u : Task) → t ≡ u → (w a b : Worker) → WorkerTakes t w a → WorkerTakes u w b → a ≡ b
takes-one t u e w a b p q = p.after ∙ ap (λ x. record w { current = Some x }) e ∙ sym q.after

resumes-one : (k : ℕ) (t u : Task) (w a b : Worker) → WorkerResumes k t w a → WorkerResumes k u w b → a ≡ b
resumes-one k t u w a b p q =
    p.after ∙ ap (λ x. record w { current = Some (resumed_task x); stalled = remove w.stalled k }) (some-one t u (sym p.there ∙ q.there)) ∙ sym q.after

passes-one : (k : ℕ) (t u : Task) (w a b : Worker) → WorkerPasses k t w a → WorkerPasses k u w b → a ≡ b
passes-one k t u w a b p q = p.after ∙ ap (λ x. record w { stalled = remove w.stalled k ++ x ∷ [] }) (some-one t u (sym p.there ∙ q.there)) ∙ sym q.after

-- The core

module _ (n : ℕ) (R S : Worker → Worker → Type 0) (c x y : Core) (p : Changes n R c x) (q : Changes n S c y) where
  worker-is : p.worker ≡ q.worker
  worker-is = some-one p.worker q.worker (sym p.there ∙ q.there)

  -- what both changes of the worker have in common
  by_worker : {P : Type 0} → ((w a b : Worker) → R w a → S w b → P) → P
  by_worker f = f q.worker p.after q.after (subst (λ v. R v p.after) worker-is p.does) q.does

  changes-one : ((w a b : Worker) → R w a → S w b → a ≡ b) → x ≡ y
  changes-one same =
      p.next_is
      ∙ ap (λ v. record c { workers = slice_set c.workers n v }) (same q.worker p.after q.after (subst (λ v. R v p.after) worker-is p.does) q.does)
      ∙ sym q.next_is

run-one : (w : ℕ) (c x y : Core) → ReachesStop w c x → ReachesStop w c y → x ≡ y
run-one w c x y p q =
    p.next_is
    ∙ ap (λ (t : Task). recorded t p.stop p.moved) (by_worker w _ _ c p.moved q.moved p.runs q.runs (runs-task p.task q.task p.stop q.stop))
    ∙ ap (λ (s : Stop). recorded q.task s p.moved) (by_worker w _ _ c p.moved q.moved p.runs q.runs (runs-stop p.task q.task p.stop q.stop))
    ∙ ap (λ (m : Core). recorded q.task q.stop m) (changes-one w _ _ c p.moved q.moved p.runs q.runs (runs-one p.task q.task p.stop q.stop))
    ∙ sym q.next_is

steal-one : (thief victim : ℕ) (c x y : Core) → Steals thief victim c x → Steals thief victim c y → x ≡ y
steal-one thief victim c x y p q =
    let t : p.task ≡ q.task = by_worker victim _ _ c p.without q.without p.gives q.gives (gives-task p.task q.task) in
    let m : p.without ≡ q.without = changes-one victim _ _ c p.without q.without p.gives q.gives (gives-one p.task q.task) in
    changes-one thief _ _ q.without x y (subst (λ (d : Core). Changes thief (WorkerTakes p.task) d x) m p.takes) q.takes (takes-one p.task q.task t)

resume-one : (w k : ℕ) (c x y : Core) → Resumes w k c x → Resumes w k c y → x ≡ y
resume-one w k c x y p q = changes-one w _ _ c x y p.resumes q.resumes (resumes-one k p.task q.task)

pass-one : (w k : ℕ) (c x y : Core) → StaysStalled w k c x → StaysStalled w k c y → x ≡ y
pass-one w k c x y p q = changes-one w _ _ c x y p.passes q.passes (passes-one k p.task q.task)

pub not-both : (w k : ℕ) (c x y : Core) → Resumes w k c x → StaysStalled w k c y → ⊥
not-both w k c x y p q = q.waits (subst (IsReady c) (by_worker w _ _ c x y p.resumes q.passes same) p.ready)
  where
    same : (v a b : Worker) → WorkerResumes k p.task v a → WorkerPasses k q.task v b → p.task ≡ q.task
    same v a b r s = some-one p.task q.task (sym r.there ∙ s.there)

happens-one : (e : CoreEvent) (c x y : Core) → Happens e c x → Happens e c y → x ≡ y
happens-one (Run w) c x y p q = run-one w c x y p q
happens-one (Pop w) c x y p q = changes-one w _ _ c x y p.pops q.pops (pops-one p.task q.task)
happens-one (Steal thief victim) c x y p q = steal-one thief victim c x y p q
happens-one (Look w k) c x y (inl p) (inl q) = resume-one w k c x y p q
happens-one (Look w k) c x y (inl p) (inr q) = absurd (not-both w k c x y p q)
happens-one (Look w k) c x y (inr p) (inl q) = absurd (not-both w k c y x q p)
happens-one (Look w k) c x y (inr p) (inr q) = pass-one w k c x y p q
happens-one (Idle w) c x y p q = p.next_is ∙ sym q.next_is

pub steps_are_unique : (e : CoreEvent) (c next other : Core) → Step e c next → Step e c other → next ≡ other
steps_are_unique e c next other p q = happens-one e c next other p.happens q.happens
