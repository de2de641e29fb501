-- No origin is begun twice, and one that has no answer stands at one place.
use Rattle.std.proofs.Common.{◌≡◌, ℕ, zero, suc, ◌+◌, ◌*◌, ◌≤◌, ◌⊎◌, inl, inr, Bool, true, false, List, [], ◌∷◌, ◌++◌, Some, Contains, slice_get, refl, sym, ap, ◌∙◌, subst, arith}
use Rattle.serial_meaning.specs.Plan.{PlanView}
use Rattle.serial_meaning.specs.Eval.{main_origin}
use Rattle.serial_meaning.specs.Laws.{IsOriginOf, Main}
use Rattle.serial_meaning.specs.declared.origin.Origin.{Origin}
use Rattle.strand_meaning.specs.Clear.{IsClearPlan}
use Rattle.strand_meaning.specs.Task.{Task, start, Stop, Spawn, Wait, End}
use Rattle.strand_meaning.specs.Sound.{IsTask}
use Rattle.strand_meaning.proofs.SoundSteps.StepsKeepTasks.{tasks_begin}
use Rattle.sched_meaning.specs.Core.{Worker, Core, resumed_task, current_tasks, tasks_of, all_tasks, origins_of, answered, IsAnswered}
use Rattle.sched_meaning.specs.Same.{same_origin}
use Rattle.sched_meaning.specs.Sound.{OccursOnce}
use Rattle.sched_meaning.proofs.Segments.Weights.{next, next-comes, FewerAfter, after-stop, weight, stop_weight, weight-stop}
use Rattle.sched_meaning.proofs.Segments.Counted.{nothing, segments, at-least-one}
use Rattle.sched_meaning.proofs.BegunOnce.Regions.{Region, not-own, AreApart, StopRegion, stop-region, on-region}
use Rattle.sched_meaning.proofs.BegunOnce.Changing.{total, total-append, total-map, total-flat}
use Rattle.sched_meaning.proofs.BegunOnce.Loads.{load}
use Rattle.sched_meaning.proofs.KeptByEvents.Kept.{IsKept, by_origin}
use Rattle.sched_meaning.proofs.OneCore.OneStep.{some-one}
use Rattle.sched_meaning.proofs.BegunOnce.Begun.{one_if, is_it, is-it, is-that, find-some, contains-counts, answered-or}

-- Below a task

module _ (q : Origin) where
  -- how often a task and all below it begin this origin
  abbrev begins : Task → ℕ
  begins t = weight 0 (is_it q) t

  -- not at all, or once where it is in the task's region
  abbrev AtMostOnce : Task → Type 0
  AtMostOnce t = (begins t ≡ 0) ⊎ ((begins t ≡ 1) × Region t q)

  abbrev Within : ℕ → Type 0
  Within n = (t : Task) → IsTask t → t.waiting ≡ false → segments t ≤ n → AtMostOnce t

  spawn-once : (t : Task) (c : Origin) (rest : Task) → AreApart t.origin t.remaining c rest → begins t ≡ 0 + (is_it q c + (begins (start rest.plan c) + begins rest)) → AtMostOnce (start rest.plan c) → AtMostOnce rest → AtMostOnce t
  spawn-once t c rest a e = by_child (is_it q c) refl
    where
      by_child : (n : ℕ) → is_it q c ≡ n → AtMostOnce (start rest.plan c) → AtMostOnce rest → AtMostOnce t
      by_child zero i (inl x) (inl y) = inl (omega arith)
      by_child zero i (inl x) (inr y) = inr (omega (arith, y.0), a.later q y.1)
      by_child zero i (inr x) (inl y) = inr (omega (arith, x.0), a.below q x.1)
      by_child zero i (inr x) (inr y) = absurd (a.apart q x.1 y.1)
      by_child (suc n) i (inr x) y = absurd (not-own rest.plan c (subst (λ (p : Origin). Region (start rest.plan c) p) (is-that q c n i) x.1))
      by_child (suc n) i (inl x) (inr y) = absurd (a.not_later (subst (λ (p : Origin). Region rest p) (is-that q c n i) y.1))
      by_child (suc n) i (inl x) (inl y) =
          let s : q ≡ c = is-that q c n i in
          let one : is_it q c ≡ 1 = ap (is_it q) (sym s) ∙ is-it q in inr (omega arith, subst (λ (p : Origin). Region t p) (sym s) a.own)

  module _ (t : Task) (is : IsTask t) (idle : t.waiting ≡ false) where
    by-stop : (n k : ℕ) (stop : Stop) → Within n → StopRegion t stop → FewerAfter t.plan t.origin k stop → segments t ≡ stop_weight 1 nothing stop → begins t ≡ stop_weight 0 (is_it q) stop → segments t ≤ suc n → AtMostOnce t
    by-stop n k (End out ended) go r b e f s = inl f
    by-stop n k (Wait rest) go r b e f s = from (go (resumed_task rest) b.0.task b.0.idle (omega arith))
      where
        from : AtMostOnce (resumed_task rest) → AtMostOnce t
        from (inl x) = inl (omega arith)
        from (inr x) = inr (omega (arith, x.0), r q (on-region rest q x.1))
    by-stop n k (Spawn child rest) go r b e f s =
        let known : IsOriginOf rest.plan child = subst (λ (p : PlanView). IsOriginOf p child) (sym b.2.plan_is) b.0 in
        spawn-once t child rest r f (go (start rest.plan child) (tasks_begin rest.plan child known b.2.task.clear) refl (omega arith)) (go rest b.2.task b.2.idle (omega arith))

  once-within : (n : ℕ) → Within n
  once-within zero t is idle small =
      let e : segments t ≡ stop_weight 1 nothing (next t) = weight-stop 1 nothing t (next t) is idle (next-comes t) in let one = at-least-one (next t) in absurd (omega arith)
  once-within (suc n) t is idle small =
      by-stop t is idle n _ (next t) (once-within n) (stop-region t (next t) is (next-comes t))
      (after-stop t.plan t.origin t (next t) (record { task = is; idle = idle; plan_is = refl; origin_is = refl }) (next-comes t)) (weight-stop 1 nothing t (next t) is idle (next-comes t))
      (weight-stop 0 (is_it q) t (next t) is idle (next-comes t)) small

  -- main's origin is none of those below it
  main-once : (plan : PlanView) → IsClearPlan plan → is_it q (main_origin plan) + begins (start plan (main_origin plan)) ≤ 1
  main-once plan clear = from (is_it q (main_origin plan)) refl (once-within (segments (start plan (main_origin plan))) (start plan (main_origin plan)) (tasks_begin plan (main_origin plan) Main clear) refl (omega arith))
    where
      one-at-most : (b : Bool) → one_if b ≤ 1
      one-at-most true = omega arith
      one-at-most false = omega arith

      from : (n : ℕ) → is_it q (main_origin plan) ≡ n → AtMostOnce (start plan (main_origin plan)) → is_it q (main_origin plan) + begins (start plan (main_origin plan)) ≤ 1
      from n i (inl x) = let o : is_it q (main_origin plan) ≤ 1 = one-at-most (same_origin q (main_origin plan)) in omega arith
      from zero i (inr x) = omega (arith, x.0)
      from (suc n) i (inr x) = absurd (not-own plan (main_origin plan) (subst (λ (p : Origin). Region (start plan (main_origin plan)) p) (is-that q (main_origin plan) n i) x.1))

-- Lists in which it stands once

get-total : {A : Type 0} (f : A → ℕ) (xs : List A) (k : ℕ) (x : A) → slice_get xs k ≡ Some x → f x ≤ total f xs
get-total f [] k x h = absurd (cc)
get-total f (y ∷ xs) zero x h = let e : f y ≡ f x = ap f (some-one y x h) in omega arith
get-total f (y ∷ xs) (suc k) x h = let e : f x ≤ total f xs = get-total f xs k x h in omega arith

one-place : (q : Origin) (os : List Origin) (j k : ℕ) → total (is_it q) os ≤ 1 → slice_get os j ≡ Some q → slice_get os k ≡ Some q → j ≡ k
one-place q [] j k h a b = absurd (cc)
one-place q (o ∷ os) zero zero h a b = refl
one-place q (o ∷ os) zero (suc k) h a b =
    let e : is_it q o ≡ 1 = ap (is_it q) (some-one o q a) ∙ is-it q in let f : is_it q q ≤ total (is_it q) os = get-total (is_it q) os k q b in let g : is_it q q ≡ 1 = is-it q in absurd (omega arith)
one-place q (o ∷ os) (suc j) zero h a b =
    let e : is_it q o ≡ 1 = ap (is_it q) (some-one o q b) ∙ is-it q in let f : is_it q q ≤ total (is_it q) os = get-total (is_it q) os j q a in let g : is_it q q ≡ 1 = is-it q in absurd (omega arith)
one-place q (o ∷ os) (suc j) (suc k) h a b = ap suc (one-place q os j k (omega arith) a b)

stands-once : (q : Origin) (os : List Origin) → total (is_it q) os ≡ 1 → OccursOnce q os
stands-once q os h =
    let s = find-some (is_it q) os 0 h in
    let there : slice_get os s.at ≡ Some q = s.there ∙ ap (λ x. Some x) (sym (is-that q s.value s.more s.is)) in
    record { place = s.at; there = there; alone = λ k e. one-place q os k s.at (omega arith) e there }

-- Cores

module _ (plan : PlanView) (c : Core) (is : IsKept plan [] c) (clear : IsClearPlan plan) where
  begun-once : (q : Origin) → total (is_it q) c.begun ≤ 1
  begun-once q = less _ _ (is.left 0 (is_it q)) (main-once q plan clear)
    where
      less : (x m : ℕ) → 0 * c.runs + (total (is_it q) c.begun + x) ≡ m → m ≤ 1 → total (is_it q) c.begun ≤ 1
      less x m e f = let z : 0 * c.runs ≡ 0 = omega arith in omega arith

  pub never-twice : (q : Origin) (j k : ℕ) → slice_get c.begun j ≡ Some q → slice_get c.begun k ≡ Some q → j ≡ k
  never-twice q j k a b = one-place q c.begun j k (begun-once q) a b

  tasks-load : (h : Origin → ℕ) (w : Worker) → total (by_origin h) (tasks_of w) ≡ load (by_origin h) w
  tasks-load h w =
      let a : total (by_origin h) (current_tasks w.current ++ w.deque ++ w.stalled) ≡ total (by_origin h) (current_tasks w.current ++ w.deque) + total (by_origin h) w.stalled = total-append (by_origin h) (current_tasks w.current ++ w.deque) w.stalled in
      let b : total (by_origin h) (current_tasks w.current ++ w.deque) ≡ total (by_origin h) (current_tasks w.current) + total (by_origin h) w.deque = total-append (by_origin h) (current_tasks w.current) w.deque in sums _ _ _ _ _ a b
    where
      sums : (x y z v u : ℕ) → x ≡ y + z → y ≡ v + u → x ≡ v + (u + z)
      sums x y z v u e f = omega arith

  all-load : (h : Origin → ℕ) (ws : List Worker) → total (λ w. total (by_origin h) (tasks_of w)) ws ≡ total (load (by_origin h)) ws
  all-load h [] = refl
  all-load h (w ∷ ws) =
      let e : total (by_origin h) (tasks_of w) ≡ load (by_origin h) w = tasks-load h w in let f : total (λ w. total (by_origin h) (tasks_of w)) ws ≡ total (load (by_origin h)) ws = all-load h ws in sums e f
    where
      sums : {i j k l : ℕ} → i ≡ j → k ≡ l → i + k ≡ j + l
      sums e f = omega arith

  pub placed : (q : Origin) → Contains c.begun q → (IsAnswered c q → ⊥) → OccursOnce q (origins_of (all_tasks c))
  placed q begun not_yet = stands-once q (origins_of (all_tasks c)) (by_answer (answered-or c q))
    where
      whole : total (is_it q) (origins_of (all_tasks c)) ≡ total (load (by_origin (is_it q))) c.workers
      whole =
          total-map (is_it q) (λ (t : Task). t.origin) (all_tasks c) ∙ total-flat (by_origin (is_it q)) tasks_of c.workers ∙ all-load (is_it q) c.workers

      by_answer : IsAnswered c q ⊎ (total (is_it q) (answered c) ≡ 0) → total (is_it q) (origins_of (all_tasks c)) ≡ 1
      by_answer (inl a) = absurd (not_yet a)
      by_answer (inr n) = one _ _ _ (begun-once q) (contains-counts q c.begun begun) (is.same (is_it q)) n whole
        where
          one : (b x y : ℕ) → b ≤ 1 → 1 ≤ b → b ≡ x + (y + 0) → x ≡ 0 → total (is_it q) (origins_of (all_tasks c)) ≡ y → total (is_it q) (origins_of (all_tasks c)) ≡ 1
          one b x y f g e z h = omega arith
