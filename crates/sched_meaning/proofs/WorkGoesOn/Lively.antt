-- While the root isn't answered some event goes on with the work: by way of an origin that is begun and not answered, down to one whose
-- task waits for nothing.
use Rattle.std.proofs.Common.{◌≡◌, ℕ, zero, suc, ◌+◌, ◌<◌, ◌≤◌, ◌⊎◌, inl, inr, List, [], ◌∷◌, ◌++◌, Option, Some, None, slice_get, slice_set, remove, refl, sym, ap, ◌∙◌, subst, arith}
use Rattle.serial_meaning.specs.Plan.{PlanView}
use Rattle.serial_meaning.specs.Eval.{depth_left, main_origin}
use Rattle.serial_meaning.specs.declared.origin.Origin.{Origin}
use Rattle.strand_meaning.specs.Task.{Task}
use Rattle.strand_meaning.proofs.NextStops.TasksReachStops.{stops_exist}
use Rattle.sched_meaning.specs.Core.{Worker, Core, current_tasks, resumed_task, awaited, answered, IsAnswered, IsRootAnswered, IsReady}
use Rattle.sched_meaning.specs.Steps.{after_stop, recorded, Resumes}
use Rattle.sched_meaning.specs.Sound.{IsLively}
use Rattle.sched_meaning.specs.declared.event.CoreEvent.TheVariants.{Run, Pop, Look}
use Rattle.sched_meaning.proofs.BegunOnce.Starts.{size_of, IsSmaller}
use Rattle.sched_meaning.proofs.BegunOnce.Changing.{total, each-get}
use Rattle.sched_meaning.proofs.BegunOnce.Loads.{load}
use Rattle.sched_meaning.proofs.KeptByEvents.Good.{IsIn, IsChild, IsStalled, IsGood}
use Rattle.sched_meaning.proofs.KeptByEvents.Kept.{IsKept, by_origin}
use Rattle.sched_meaning.proofs.BegunOnce.Begun.{is_it, is-that, Some_at, find-some, in-counts, answered-or, Unanswered, all-or}

pub record HasBack (xs : List Task) : Type 0 where
  pub rest : List Task
  pub last : Task
  pub is : xs ≡ rest ++ last ∷ []

pub has-back : (t : Task) (ts : List Task) → HasBack (t ∷ ts)
has-back t [] = record { rest = []; last = t; is = refl }
has-back t (u ∷ ts) = let b = has-back u ts in record { rest = t ∷ b.rest; last = b.last; is = ap (λ l. t ∷ l) b.is }

module _ (plan : PlanView) (c : Core) (is : IsKept plan [] c) (open_yet : IsRootAnswered c → ⊥) where
  run-lively : (n : ℕ) (w : Worker) (t : Task) → slice_get c.workers n ≡ Some w → w.current ≡ Some t → IsLively c
  run-lively n w t there current =
      let s = stops_exist t in
      let after : Worker = after_stop s.0 w in
      let mid : Core = record c { workers = slice_set c.workers n after } in
      record {
        event = Run n;
        next = recorded t s.0 mid;
        step = record {
          unanswered = open_yet;
          happens = record {
            task = t;
            stop = s.0;
            moved = mid;
            runs = record { worker = w; after = after; there = there; does = record { current = current; comes = s.1; after = refl }; next_is = refl };
            next_is = refl;
          };
        };
        fruitful = tt;
      }

  pop-lively : (n : ℕ) (w : Worker) (t : Task) (ts : List Task) → slice_get c.workers n ≡ Some w → w.current ≡ None → w.deque ≡ t ∷ ts → IsLively c
  pop-lively n w t ts there free some =
      let b = has-back t ts in
      let after : Worker = record { current = Some b.last; deque = b.rest; stalled = w.stalled } in
      record {
        event = Pop n;
        next = record c { workers = slice_set c.workers n after };
        step = record {
          unanswered = open_yet;
          happens = record {
            task = b.last;
            pops = record { worker = w; after = after; there = there; does = record { free = free; back = some ∙ b.is; current = refl; stalled = refl }; next_is = refl };
          };
        };
        fruitful = tt;
      }

  look-lively : (n k : ℕ) (w : Worker) (t : Task) → slice_get c.workers n ≡ Some w → w.current ≡ None → slice_get w.stalled k ≡ Some t → IsReady c t → IsLively c
  look-lively n k w t there free at ready =
      let after : Worker = record w { current = Some (resumed_task t); stalled = remove w.stalled k } in
      let next : Core = record c { workers = slice_set c.workers n after } in
      let resumes : Resumes n k c next = record { task = t; ready = ready; resumes = record { worker = w; after = after; there = there; does = record { free = free; there = at; after = refl }; next_is = refl } } in
      record {
        event = Look n k;
        next = next;
        step = record { unanswered = open_yet; happens = inl resumes };
        fruitful = (next, resumes);
      }

  -- an origin that is begun and has no answer
  abbrev IsOpen : Origin → Type 0
  IsOpen o = IsIn c.begun o × (total (is_it o) (answered c) ≡ 0)

  abbrev Smaller : Origin → Type 0
  Smaller o = (child : Origin) → IsOpen child → IsSmaller plan o child → IsLively c

  stalled-lively : (o : Origin) (n : ℕ) (w : Worker) → slice_get c.workers n ≡ Some w → w.current ≡ None → Some_at (λ t. is_it o (resumed_task t).origin) w.stalled → Smaller o → IsLively c
  stalled-lively o n w there free s below = by_ready (all-or (IsChild plan c.begun s.value.origin) c (awaited s.value) is-stalled.0.children)
    where
      is-stalled : IsStalled plan c.begun s.value
      is-stalled = each-get (IsStalled plan c.begun) w.stalled s.at s.value s.there (each-get (IsGood plan c.begun) c.workers n w there is.workers).stalled

      by_ready : IsReady c s.value ⊎ Unanswered (IsChild plan c.begun s.value.origin) c → IsLively c
      by_ready (inl ready) = look-lively n s.at w s.value there free s.there ready
      by_ready (inr u) = below u.child (u.is.1, u.open_yet) (subst (λ (p : Origin). IsSmaller plan p u.child) (sym (is-that o s.value.origin s.more s.is)) u.is.0)

  worker-lively : (o : Origin) (n : ℕ) (w : Worker) (k : ℕ) → slice_get c.workers n ≡ Some w → load (by_origin (is_it o)) w ≡ suc k → Smaller o → IsLively c
  worker-lively o n w k there some below = by_current w.current refl
    where
      by_deque : (ts : List Task) → w.current ≡ None → w.deque ≡ ts → IsLively c
      by_deque (t ∷ ts) free e = pop-lively n w t ts there free e
      by_deque [] free e =
          let a : total (by_origin (is_it o)) (current_tasks w.current) ≡ 0 = ap (λ x. total (by_origin (is_it o)) (current_tasks x)) free in
          let b : total (by_origin (is_it o)) w.deque ≡ 0 = ap (λ l. total (by_origin (is_it o)) l) e in
          stalled-lively o n w there free (find-some (λ t. is_it o (resumed_task t).origin) w.stalled k (omega arith)) below

      by_current : (t : Option Task) → w.current ≡ t → IsLively c
      by_current (Some t) e = run-lively n w t there e
      by_current None e = by_deque w.deque e refl

  pending-lively : (o : Origin) → IsOpen o → Smaller o → IsLively c
  pending-lively o pending below = by_load (total (load (by_origin (is_it o))) c.workers) refl
    where
      by_load : (k : ℕ) → total (load (by_origin (is_it o))) c.workers ≡ k → IsLively c
      by_load zero e =
          let s : total (is_it o) c.begun ≡ total (is_it o) (answered c) + (total (load (by_origin (is_it o))) c.workers + 0) = is.same (is_it o) in
          let b : 1 ≤ total (is_it o) c.begun = in-counts o c.begun pending.0 in
          let a : total (is_it o) (answered c) ≡ 0 = pending.1 in absurd (omega arith)
      by_load (suc k) e =
          let s = find-some (load (by_origin (is_it o))) c.workers k e in worker-lively o s.at s.value s.more s.there s.is below

  sized-lively : (d : ℕ) → ((o : Origin) → IsOpen o → depth_left plan o < d → IsLively c) → (n : ℕ) (o : Origin) → IsOpen o → depth_left plan o < suc d → size_of o < n → IsLively c
  sized-lively d deeper zero o pending a b = absurd (omega arith)
  sized-lively d deeper (suc n) o pending a b = pending-lively o pending (λ child h small. by_size child h small (sized-lively d deeper n child h))
    where
      by_size : (child : Origin) → IsOpen child → IsSmaller plan o child → (depth_left plan child < suc d → size_of child < n → IsLively c) → IsLively c
      by_size child h (inl lower) later = deeper child h (omega (arith, lower))
      by_size child h (inr same) later = later (omega (arith, same.0)) (omega (arith, same.1))

  deep-lively : (d : ℕ) (o : Origin) → IsOpen o → depth_left plan o < d → IsLively c
  deep-lively zero o pending a = absurd (omega arith)
  deep-lively (suc d) o pending a = sized-lively d (deep-lively d) (suc (size_of o)) o pending a (omega arith)

  pub lively : IsLively c
  lively = by_root (answered-or c root)
    where
      root : Origin
      root = main_origin plan

      begun : IsIn c.begun root
      begun = subst (λ l. IsIn l root) (sym is.root.1) (inl refl)

      by_root : IsAnswered c root ⊎ (total (is_it root) (answered c) ≡ 0) → IsLively c
      by_root (inl a) = absurd (open_yet (subst (λ (p : PlanView). IsAnswered c (main_origin p)) (sym is.plan_is) a))
      by_root (inr n) = deep-lively (suc (depth_left plan root)) root (begun, n) (omega arith)
