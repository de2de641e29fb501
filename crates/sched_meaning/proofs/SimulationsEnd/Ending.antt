-- Each simulation ends: some worker's run answers the root.
use Rattle.std.proofs.Common.{◌≡◌, ℕ, zero, suc, ◌+◌, ◌%◌, ◌<◌, ◌≤◌, ◌⊎◌, inl, inr, List, [], ◌∷◌, Some, MatchOption, Contains, length, slice_get, map, refl, sym, ap, ◌∙◌, subst, arith}
use Rattle.script_check.specs.Valid.{IsValid}
use Rattle.serial_meaning.specs.Answer.{AnswerView}
use Rattle.dotmix.specs.Words.{seed_word}
use Rattle.serial_meaning.specs.Plan.{PlanView}
use Rattle.serial_meaning.specs.Eval.{main_origin}
use Rattle.strand_meaning.proofs.ClearPlans.ClearOfValid.{clear_of_valid}
use Rattle.sched_meaning.specs.Core.{Worker, Core, new_core, IsRootAnswered, answered}
use Rattle.sched_meaning.specs.Simulation.{choices, picked_of, picked, Simulates, IsSimWorker}
use Rattle.sched_meaning.specs.Steps.{Changes, Happens, Step}
use Rattle.sched_meaning.specs.declared.event.CoreEvent.{CoreEvent}
use Rattle.sched_meaning.specs.declared.event.CoreEvent.TheVariants.{Run, Pop, Steal, Look, Idle}
use Rattle.sched_meaning.proofs.BegunOnce.Begun.{is_it, answered-or, contains-counts}
use Rattle.sched_meaning.proofs.BegunOnce.Changing.{total}
use Rattle.sched_meaning.proofs.WorkGoesOn.Choosing.{Advances, choices_advance, advances-choose}
use Rattle.sched_meaning.proofs.SimulationsEnd.Falling.{work_left, work_falls}
use Rattle.sched_meaning.proofs.KeptByEvents.Kept.{IsKept, new-kept, step-keeps}
use Rattle.sched_meaning.proofs.WorkGoesOn.Lively.{lively}

-- A list that isn't empty has an element at each index below its length.
record Got {A : Type 0} (xs : List A) (k : ℕ) : Type 0 where
  value : A
  is : slice_get xs k ≡ Some value

got : {A : Type 0} (xs : List A) (k : ℕ) → k < length xs → Got xs k
got [] k h = absurd (omega arith)
got (x ∷ xs) zero h = record { value = x; is = refl }
got (x ∷ xs) (suc k) h = let g = got xs k (omega arith) in record { value = g.value; is = g.is }

got-contains : {A : Type 0} (xs : List A) (k : ℕ) (x : A) → slice_get xs k ≡ Some x → Contains xs x
got-contains [] k x h = absurd (cc)
got-contains (y ∷ xs) zero x h = (0, omega arith, cc)
got-contains (y ∷ xs) (suc k) x h = let c = got-contains xs k x h in (suc c.0, omega (arith, c.1), c.2)

below : (w n : ℕ) → w % suc n < suc n
below w n = omega arith

record Picks (c : Core) (w : ℕ) : Type 0 where
  event : CoreEvent
  is : picked c w ≡ Some event
  advances : Advances c event

-- where a choice is, one is picked
picks : (c : Core) (w : ℕ) (e : CoreEvent) → Advances c e → Picks c w
picks c w e a = by_list (choices c) refl (advances-choose c e a)
  where
    by_list : (es : List CoreEvent) → choices c ≡ es → Contains es e → Picks c w
    by_list [] h k = absurd (omega (arith, k.1))
    by_list (f ∷ fs) h k =
        let g = got (f ∷ fs) (w % suc (length fs)) (below w (length fs)) in
        record {
          event = g.value;
          is = ap (λ l. picked_of l w) h ∙ g.is;
          advances = choices_advance c g.value (subst (λ l. Contains l g.value) (sym h) (got-contains (f ∷ fs) (w % suc (length fs)) g.value g.is));
        }

-- No event but a run answers anything.
record IsRunOf (e : CoreEvent) : Type 0 where
  worker : ℕ
  is : e ≡ Run worker

module _ (c next : Core) where
  root-same : next.plan ≡ c.plan → next.answers ≡ c.answers → IsRootAnswered next → IsRootAnswered c
  root-same p a h =
      subst (λ (l : List AnswerView). Contains (map (λ (b : AnswerView). b.origin) l) (main_origin c.plan)) a
      (subst (λ (q : PlanView). Contains (map (λ (b : AnswerView). b.origin) next.answers) (main_origin q)) p h)

  changed-root : (n : ℕ) (R : Worker → Worker → Type 0) → Changes n R c next → IsRootAnswered next → IsRootAnswered c
  changed-root n R p h = root-same (ap (λ (d : Core). d.plan) p.next_is) (ap (λ (d : Core). d.answers) p.next_is) h

answers-by-run : (e : CoreEvent) (c next : Core) → Happens e c next → IsRootAnswered next → (IsRootAnswered c → ⊥) → IsRunOf e
answers-by-run (Run w) c next h a open_yet = record { worker = w; is = refl }
answers-by-run (Pop w) c next h a open_yet = absurd (open_yet (changed-root c next w _ h.pops a))
answers-by-run (Steal thief victim) c next h a open_yet = absurd (open_yet (changed-root c h.without victim _ h.gives (changed-root h.without next thief _ h.takes a)))
answers-by-run (Look w k) c next (inl h) a open_yet = absurd (open_yet (changed-root c next w _ h.resumes a))
answers-by-run (Look w k) c next (inr h) a open_yet = absurd (open_yet (changed-root c next w _ h.passes a))
answers-by-run (Idle w) c next h a open_yet = absurd (open_yet (subst IsRootAnswered h.next_is a))

module _ (plan : PlanView) (workers number : ℕ) where
  -- a worker that answers the root
  abbrev Answers : Type 0
  Answers = (w : ℕ) × IsSimWorker plan workers number w

  -- from each core with at most so much work left
  abbrev AnswersWithin : ℕ → Type 0
  AnswersWithin n = (k : ℕ) (c : Core) → work_left c ≤ n → Simulates plan workers number k c → IsKept plan [] c → (IsRootAnswered c → ⊥) → Answers

  module _ (k : ℕ) (c : Core) (led : Simulates plan workers number k c) (is : IsKept plan [] c) (open_yet : IsRootAnswered c → ⊥) where
    picked-next : Picks c (seed_word number (k + 1))
    picked-next = let l = lively plan c is open_yet in picks c (seed_word number (k + 1)) l.event (l.next, l.step, l.fruitful)

    -- one step further
    further : (n : ℕ) → work_left c ≤ suc n → AnswersWithin n → (p : Picks c (seed_word number (k + 1))) → Answers
    further n small go p = by_root (answered-or p.advances.0 (main_origin p.advances.0.plan))
      where
        less : work_left p.advances.0 < work_left c
        less = work_falls plan p.event c p.advances.0 is p.advances.1 p.advances.2

        by_root : IsRootAnswered p.advances.0 ⊎ (total (is_it (main_origin p.advances.0.plan)) (answered p.advances.0) ≡ 0) → Answers
        by_root (inl a) =
            let r = answers-by-run p.event c p.advances.0 p.advances.1.happens a open_yet in (
              r.worker,
              record {
                steps = k;
                before = c;
                after = p.advances.0;
                so_far = led;
                unanswered = open_yet;
                picks = p.is ∙ ap (λ e. Some e) r.is;
                step = subst (λ e. Step e c p.advances.0) r.is p.advances.1;
                answers = a;
              },
            )
        by_root (inr none) =
            go (suc k) p.advances.0 (let l : work_left p.advances.0 < work_left c = less in omega arith) (c, led, subst (λ o. MatchOption o (p.advances.0 ≡ c) (λ e. Step e c p.advances.0)) (sym p.is) p.advances.1) (step-keeps plan p.event c p.advances.0 p.advances.1 is)
            (λ a. (let one : 1 ≤ total (is_it (main_origin p.advances.0.plan)) (answered p.advances.0) = contains-counts (main_origin p.advances.0.plan) (answered p.advances.0) a in absurd (omega arith)))

  answers-within : (n : ℕ) → AnswersWithin n
  answers-within zero k c small led is open_yet = let l = lively plan c is open_yet in let less : work_left l.next < work_left c = work_falls plan l.event c l.next is l.step l.fruitful in absurd (omega arith)
  answers-within (suc n) k c small led is open_yet = further k c led is open_yet n small (answers-within n) (picked-next k c led is open_yet)

  pub sim_workers_exist : IsValid plan.script → Answers
  sim_workers_exist valid =
      answers-within (work_left (new_core plan workers)) 0 (new_core plan workers) (omega arith) refl (new-kept plan workers (clear_of_valid plan valid)) (λ h. absurd (omega (arith, h.1)))
