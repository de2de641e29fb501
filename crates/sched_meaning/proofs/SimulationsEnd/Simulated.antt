-- One worker at most answers the root in a simulation: a step of a seed leads to one core, and after the root's answer nothing is picked.
use Rattle.std.proofs.Common.{◌≡◌, ℕ, zero, suc, ◌+◌, ◌<◌, ◌≤◌, Bool, true, false, cond, ◌&&◌, not, nat_lt, List, [], ◌∷◌, Option, Some, None, MatchOption, filter, refl, sym, ap, ◌∙◌, subst, arith}
use Rattle.std.proofs.lemmas.Bool.Decides.{nat_tests}
use Rattle.dotmix.specs.Words.{seed_word}
use Rattle.serial_meaning.specs.Plan.{PlanView}
use Rattle.serial_meaning.specs.Eval.{main_origin}
use Rattle.sched_meaning.specs.Core.{Core, IsRootAnswered}
use Rattle.sched_meaning.specs.Simulation.{is_progress, is_choice, all_events, picked_of, picked, StepsByWord, Simulates, IsSimWorker}
use Rattle.sched_meaning.specs.Steps.{Step}
use Rattle.sched_meaning.specs.declared.event.CoreEvent.{CoreEvent}
use Rattle.sched_meaning.specs.declared.event.CoreEvent.TheVariants.{Run}
use Rattle.sched_meaning.proofs.OneCore.OneStep.{steps_are_unique, some-one}
use Rattle.sched_meaning.proofs.WorkGoesOn.Choosing.{answered-is}

filter-none : {A : Type 0} (test : A → Bool) → ((x : A) → test x ≡ false) → (xs : List A) → filter test xs ≡ []
filter-none test h [] = refl
filter-none test h (x ∷ xs) = ap (λ b. cond b (x ∷ filter test xs) (filter test xs)) (h x) ∙ filter-none test h xs

nothing-picked : (c : Core) (w : ℕ) → IsRootAnswered c → picked c w ≡ None
nothing-picked c w a = ap (λ l. picked_of l w) (filter-none (is_choice c) (λ e. ap (λ b. not b && is_progress c e) (answered-is c (main_origin c.plan) a)) (all_events c))

module _ (c x y : Core) where
  matched-one : (o : Option CoreEvent) → MatchOption o (x ≡ c) (λ e. Step e c x) → MatchOption o (y ≡ c) (λ e. Step e c y) → x ≡ y
  matched-one None p q = p ∙ sym q
  matched-one (Some e) p q = steps_are_unique e c x y p q

module _ (plan : PlanView) (workers number : ℕ) where
  abbrev Led : ℕ → Core → Type 0
  Led n c = Simulates plan workers number n c

  led-one : (n : ℕ) (c d : Core) → Led n c → Led n d → c ≡ d
  led-one zero c d p q = p ∙ sym q
  led-one (suc n) c d p q =
      let same : p.0 ≡ q.0 = led-one n p.0 q.0 p.1 q.1 in
      let goes : StepsByWord number (n + 1) q.0 c = subst (λ (b : Core). StepsByWord number (n + 1) b c) same p.2 in matched-one q.0 c d (picked q.0 (seed_word number (n + 1))) goes q.2

  stays : (n : ℕ) (c : Core) → Led n c → IsRootAnswered c → (m : ℕ) (d : Core) → n ≤ m → Led m d → d ≡ c
  stays n c led a zero d h l = let e : n ≡ 0 = omega arith in led-one 0 d c l (subst (λ k. Led k c) e led)
  stays n c led a (suc m) d h l = by_test (nat_lt m n) refl (stays n c led a m l.0)
    where
      by_test : (b : Bool) → nat_lt m n ≡ b → (n ≤ m → Led m l.0 → l.0 ≡ c) → d ≡ c
      by_test true t later = let e : n ≡ suc m = grind (arith, nat_tests) in led-one (suc m) d c l (subst (λ k. Led k c) e led)
      by_test false t later =
          let same : l.0 ≡ c = later (grind (arith, nat_tests)) l.1 in
          let done : IsRootAnswered l.0 = subst IsRootAnswered (sym same) a in
          let still : d ≡ l.0 = subst (λ o. MatchOption o (d ≡ l.0) (λ e. Step e l.0 d)) (nothing-picked l.0 (seed_word number (m + 1)) done) l.2 in still ∙ same

  run-one : (v w : ℕ) → Run v ≡ Run w → v ≡ w
  run-one v w h = cc

  ends-there : (w : ℕ) (p : IsSimWorker plan workers number w) → Led (suc p.steps) p.after
  ends-there w p = (p.before, p.so_far, subst (λ o. MatchOption o (p.after ≡ p.before) (λ e. Step e p.before p.after)) (sym p.picks) p.step)

  not-before : (v w : ℕ) (p : IsSimWorker plan workers number v) (q : IsSimWorker plan workers number w) → p.steps < q.steps → ⊥
  not-before v w p q h =
      let same : q.before ≡ p.after = stays (suc p.steps) p.after (ends-there v p) p.answers q.steps q.before (omega arith) q.so_far in q.unanswered (subst IsRootAnswered (sym same) p.answers)

  pub sim_workers_are_unique : (v w : ℕ) → IsSimWorker plan workers number v → IsSimWorker plan workers number w → v ≡ w
  sim_workers_are_unique v w p q = by_tests (nat_lt p.steps q.steps) (nat_lt q.steps p.steps) refl refl
    where
      by_tests : (a b : Bool) → nat_lt p.steps q.steps ≡ a → nat_lt q.steps p.steps ≡ b → v ≡ w
      by_tests true b s t = absurd (not-before v w p q (grind (arith, nat_tests)))
      by_tests false true s t = absurd (not-before w v q p (grind (arith, nat_tests)))
      by_tests false false s t =
          let e : p.steps ≡ q.steps = grind (arith, nat_tests) in
          let same : p.before ≡ q.before = led-one q.steps p.before q.before (subst (λ k. Led k p.before) e p.so_far) q.so_far in
          let first : picked q.before (seed_word number (q.steps + 1)) ≡ Some (Run v) = subst (λ (b : Core). picked b (seed_word number (q.steps + 1)) ≡ Some (Run v)) same (subst (λ k. picked p.before (seed_word number (k + 1)) ≡ Some (Run v)) e p.picks) in
          run-one v w (some-one (Run v) (Run w) (sym first ∙ q.picks))
