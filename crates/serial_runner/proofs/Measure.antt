-- How many stops a task and all that it begins come to, where each child is run to its end first. It falls by one with each stop.
use Rattle.std.proofs.Common.{◌≡◌, ℕ, zero, suc, ◌+◌, ◌<◌, ◌≤◌, inl, inr, Bool, true, false, nat_lt, List, [], ◌∷◌, refl, sym, ap, ◌∙◌, subst, arith, if◌then◌else◌}
use Rattle.std.proofs.lemmas.Bool.Decides.{nat_tests}
use Rattle.serial_meaning.specs.Plan.{PlanView}
use Rattle.serial_meaning.specs.Eval.{eval, depth_left}
use Rattle.serial_meaning.specs.Laws.{IsOriginOf}
use Rattle.serial_meaning.specs.declared.origin.Origin.{Origin}
use Rattle.strand_meaning.specs.Clear.{IsClearPlan}
use Rattle.strand_meaning.specs.Task.{Task, start, Stop, Spawn, Wait, End, IsNext, on}
use Rattle.strand_meaning.specs.Rest.{evaluations}
use Rattle.strand_meaning.specs.Left.{stops_left}
use Rattle.strand_meaning.specs.Sound.{IsTask}
use Rattle.strand_meaning.specs.Laws.{IsSoundStop, KeepsOrigin, LeavesFewer}
use Rattle.strand_meaning.proofs.NextStops.TasksReachStops.{stops_exist}
use Rattle.strand_meaning.proofs.SoundSteps.StepsKeepTasks.{tasks_begin}
use Rattle.strand_meaning.proofs.NextStops.StopsLeaveFewer.{stops_fall, answers_leave_no_more}
use Rattle.strand_meaning.proofs.NextStops.OneSoundStop.{stops_are_unique, stops_are_sound, stops_keep_origins}
use Rattle.strand_meaning.proofs.TakenAnswers.AnswersKeepTasks.{answers_keep_tasks}
use Rattle.serial_runner.specs.Stacks.{task_of, IsStack, tasks, tasks_after, StepsStack}
use Rattle.serial_runner.specs.declared.stack.Stack.{Stack}
use Rattle.serial_runner.proofs.Starts.{size_of, IsSmaller, StartsBeforeStop, stops_start}

-- the stop that a task comes to
pub next : Task → Stop
next t = (stops_exist t).0

next-comes : (t : Task) → IsNext t (next t)
unfolding next
next-comes t = (stops_exist t).1

next-is : (t : Task) (stop : Stop) → IsNext t stop → next t ≡ stop
unfolding next
next-is t stop n = stops_are_unique t (stops_exist t).0 stop (stops_exist t).1 n

abbrev after_wait : Task → Task
after_wait t = on (evaluations (eval t.plan) t.trace.unmerged) t

-- this stop, and what comes after it
abbrev with_stop : (Origin → ℕ) → (Task → ℕ) → Stop → ℕ
with_stop child rest (Spawn o t) = suc (child o + rest t)
with_stop child rest (Wait t) = suc (rest (after_wait t))
with_stop child rest (End out ended) = 1

-- within so many stops of its own, where its children come to so many
abbrev stops_within : (Origin → ℕ) → ℕ → Task → ℕ
stops_within child zero t = 0
stops_within child (suc n) t = with_stop child (stops_within child n) (next t)

abbrev all_stops : (Origin → ℕ) → Task → ℕ
all_stops child t = stops_within child (suc (stops_left t)) t

-- A task on which the laws of stops can be used: of this origin of the plan, and in no wait.
record IsAt (plan : PlanView) (o : Origin) (t : Task) : Type 0 where
  task : IsTask t
  idle : t.waiting ≡ false
  plan_is : t.plan ≡ plan
  origin_is : t.origin ≡ o

-- what holds after a stop
abbrev FewerAfter : PlanView → Origin → ℕ → Stop → Type 0
FewerAfter plan o n (Spawn c t) = IsOriginOf plan c × IsSmaller plan o c × IsAt plan o t × (stops_left t < n)
FewerAfter plan o n (Wait t) = IsAt plan o (after_wait t) × (stops_left (after_wait t) < n)
FewerAfter plan o n (End out ended) = Unit {0}

after-stop : (plan : PlanView) (o : Origin) (t : Task) (stop : Stop) → IsAt plan o t → IsNext t stop → FewerAfter plan o (stops_left t) stop
after-stop plan o t stop at n = from stop (stops_are_sound t stop at.task n) (stops_keep_origins t stop n) (stops_fall t stop at.task at.idle n) (stops_start t stop at.task n)
  where
    from : (stop : Stop) → IsSoundStop t stop → KeepsOrigin t stop → LeavesFewer t stop → StartsBeforeStop t stop → FewerAfter plan o (stops_left t) stop
    from (Spawn c r) sound same fewer starts = (
      subst (λ (p : PlanView). IsOriginOf p c) at.plan_is sound.0,
      subst (λ (q : Origin). IsSmaller plan q c) at.origin_is (subst (λ (p : PlanView). IsSmaller p t.origin c) at.plan_is starts.1),
      record { task = sound.1; idle = fewer.1; plan_is = same.0 ∙ at.plan_is; origin_is = same.1 ∙ at.origin_is },
      fewer.0,
    )
    from (Wait r) sound same fewer starts =
        let more : stops_left (after_wait r) ≤ stops_left r = answers_leave_no_more r sound fewer.1 in
        (record { task = answers_keep_tasks r sound; idle = refl; plan_is = same.0 ∙ at.plan_is; origin_is = same.1 ∙ at.origin_is }, less more fewer.0)
      where
        less : {a b c : ℕ} → a ≤ b → b < c → a < c
        less h k = omega arith
    from (End out ended) sound same fewer starts = tt

module _ (plan : PlanView) where
  -- an origin of so many ranks left, where deeper ones come to so many, and where it has less than so many iterations
  abbrev sized : ℕ → (Origin → ℕ) → ℕ → Origin → ℕ
  sized d deeper zero o = 0
  sized d deeper (suc n) o = all_stops (λ c. if nat_lt (depth_left plan c) d then deeper c else sized d deeper n c) (start plan o)

  -- an origin with less than so many ranks left
  abbrev deep : ℕ → Origin → ℕ
  deep zero o = 0
  deep (suc d) o = sized (depth_left plan o) (deep d) (suc (size_of o)) o

  -- an origin, with all that it begins
  pub whole : Origin → ℕ
  whole o = deep (suc (depth_left plan o)) o

module _ (plan : PlanView) (clear : IsClearPlan plan) where
  -- Numbers of the children that agree

  abbrev Agree : Origin → (Origin → ℕ) → (Origin → ℕ) → Type 0
  Agree o f g = (c : Origin) → IsOriginOf plan c → IsSmaller plan o c → f c ≡ g c

  -- enough stops, and the same numbers of the children, give the same
  stops-agree : (o : Origin) (f g : Origin → ℕ) → Agree o f g → (n m : ℕ) (t : Task) → IsAt plan o t → stops_left t < n → stops_left t < m → stops_within f n t ≡ stops_within g m t
  stops-agree o f g same zero m t at h k = absurd (omega arith)
  stops-agree o f g same (suc n) zero t at h k = absurd (omega arith)
  stops-agree o f g same (suc n) (suc m) t at h k = by_stop (next t) (after-stop plan o t (next t) at (next-comes t)) (stops-agree o f g same n m)
    where
      by_stop : (stop : Stop) → FewerAfter plan o (stops_left t) stop → ((u : Task) → IsAt plan o u → stops_left u < n → stops_left u < m → stops_within f n u ≡ stops_within g m u) →
          with_stop f (stops_within f n) stop ≡ with_stop g (stops_within g m) stop
      by_stop (Spawn c u) b later =
          let x : f c ≡ g c = same c b.0 b.1 in let y : stops_within f n u ≡ stops_within g m u = later u b.2 (omega (arith, b.3)) (omega (arith, b.3)) in cong x y
        where
          cong : {a b c d : ℕ} → a ≡ b → c ≡ d → suc (a + c) ≡ suc (b + d)
          cong p q = omega arith
      by_stop (Wait u) b later = ap suc (later (after_wait u) b.0 (omega (arith, b.1)) (omega (arith, b.1)))
      by_stop (End out ended) b later = refl

  begun : (o : Origin) → IsOriginOf plan o → IsAt plan o (start plan o)
  begun o known = record { task = tasks_begin plan o known clear; idle = refl; plan_is = refl; origin_is = refl }

  pub all_agree : (o : Origin) (f g : Origin → ℕ) → IsOriginOf plan o → Agree o f g → all_stops f (start plan o) ≡ all_stops g (start plan o)
  all_agree o f g known same = let n : ℕ = suc (stops_left (start plan o)) in stops-agree o f g same n n (start plan o) (begun o known) (omega arith) (omega arith)

  sized-agree : (d : ℕ) (f g : Origin → ℕ) → ((c : Origin) → IsOriginOf plan c → depth_left plan c < d → f c ≡ g c) →
      (n m : ℕ) (o : Origin) → IsOriginOf plan o → depth_left plan o ≡ d → size_of o < n → size_of o < m → sized plan d f n o ≡ sized plan d g m o
  sized-agree d f g below zero m o known e h k = absurd (omega arith)
  sized-agree d f g below (suc n) zero o known e h k = absurd (omega arith)
  sized-agree d f g below (suc n) (suc m) o known e h k = all_agree o _ _ known (λ c there small. by_test c there small (nat_lt (depth_left plan c) d) refl (sized-agree d f g below n m c there))
    where
      by_test : (c : Origin) → IsOriginOf plan c → IsSmaller plan o c → (b : Bool) → nat_lt (depth_left plan c) d ≡ b →
          (depth_left plan c ≡ d → size_of c < n → size_of c < m → sized plan d f n c ≡ sized plan d g m c) →
          (if b then f c else sized plan d f n c) ≡ (if b then g c else sized plan d g m c)
      by_test c there small true t later = below c there (grind (arith, nat_tests))
      by_test c there (inl lower) false t later = absurd (grind (arith, nat_tests))
      by_test c there (inr same) false t later = later (same.0 ∙ e) (omega (arith, same.1)) (omega (arith, same.1))

  deep-agree : (d e : ℕ) (o : Origin) → IsOriginOf plan o → depth_left plan o < d → depth_left plan o < e → deep plan d o ≡ deep plan e o
  deep-agree zero e o known h k = absurd (omega arith)
  deep-agree (suc d) zero o known h k = absurd (omega arith)
  deep-agree (suc d) (suc e) o known h k =
      sized-agree (depth_left plan o) (deep plan d) (deep plan e) (λ c there lower. deep-agree d e c there (omega arith) (omega arith)) (suc (size_of o)) (suc (size_of o)) o known refl (omega arith) (omega arith)

  whole-is : (o : Origin) → IsOriginOf plan o → whole plan o ≡ all_stops (whole plan) (start plan o)
  unfolding whole
  whole-is o known = all_agree o _ _ known (λ c there small. by_test c there small (nat_lt (depth_left plan c) (depth_left plan o)) refl)
    where
      d : ℕ
      d = depth_left plan o

      by_test : (c : Origin) → IsOriginOf plan c → IsSmaller plan o c → (b : Bool) → nat_lt (depth_left plan c) d ≡ b → (if b then deep plan d c else sized plan d (deep plan d) (size_of o) c) ≡ deep plan (suc (depth_left plan c)) c
      by_test c there small true t = deep-agree d (suc (depth_left plan c)) c there (grind (arith, nat_tests)) (omega arith)
      by_test c there (inl lower) false t = absurd (grind (arith, nat_tests))
      by_test c there (inr same) false t =
          subst (λ (n : ℕ). sized plan n (deep plan n) (size_of o) c ≡ deep plan (suc (depth_left plan c)) c) same.0
          (sized-agree (depth_left plan c) (deep plan (depth_left plan c)) (deep plan (depth_left plan c)) (λ x k l. refl) (size_of o) (suc (size_of c)) c there refl same.1 (omega arith))

-- all stops of a task and of what it begins
pub own_stops : Task → ℕ
own_stops t = all_stops (whole t.plan) t

abbrev pub stops_in_all : List Task → ℕ
stops_in_all [] = 0
stops_in_all (t ∷ ts) = own_stops t + stops_in_all ts

stops-enough : (plan : PlanView) (o : Origin) (t : Task) (n : ℕ) → IsClearPlan plan → IsAt plan o t → stops_left t < n → stops_within (whole plan) n t ≡ own_stops t
unfolding own_stops
stops-enough plan o t n clear at h =
    stops-agree plan clear o (whole plan) (whole plan) (λ c k s. refl) n (suc (stops_left t)) t at h (omega arith) ∙ ap (λ (p : PlanView). all_stops (whole p) t) (sym at.plan_is)

stops-begun : (plan other : PlanView) (o : Origin) → IsClearPlan plan → IsOriginOf plan o → other ≡ plan → whole plan o ≡ own_stops (start other o)
unfolding own_stops
stops-begun plan other o clear known same = whole-is plan clear o known ∙ ap (λ (p : PlanView). all_stops (whole p) (start p o)) (sym same)

-- Each stop leaves one less.
pub one_less_follows : (t : Task) (stop : Stop) (ts : List Task) → IsTask t → t.waiting ≡ false → IsNext t stop → stops_in_all (tasks_after stop ts) < stops_in_all (t ∷ ts)
unfolding own_stops
one_less_follows t stop ts is idle n = less _ _ _ (sym first) (by_stop stop (after-stop t.plan t.origin t stop at n))
  where
    at : IsAt t.plan t.origin t
    at = record { task = is; idle = idle; plan_is = refl; origin_is = refl }

    f : Origin → ℕ
    f = whole t.plan

    first : all_stops f t ≡ with_stop f (stops_within f (stops_left t)) stop
    first = ap (with_stop f (stops_within f (stops_left t))) (next-is t stop n)

    less : (a b c : ℕ) → b ≡ a → c < b + stops_in_all ts → c < a + stops_in_all ts
    less a b c e h = omega arith

    by_stop : (stop : Stop) → FewerAfter t.plan t.origin (stops_left t) stop → stops_in_all (tasks_after stop ts) < with_stop f (stops_within f (stops_left t)) stop + stops_in_all ts
    by_stop (Spawn c u) b = two _ _ _ _ (stops-begun t.plan u.plan c is.clear b.0 b.2.plan_is) (stops-enough t.plan t.origin u (stops_left t) is.clear b.2 b.3)
      where
        two : (x y z w : ℕ) → x ≡ y → z ≡ w → y + (w + stops_in_all ts) < suc (x + z) + stops_in_all ts
        two x y z w e h = omega arith
    by_stop (Wait u) b = one _ _ (stops-enough t.plan t.origin (after_wait u) (stops_left t) is.clear b.0 b.1)
      where
        one : (z w : ℕ) → z ≡ w → w + stops_in_all ts < suc z + stops_in_all ts
        one z w h = omega arith
    by_stop (End out ended) b = omega arith

-- So a stop of a sound stack leaves less.
pub follows_fall : {K : Type 0} (s after : Stack K) → IsStack s → StepsStack s after → stops_in_all (tasks (after.top ∷ after.below)) < stops_in_all (tasks (s.top ∷ s.below))
follows_fall s after is f =
    subst (λ ts. stops_in_all ts < stops_in_all (tasks (s.top ∷ s.below))) (sym f.leaves) (one_less_follows (task_of s.top) f.stop (tasks s.below) is.top.task is.top.idle f.comes)
