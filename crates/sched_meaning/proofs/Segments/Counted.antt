-- A task comes to a number of segments, which is its weight where each stop weighs one, and to no other number.
use Rattle.std.proofs.Common.{◌≡◌, ℕ, zero, suc, ◌+◌, ◌≤◌, false, refl, sym, ap, ◌∙◌, subst, arith}
use Rattle.script_check.specs.Valid.{IsValid}
use Rattle.serial_meaning.specs.Plan.{PlanView}
use Rattle.serial_meaning.specs.Eval.{main_origin}
use Rattle.serial_meaning.specs.Laws.{IsOriginOf, Main}
use Rattle.serial_meaning.specs.declared.origin.Origin.{Origin}
use Rattle.strand_meaning.specs.Task.{Task, start, Stop, Spawn, Wait, End, IsNext}
use Rattle.strand_meaning.specs.Sound.{IsTask}
use Rattle.strand_meaning.proofs.NextStops.OneSoundStop.{stops_are_unique}
use Rattle.strand_meaning.proofs.SoundSteps.StepsKeepTasks.{tasks_begin}
use Rattle.strand_meaning.proofs.ClearPlans.ClearOfValid.{clear_of_valid}
use Rattle.sched_meaning.specs.Core.{resumed_task}
use Rattle.sched_meaning.specs.Segments.{ComesToStops, Ends, Waits, Spawns, IsSegments}
use Rattle.sched_meaning.proofs.Segments.Weights.{next, next-comes, FewerAfter, after-stop, weight, stop_weight, weight-stop}

-- every child weighs nothing where it is begun
abbrev pub nothing : Origin → ℕ
nothing o = 0

abbrev pub segments : Task → ℕ
segments t = weight 1 nothing t

-- a number for each sound task in no wait that weighs at most so much
abbrev Within : ℕ → Type 0
Within n = (t : Task) → IsTask t → t.waiting ≡ false → segments t ≤ n → ComesToStops t (segments t)

pub at-least-one : (stop : Stop) → 1 ≤ stop_weight 1 nothing stop
at-least-one (Spawn child rest) = omega arith
at-least-one (Wait rest) = omega arith
at-least-one (End out ended) = omega arith

module _ (t : Task) (is : IsTask t) (idle : t.waiting ≡ false) where
  by-stop : (n k : ℕ) (stop : Stop) → Within n → IsNext t stop → FewerAfter t.plan t.origin k stop → segments t ≡ stop_weight 1 nothing stop → segments t ≤ suc n → ComesToStops t (segments t)
  by-stop n k (End out ended) go i b e s = Ends out ended i e
  by-stop n k (Wait rest) go i b e s = Waits rest (segments (resumed_task rest)) i (go (resumed_task rest) b.0.task b.0.idle (omega arith)) e
  by-stop n k (Spawn child rest) go i b e s =
      let known : IsOriginOf rest.plan child = subst (λ (p : PlanView). IsOriginOf p child) (sym b.2.plan_is) b.0 in
      Spawns child rest (segments (start rest.plan child)) (segments rest) i
      (go (start rest.plan child) (tasks_begin rest.plan child known b.2.task.clear) refl (omega arith)) (go rest b.2.task b.2.idle (omega arith)) (omega arith)

  next-weighs : segments t ≡ stop_weight 1 nothing (next t)
  next-weighs = weight-stop 1 nothing t (next t) is idle (next-comes t)

comes-within : (n : ℕ) → Within n
comes-within zero t is idle small = let e = next-weighs t is idle in let one = at-least-one (next t) in absurd (omega arith)
comes-within (suc n) t is idle small =
    by-stop t is idle n _ (next t) (comes-within n) (next-comes t) (after-stop t.plan t.origin t (next t) (record { task = is; idle = idle; plan_is = refl; origin_is = refl }) (next-comes t))
    (next-weighs t is idle) small

pub segments-come : (t : Task) → IsTask t → t.waiting ≡ false → ComesToStops t (segments t)
segments-come t is idle = comes-within (segments t) t is idle (omega arith)

pub main-comes : (plan : PlanView) → IsValid plan.script → IsSegments plan (segments (start plan (main_origin plan)))
main-comes plan valid = segments-come (start plan (main_origin plan)) (tasks_begin plan (main_origin plan) Main (clear_of_valid plan valid)) refl

pub segments_exist : (plan : PlanView) → IsValid plan.script → (n : ℕ) × IsSegments plan n
segments_exist plan valid = (segments (start plan (main_origin plan)), main-comes plan valid)

-- There is no other number.

wait-one : (t u : Task) → Wait t ≡ Wait u → t ≡ u
wait-one t u h = cc

child-one : (c d : Origin) (t u : Task) → Spawn c t ≡ Spawn d u → c ≡ d
child-one c d t u h = cc

rest-one : (c d : Origin) (t u : Task) → Spawn c t ≡ Spawn d u → t ≡ u
rest-one c d t u h = cc

pub segments_are_unique : (t : Task) (n m : ℕ) → ComesToStops t n → ComesToStops t m → n ≡ m
segments_are_unique t n m (Ends out ended i e) (Ends other over j f) = e ∙ sym f
segments_are_unique t n m (Ends out ended i e) (Waits rest later j d f) = let s : End out ended ≡ Wait rest = stops_are_unique t _ _ i j in absurd (cc)
segments_are_unique t n m (Ends out ended i e) (Spawns child rest below later j b d f) = let s : End out ended ≡ Spawn child rest = stops_are_unique t _ _ i j in absurd (cc)
segments_are_unique t n m (Waits rest later i d e) (Ends out ended j f) = let s : Wait rest ≡ End out ended = stops_are_unique t _ _ i j in absurd (cc)
segments_are_unique t n m (Waits rest later i d e) (Waits other after j g f) =
    let r : rest ≡ other = wait-one rest other (stops_are_unique t _ _ i j) in
    let s : later ≡ after = segments_are_unique (resumed_task rest) later after d (subst (λ (u : Task). ComesToStops (resumed_task u) after) (sym r) g) in e ∙ ap (λ k. 1 + k) s ∙ sym f
segments_are_unique t n m (Waits rest later i d e) (Spawns child other below after j b g f) = let s : Wait rest ≡ Spawn child other = stops_are_unique t _ _ i j in absurd (cc)
segments_are_unique t n m (Spawns child rest below later i b d e) (Ends out ended j f) = let s : Spawn child rest ≡ End out ended = stops_are_unique t _ _ i j in absurd (cc)
segments_are_unique t n m (Spawns child rest below later i b d e) (Waits other after j g f) = let s : Spawn child rest ≡ Wait other = stops_are_unique t _ _ i j in absurd (cc)
segments_are_unique t n m (Spawns child rest below later i b d e) (Spawns kid other under after j k g f) =
    let same : Spawn child rest ≡ Spawn kid other = stops_are_unique t _ _ i j in
    let r : rest ≡ other = rest-one child kid rest other same in
    let o : child ≡ kid = child-one child kid rest other same in
    let first : ComesToStops (start rest.plan child) under = subst (λ (u : Task). ComesToStops (start u.plan child) under) (sym r) (subst (λ (c : Origin). ComesToStops (start other.plan c) under) (sym o) k) in
    let second : ComesToStops rest after = subst (λ (u : Task). ComesToStops u after) (sym r) g in
    sum e f (segments_are_unique (start rest.plan child) below under b first) (segments_are_unique rest later after d second)
  where
    sum : {x y z w : ℕ} → n ≡ 1 + (x + z) → m ≡ 1 + (y + w) → x ≡ y → z ≡ w → n ≡ m
    sum p q r s = omega arith
