-- What holds of the tasks of a worker, and what each step of a worker keeps of it.
use Rattle.std.proofs.Common.{◌≡◌, ℕ, true, false, ◌⊎◌, inl, inr, List, [], ◌∷◌, ◌++◌, Option, Some, None, remove, refl, sym, ◌∙◌, subst}
use Rattle.serial_meaning.specs.Plan.{PlanView}
use Rattle.serial_meaning.specs.Laws.{IsOriginOf}
use Rattle.serial_meaning.specs.Answer.{IsEval}
use Rattle.serial_meaning.specs.declared.origin.Origin.{Origin}
use Rattle.strand_meaning.specs.Task.{Task, start, Stop, Spawn, Wait, End, IsNext}
use Rattle.strand_meaning.specs.Sound.{IsTask}
use Rattle.strand_meaning.specs.Laws.{IsSoundStop, KeepsOrigin, LeavesFewer}
use Rattle.strand_meaning.proofs.SoundSteps.StepsKeepTasks.{tasks_begin}
use Rattle.strand_meaning.proofs.NextStops.StopsLeaveFewer.{stops_fall}
use Rattle.strand_meaning.proofs.NextStops.OneSoundStop.{stops_are_sound, stops_keep_origins}
use Rattle.strand_meaning.proofs.TakenAnswers.AnswersKeepTasks.{answers_keep_tasks, none-unmerged}
use Rattle.sched_meaning.specs.Core.{Worker, awaited, resumed_task}
use Rattle.sched_meaning.specs.Steps.{after_stop, WorkerPops, WorkerGives, WorkerTakes, WorkerResumes, WorkerPasses}
use Rattle.sched_meaning.proofs.BegunOnce.Starts.{IsSmaller, StartsBeforeStop, stops_start, children_in}
use Rattle.sched_meaning.proofs.BegunOnce.Changing.{Each, each-append, each-front, each-back, each-map, each-get, each-remove}

abbrev pub IsIn : {A : Type 0} → List A → A → Type 0
IsIn [] o = ⊥
IsIn (x ∷ xs) o = (x ≡ o) ⊎ IsIn xs o

pub in-front : {A : Type 0} (xs ys : List A) (o : A) → IsIn xs o → IsIn (xs ++ ys) o
in-front [] ys o h = absurd h
in-front (x ∷ xs) ys o (inl h) = inl h
in-front (x ∷ xs) ys o (inr h) = inr (in-front xs ys o h)

pub in-end : {A : Type 0} (xs : List A) (o : A) → IsIn (xs ++ o ∷ []) o
in-end [] o = inl refl
in-end (x ∷ xs) o = inr (in-end xs o)

-- Tasks

-- a child that a task of this origin may wait for: it is smaller, and was begun
abbrev pub IsChild : PlanView → List Origin → Origin → Origin → Type 0
IsChild plan begun o child = IsSmaller plan o child × IsIn begun child

pub record IsTaskOf (plan : PlanView) (begun : List Origin) (t : Task) : Type 0 where
  pub task : IsTask t
  pub plan_is : t.plan ≡ plan
  pub children : Each (IsChild plan begun t.origin) (awaited t)

abbrev pub IsRunning : PlanView → List Origin → Task → Type 0
IsRunning plan begun t = IsTaskOf plan begun t × (t.waiting ≡ false)

abbrev pub IsStalled : PlanView → List Origin → Task → Type 0
IsStalled plan begun t = IsTaskOf plan begun t × (t.waiting ≡ true)

module _ (plan : PlanView) where
  grow-task : (begun more : List Origin) (t : Task) → IsTaskOf plan begun t → IsTaskOf plan (begun ++ more) t
  grow-task begun more t is = record {
    task = is.task;
    plan_is = is.plan_is;
    children = each-map (IsChild plan begun t.origin) (IsChild plan (begun ++ more) t.origin) (λ c h. (h.0, in-front begun more c h.1)) (awaited t) is.children;
  }

  pub begin-going : (begun : List Origin) (t : Task) (child : Origin) → IsTask t → t.plan ≡ plan → IsOriginOf t.plan child → IsRunning plan begun (start t.plan child)
  begin-going begun t child is same known = (record { task = tasks_begin t.plan child known is.clear; plan_is = same; children = tt }, refl)

  pub goes-on : (begun : List Origin) (t : Task) → IsStalled plan begun t → IsRunning plan begun (resumed_task t)
  goes-on begun t is = (
    record {
      task = answers_keep_tasks t is.0.task;
      plan_is = is.0.plan_is;
      children = subst (λ ps. Each (IsChild plan begun t.origin) (children_in ps)) (sym (none-unmerged t is.0.task)) tt;
    },
    refl,
  )

  -- what a stop leaves, with its child begun
  abbrev pub IsLeft : List Origin → Task → Stop → Type 0
  IsLeft begun t (Spawn child rest) = IsRunning plan (begun ++ child ∷ []) (start rest.plan child) × IsRunning plan (begun ++ child ∷ []) rest × (rest.origin ≡ t.origin)
  IsLeft begun t (Wait rest) = IsStalled plan begun rest × (rest.origin ≡ t.origin)
  IsLeft begun t (End out ended) = (t.plan ≡ plan) × IsEval plan t.origin out ended

  pub stop-leaves : (begun : List Origin) (t : Task) (stop : Stop) → IsRunning plan begun t → IsNext t stop → IsLeft begun t stop
  stop-leaves begun t stop is n =
      from stop (stops_are_sound t stop is.0.task n) (stops_keep_origins t stop n) (stops_fall t stop is.0.task is.1 n) (stops_start t stop is.0.task n)
    where
      from : (stop : Stop) → IsSoundStop t stop → KeepsOrigin t stop → LeavesFewer t stop → StartsBeforeStop t stop → IsLeft begun t stop
      from (Spawn child rest) sound same fewer starts =
          let plan_is : rest.plan ≡ plan = same.0 ∙ is.0.plan_is in
          let known : IsOriginOf rest.plan child = subst (λ (p : PlanView). IsOriginOf p child) (sym same.0) sound.0 in
          let small : IsSmaller plan t.origin child = subst (λ (p : PlanView). IsSmaller p t.origin child) is.0.plan_is starts.1 in
          let old : Each (IsChild plan (begun ++ child ∷ []) t.origin) (awaited t) = (grow-task begun (child ∷ []) t is.0).children in
          let all : Each (IsChild plan (begun ++ child ∷ []) t.origin) (awaited t ++ child ∷ []) = each-append (IsChild plan (begun ++ child ∷ []) t.origin) (awaited t) (child ∷ []) old ((small, in-end begun child), tt) in (
            begin-going (begun ++ child ∷ []) rest child sound.1 plan_is known,
            (
              record {
                task = sound.1;
                plan_is = plan_is;
                children = subst (λ (o : Origin). Each (IsChild plan (begun ++ child ∷ []) o) (awaited rest)) (sym same.1) (subst (λ l. Each (IsChild plan (begun ++ child ∷ []) t.origin) l) (sym starts.0) all);
              },
              fewer.1,
            ),
            same.1,
          )
      from (Wait rest) sound same fewer starts = (
        (
          record {
            task = sound;
            plan_is = same.0 ∙ is.0.plan_is;
            children = subst (λ (o : Origin). Each (IsChild plan begun o) (awaited rest)) (sym same.1) (subst (λ l. Each (IsChild plan begun t.origin) l) (sym starts) is.0.children);
          },
          fewer.1,
        ),
        same.1,
      )
      from (End out ended) sound same fewer starts = (is.0.plan_is, subst (λ (p : PlanView). IsEval p t.origin out ended) is.0.plan_is sound.0)

-- Workers

abbrev pub Current : (Task → Type 0) → Option Task → Type 0
Current P None = Unit {0}
Current P (Some t) = P t

-- the current task and those of the deque are in no wait, and the stalled ones stand in one
pub record IsGood (plan : PlanView) (begun : List Origin) (w : Worker) : Type 0 where
  pub current : Current (IsRunning plan begun) w.current
  pub deque : Each (IsRunning plan begun) w.deque
  pub stalled : Each (IsStalled plan begun) w.stalled

module _ (plan : PlanView) where
  pub grow : (begun more : List Origin) (w : Worker) → IsGood plan begun w → IsGood plan (begun ++ more) w
  grow begun more w is = record {
    current = current-grows w.current is.current;
    deque = each-map (IsRunning plan begun) (IsRunning plan (begun ++ more)) (λ t h. (grow-task plan begun more t h.0, h.1)) w.deque is.deque;
    stalled = each-map (IsStalled plan begun) (IsStalled plan (begun ++ more)) (λ t h. (grow-task plan begun more t h.0, h.1)) w.stalled is.stalled;
  }
    where
      current-grows : (o : Option Task) → Current (IsRunning plan begun) o → Current (IsRunning plan (begun ++ more)) o
      current-grows None h = tt
      current-grows (Some t) h = (grow-task plan begun more t h.0, h.1)

  pub current-good : (begun : List Origin) (w : Worker) (t : Task) → IsGood plan begun w → w.current ≡ Some t → IsRunning plan begun t
  current-good begun w t is h = subst (Current (IsRunning plan begun)) h is.current

  -- the origins begun after a stop
  abbrev pub begun_by : List Origin → Stop → List Origin
  begun_by begun (Spawn child rest) = begun ++ child ∷ []
  begun_by begun (Wait rest) = begun
  begun_by begun (End out ended) = begun

  pub good-runs : (begun : List Origin) (w : Worker) (t : Task) (stop : Stop) → IsGood plan begun w → IsLeft plan begun t stop → IsGood plan (begun_by begun stop) (after_stop stop w)
  good-runs begun w t (Spawn child rest) is left =
      let more : IsGood plan (begun ++ child ∷ []) w = grow begun (child ∷ []) w is in
      record { current = left.0; deque = each-append (IsRunning plan (begun ++ child ∷ [])) w.deque (rest ∷ []) more.deque (left.1, tt); stalled = more.stalled }
  good-runs begun w t (Wait rest) is left = record { current = tt; deque = is.deque; stalled = each-append (IsStalled plan begun) w.stalled (rest ∷ []) is.stalled (left.0, tt) }
  good-runs begun w t (End out ended) is left = record { current = tt; deque = is.deque; stalled = is.stalled }

  pub good-pops : (begun : List Origin) (t : Task) (w next : Worker) → WorkerPops t w next → IsGood plan begun w → IsGood plan begun next
  good-pops begun t w next p is =
      let both : Each (IsRunning plan begun) (next.deque ++ t ∷ []) = subst (Each (IsRunning plan begun)) p.back is.deque in
      let last : IsRunning plan begun t = (each-back (IsRunning plan begun) next.deque (t ∷ []) both).0 in
      record {
        current = subst (Current (IsRunning plan begun)) (sym p.current) last;
        deque = each-front (IsRunning plan begun) next.deque (t ∷ []) both;
        stalled = subst (Each (IsStalled plan begun)) (sym p.stalled) is.stalled;
      }

  pub good-given : (begun : List Origin) (t : Task) (w next : Worker) → WorkerGives t w next → IsGood plan begun w → IsRunning plan begun t
  good-given begun t w next p is = (subst (Each (IsRunning plan begun)) p.front is.deque).0

  pub good-gives : (begun : List Origin) (t : Task) (w next : Worker) → WorkerGives t w next → IsGood plan begun w → IsGood plan begun next
  good-gives begun t w next p is = record {
    current = subst (Current (IsRunning plan begun)) (sym p.current) is.current;
    deque = (subst (Each (IsRunning plan begun)) p.front is.deque).1;
    stalled = subst (Each (IsStalled plan begun)) (sym p.stalled) is.stalled;
  }

  pub good-takes : (begun : List Origin) (t : Task) (w next : Worker) → WorkerTakes t w next → IsRunning plan begun t → IsGood plan begun w → IsGood plan begun next
  good-takes begun t w next p going is = subst (IsGood plan begun) (sym p.after) (record { current = going; deque = is.deque; stalled = is.stalled })

  pub good-resumes : (begun : List Origin) (k : ℕ) (t : Task) (w next : Worker) → WorkerResumes k t w next → IsGood plan begun w → IsGood plan begun next
  good-resumes begun k t w next p is =
      subst (IsGood plan begun) (sym p.after)
      (record {
        current = goes-on plan begun t (each-get (IsStalled plan begun) w.stalled k t p.there is.stalled);
        deque = is.deque;
        stalled = each-remove (IsStalled plan begun) w.stalled k is.stalled;
      })

  pub good-passes : (begun : List Origin) (k : ℕ) (t : Task) (w next : Worker) → WorkerPasses k t w next → IsGood plan begun w → IsGood plan begun next
  good-passes begun k t w next p is =
      subst (IsGood plan begun) (sym p.after)
      (record {
        current = is.current;
        deque = is.deque;
        stalled = each-append (IsStalled plan begun) (remove w.stalled k) (t ∷ []) (each-remove (IsStalled plan begun) w.stalled k is.stalled) (each-get (IsStalled plan begun) w.stalled k t p.there is.stalled, tt);
      })
