-- A turn is an event of the machine of scheduling, on its own worker's part.
use Rattle.std.proofs.Common.{◌≡◌, ◌⊎◌, inl, inr, ℕ, zero, suc, ◌+◌, true, false, Bool, List, [], ◌∷◌, ◌++◌, Option, Some, None, length, map, option_map, slice_get, remove, refl, sym, ap, ◌∙◌, subst, append-nil, append_assoc}
use Rattle.std.proofs.lemmas.List.{map-append, length-append}
use Rattle.serial_meaning.specs.Answer.{AnswerView, AnswerTag}
use Rattle.serial_meaning.specs.declared.answer.Outcome.{Outcome}
use Rattle.serial_meaning.specs.declared.keep.All.{All}
use Rattle.strand_meaning.proofs.NextStops.OneSoundStop.{stops_keep_origins}
use Rattle.strand_meaning.specs.Task.{Task, start, Stop, Spawn, Wait, End}
use Rattle.sched_meaning.specs.Core.{Worker}
use Rattle.sched_meaning.specs.Steps.{WorkerRuns, WorkerPops, WorkerPasses}
use Rattle.steal_deck.specs.Ends.{OwnerEnd, Pops}
use Rattle.strand_machine.specs.Links.{GiveView}
use Rattle.strand_machine.specs.Stops.{IsStop, IsCutEnd, IsCutOn, IsResumed, any_cut, looked, resumed_view, Advances as AdvancesTo}
use Rattle.strand_machine.proofs.NextStops.ByCut.{advances, advances-at}
use Rattle.strand_machine.specs.Tasks.{TaskView}
use Rattle.strand_machine.specs.declared.stop.Stop.{Stop as Stops}
use Rattle.strand_machine.specs.declared.stop.Stop.TheVariants as stop
use Rattle.strand_machine.specs.declared.stop.Resumed.TheVariants as resumed
use Rattle.parallel_runner.specs.Hands.{HandView, IsPut, RunsOnward, EndsTask, AdvancesCurrent, IsNewest, IsTurnedOver, ResumesFirst, Seeks, IsTurn, IsTurnFrom, StaysLast, LastGoesOn, LooksNewest, LooksOldest}
use Rattle.parallel_runner.specs.Ties.{tasks, worker_of, OwnerLeaves, IsEnd, IsNoEnd, RunsTo, EndsByCut, TakesLast, ResumesAt, PassesAt, LooksBefore, IsTied, IsTiedLook, IsTiedLookFirst}
use Rattle.parallel_runner.specs.declared.hand.Looked.{Looked}
use Rattle.parallel_runner.specs.declared.hand.Looked.TheVariants as looked
use Rattle.parallel_runner.specs.declared.hand.Turn.{Turn}
use Rattle.parallel_runner.specs.declared.hand.Turn.TheVariants.{Ran, Answered, Ended, Popped, Resumed, Waiting, Stole, Idle}

-- The worker that a hand is

worker-is : (left : List TaskView) (h : HandView) (current : Option Task) (deque stalled : List Task) →
    option_map (λ t. t.task) h.current ≡ current → tasks left ++ tasks h.overflow ≡ deque → tasks h.stalled ≡ stalled →
    worker_of left h ≡ record { current = current; deque = deque; stalled = stalled }
worker-is left h current deque stalled c d r = rw c (rw d (rw r refl))

abbrev task-of : Option TaskView → Option Task
task-of o = option_map (λ t. t.task) o

-- one task more at the back
pushed : (left : List TaskView) (t : TaskView) (overflow : List TaskView) → overflow ≡ [] → tasks (left ++ t ∷ []) ++ tasks overflow ≡ tasks left ++ t.task ∷ []
pushed left t overflow none = rw none (append-nil (tasks (left ++ t ∷ [])) ∙ map-append (λ t. t.task) left (t ∷ []))

emptied : (left overflow : List TaskView) → overflow ≡ [] → tasks left ++ tasks overflow ≡ tasks left
emptied left overflow none = rw none (append-nil (tasks left))

overflow-more : (left overflow overflow' : List TaskView) (t : TaskView) → overflow' ≡ overflow ++ t ∷ [] → tasks left ++ tasks overflow' ≡ (tasks left ++ tasks overflow) ++ t.task ∷ []
overflow-more left overflow overflow' t more =
    ap (λ l. tasks left ++ tasks l) more
    ∙ ap (λ l. tasks left ++ l) (map-append (λ t. t.task) overflow (t ∷ []))
    ∙ sym (append_assoc (tasks left) (tasks overflow) (t.task ∷ []))

-- Runs

module _ (t : TaskView) (old new : HandView) (now : old.current ≡ Some t) where
  current-was : task-of old.current ≡ Some t.task
  current-was = ap task-of now

  ran-to-spawn : {K : Type 0} (child rest : TaskView) → IsStop {K = K} t (stop.Spawn child rest) → RunsOnward {K = K} (stop.Spawn child rest) old new → RunsTo IsNoEnd old new
  ran-to-spawn child rest at h = (t.task, at-child, (λ (no : ⊥). no), λ left. by left h.0)
    where
      at-child : Stop
      at-child = Spawn child.task.origin rest.task

      child-is : Some child.task ≡ Some (start rest.task.plan child.task.origin)
      child-is =
          ap (λ (x : TaskView). Some x.task) at.keeps.0
          ∙ ap (λ p. Some (start p child.task.origin)) (sym (stops_keep_origins t.task at-child at.next).0)

      is : task-of new.current ≡ Some (start rest.task.plan child.task.origin)
      is = ap (λ (x : HandView). task-of x.current) h.1 ∙ child-is

      stalled-is : tasks new.stalled ≡ tasks old.stalled
      stalled-is = ap (λ (x : HandView). tasks x.stalled) h.1

      by : (left : List TaskView) → IsPut rest old.overflow old.deck new.overflow new.deck →
          (after : List TaskView) × OwnerLeaves old.deck left new.deck after × WorkerRuns t.task at-child (worker_of left old) (worker_of after new)
      by left (inl (none, still, pushes)) = (
        left ++ rest ∷ [],
        inr (inl (rest, pushes, refl)),
        record {
          current = current-was;
          comes = at.next;
          after = worker-is (left ++ rest ∷ []) new _ _ _ is (pushed left rest new.overflow still ∙ ap (λ l. l ++ rest.task ∷ []) (sym (emptied left old.overflow none))) stalled-is;
        },
      )
      by left (inr (full, more, same)) = (
        left,
        inl (same, refl),
        record {
          current = current-was;
          comes = at.next;
          after = worker-is left new _ _ _ is (overflow-more left old.overflow new.overflow rest more) stalled-is;
        },
      )

  ran-to-wait : {K : Type 0} (rest : TaskView) → IsStop {K = K} t (stop.Wait rest) → RunsOnward {K = K} (stop.Wait rest) old new → RunsTo IsNoEnd old new
  ran-to-wait rest at h = (
    t.task,
    Wait rest.task,
    (λ (no : ⊥). no),
    λ left. (
      left,
      inl (ap (λ (x : HandView). x.deck) h, refl),
      record {
        current = current-was;
        comes = at.next;
        after =
            worker-is left new _ _ _ (ap (λ (x : HandView). task-of x.current) h) (ap (λ (x : HandView). tasks left ++ tasks x.overflow) h)
            (ap (λ (x : HandView). tasks x.stalled) h ∙ map-append (λ t. t.task) old.stalled (rest ∷ []));
      },
    ),
  )

  ran-to-end : {K : Type 0} (answer : AnswerView) (give : GiveView AnswerTag) (put : List AnswerView) → IsStop {K = K} t (stop.Done answer give) → new ≡ record old { current = None; answered = put } →
      RunsTo IsEnd old new
  ran-to-end answer give put at h = (
    t.task,
    End answer.out answer.outcome,
    tt,
    λ left. (
      left,
      inl (ap (λ (x : HandView). x.deck) h, refl),
      record {
        current = current-was;
        comes = at.next;
        after =
            worker-is left new _ _ _ (ap (λ (x : HandView). task-of x.current) h) (ap (λ (x : HandView). tasks left ++ tasks x.overflow) h)
            (ap (λ (x : HandView). tasks x.stalled) h);
      },
    ),
  )

  by-cut : (put : List AnswerView) → new ≡ record old { current = None; answered = put } → new ≡ record old { current = None; answered = new.answered }
  by-cut put h = h ∙ ap (λ (l : List AnswerView). record old { current = None; answered = l }) (sym (ap (λ (x : HandView). x.answered) h))

  -- Only its end comes of a task that took a cut.
  ran : {K : Type 0} (c : Option Outcome) (s : Stops K) → advances c t s → RunsOnward s old new → RunsTo IsNoEnd old new
  ran None (stop.Spawn child rest) at h = ran-to-spawn child rest at h
  ran None (stop.Wait rest) at h = ran-to-wait rest at h
  ran None (stop.Done answer give) at h = absurd h
  ran (Some ended) (stop.Spawn child rest) at h = absurd (let e = at.is in (cc))
  ran (Some ended) (stop.Wait rest) at h = absurd (let e = at.is in (cc))
  ran (Some ended) (stop.Done answer give) at h = absurd h

  ended : (K : Type 0) (c : Option Outcome) → t.cut ≡ c → (answer : AnswerView) (give : GiveView AnswerTag) (put : List AnswerView) → advances {K = K} c t (stop.Done answer give) →
      new ≡ record old { current = None; answered = put } → RunsTo IsEnd old new ⊎ EndsByCut old new
  ended K None e answer give put at h = inl (ran-to-end answer give put at h)
  ended K (Some o) e answer give put at h = inr (t, now, inr (o, e), by-cut put h)

  put : {K : Type 0} (turn : Turn K) → EndsTask t old turn new → RunsTo IsEnd old new ⊎ EndsByCut old new
  put {K} turn (answer, inl (give, at), arrived, h) =
      ended K t.cut refl answer give (old.answered ++ answer ∷ []) (advances-at {K = K} t (stop.Done answer give) at t.cut refl) h
  put {K} turn (answer, inr (by, may, is), arrived, h) = inr (t, now, inl (by, may), by-cut (old.answered ++ answer ∷ []) h)

  advanced : {K : Type 0} (turn : Turn K) → AdvancesCurrent t old turn new → IsTied old turn new
  advanced Ran (s, at, h) = ran t.cut s (advances-at t s at t.cut refl) h
  advanced (Answered a) h = put (Answered a) h
  advanced (Ended a) h = put (Ended a) h
  advanced Popped h = absurd h.2
  advanced Resumed h = absurd h.2
  advanced Waiting h = absurd h.2
  advanced Stole h = absurd h.2
  advanced Idle h = absurd h.2

-- Turns without a current task

module _ (old new : HandView) (free : old.current ≡ None) where
  was-free : task-of old.current ≡ None
  was-free = ap task-of free

  popped : (t : TaskView) → IsNewest t old.overflow old.deck new.overflow new.deck → new ≡ record old { current = Some t; overflow = new.overflow; deck = new.deck } → TakesLast old new
  popped t newest h = (t.task, λ after. by after newest)
    where
      by : (after : List TaskView) → IsNewest t old.overflow old.deck new.overflow new.deck →
          (left : List TaskView) × OwnerLeaves old.deck left new.deck after × WorkerPops t.task (worker_of left old) (worker_of after new)
      by after (inl (last, same)) = (
        after,
        inl (same, refl),
        record {
          free = was-free;
          back = overflow-more after new.overflow old.overflow t last;
          current = ap (λ (x : HandView). task-of x.current) h;
          stalled = ap (λ (x : HandView). tasks x.stalled) h;
        },
      )
      by after (inr (none, still, pops)) = (
        after ++ t ∷ [],
        inr (inr (t, pops, refl)),
        record {
          free = was-free;
          back = pushed after t old.overflow none ∙ ap (λ l. l ++ t.task ∷ []) (sym (emptied after new.overflow still));
          current = ap (λ (x : HandView). task-of x.current) h;
          stalled = ap (λ (x : HandView). tasks x.stalled) h;
        },
      )

  -- the front of the stalled tasks

  front : (place : ℕ) (t : TaskView) (stalled : List TaskView) → slice_get stalled place ≡ Some t → slice_get (tasks stalled) place ≡ Some t.task
  front zero t [] h = absurd (cc)
  front zero t (x ∷ xs) h = ap task-of h
  front (suc n) t [] h = absurd (cc)
  front (suc n) t (x ∷ xs) h = front n t xs h

  without : (place : ℕ) (stalled : List TaskView) → tasks (remove stalled place) ≡ remove (tasks stalled) place
  without zero [] = refl
  without zero (x ∷ xs) = refl
  without (suc n) [] = refl
  without (suc n) (x ∷ xs) = ap (λ l. x.task ∷ l) (without n xs)

  passes : (place : ℕ) (left : List TaskView) (t same : TaskView) (mid : HandView) → slice_get old.stalled place ≡ Some t → same.task ≡ t.task →
      mid.current ≡ old.current → mid.overflow ≡ old.overflow → mid.stalled ≡ remove old.stalled place ++ same ∷ [] →
      WorkerPasses place t.task (worker_of left old) (worker_of left mid)
  passes place left t same mid there is c k r = record {
    free = was-free;
    there = front place t old.stalled there;
    after =
        worker-is left mid _ _ _ (ap task-of c) (ap (λ l. tasks left ++ tasks l) k)
        (
        ap tasks r
        ∙ map-append (λ t. t.task) (remove old.stalled place) (same ∷ [])
        ∙ ap (λ l. l ++ same.task ∷ []) (without place old.stalled)
        ∙ ap (λ x. remove (tasks old.stalled) place ++ x ∷ []) is
        );
  }

  resumes-at : (place : ℕ) (left : List TaskView) (t next : TaskView) → slice_get old.stalled place ≡ Some t → IsResumed {K = All} t (resumed.On next) →
      new ≡ record old { current = Some next; deck = new.deck; stalled = remove old.stalled place } → ResumesAt place left old new
  resumes-at place left t next there (answers, are, is, passed) h = by (any_cut answers) refl
    where
      by-whole : next ≡ resumed_view (looked next.loads t) → ResumesAt place left old new
      by-whole gone = inl (
        t.task,
        record {
          free = was-free;
          there = front place t old.stalled there;
          after =
              worker-is left new _ _ _ (ap (λ (x : HandView). task-of x.current) h ∙ ap (λ (v : TaskView). Some v.task) gone) (ap (λ (x : HandView). tasks left ++ tasks x.overflow) h)
              (ap (λ (x : HandView). tasks x.stalled) h ∙ without place old.stalled);
        },
      )

      cut-on : IsCutOn answers (looked next.loads t) next → IsCutOn answers t next
      cut-on c = record {
        plan = c.plan;
        origin = c.origin;
        prefix = c.prefix;
        unmerged = c.unmerged;
        waits = c.waits;
        advanced = c.advanced;
        cut = c.cut;
        children = c.children;
        joins = c.joins;
      }

      by : (cut : Bool) → any_cut answers ≡ cut → ResumesAt place left old new
      by false e = by-whole (is.whole e)
      by true e = inr (t, next, answers, cut-on (is.cut e).0, free, there, h)

  -- the hand after a look at the front of its stalled tasks that was in vain
  passed : (left : List TaskView) (mid : HandView) → mid.current ≡ old.current → mid.overflow ≡ old.overflow → (stalled : List TaskView) → old.stalled ≡ stalled → IsTurnedOver stalled mid.stalled → PassesAt 0 left old mid
  passed left mid c k [] e h = absurd h
  passed left mid c k (t ∷ ts) e (same, stays, after) =
      (t.task, passes 0 left t same mid (ap (λ l. slice_get l 0) e) stays.0 c k (after ∙ ap (λ l. remove l 0 ++ same ∷ []) (sym e)))

  goes : (left : List TaskView) (t : TaskView) (stalled : List TaskView) → old.stalled ≡ stalled → ResumesFirst stalled t new.stalled → new ≡ record old { current = Some t; deck = new.deck; stalled = new.stalled } →
      ResumesAt 0 left old new
  goes left t [] e h is = absurd h
  goes left t (first ∷ ts) e (on, after) is =
      resumes-at 0 left first t (ap (λ l. slice_get l 0) e) on
      (is ∙ ap (λ l. record old { current = Some t; deck = new.deck; stalled = l }) (after ∙ ap (λ l. remove l 0) (sym e)))

  -- a look in vain where a task waits, before a steal
  looks-first : ((old.stalled ≡ []) × (new.stalled ≡ [])) ⊎ IsTurnedOver old.stalled new.stalled → LooksBefore (worker_of [] old) (worker_of [] (record old { stalled = new.stalled }))
  looks-first (inl (none, still)) = inl (ap tasks none, ap (λ l. worker_of [] (record old { stalled = l })) (still ∙ sym none))
  looks-first (inr over) = inr (passed [] (record old { stalled = new.stalled }) refl refl old.stalled refl over)

  sought : {K : Type 0} (turn : Turn K) → Seeks old turn new → IsTied old turn new
  sought Popped (t, newest, h) = popped t newest h
  sought Resumed (t, none, on, h) = (none.1, goes [] t old.stalled refl on h)
  sought Stole (t, none, over, steals, h) = (
    none.1,
    (
      t,
      steals,
      (
        worker_of [] (record old { stalled = new.stalled }),
        looks-first over,
        record {
          free = was-free;
          after =
              worker-is [] new _ _ _ (ap (λ (x : HandView). task-of x.current) h) (ap (λ (x : HandView). tasks x.overflow) h)
              (ap (λ (x : HandView). tasks x.stalled) h);
        },
      ),
    ),
  )
  sought Waiting (none, over, steals, h) =
      (none.1, passed [] new (ap (λ (x : HandView). x.current) h) (ap (λ (x : HandView). x.overflow) h) old.stalled refl over)
  sought Idle (none, stalled, steals, h) = (
    none.1,
    worker-is [] old _ _ _ was-free (ap tasks none.0) (ap tasks stalled),
    worker-is [] new _ _ _ (ap (λ (x : HandView). task-of x.current) h ∙ was-free) (ap (λ (x : HandView). tasks x.overflow) h ∙ ap tasks none.0)
        (ap (λ (x : HandView). tasks x.stalled) h ∙ ap tasks stalled),
  )
  sought Ran h = absurd h
  sought (Answered a) h = absurd h
  sought (Ended a) h = absurd h

tied-from : {K : Type 0} (current : Option TaskView) (old : HandView) (turn : Turn K) (new : HandView) → old.current ≡ current → IsTurnFrom current old turn new → IsTied old turn new
tied-from None old turn new now h = sought old new now turn h
tied-from (Some t) old turn new now h = advanced t old new now turn h

pub tied : {K : Type 0} (old : HandView) (turn : Turn K) (new : HandView) → IsTurn old turn new → IsTied old turn new
tied old turn new h = tied-from old.current old turn new refl h

-- Looks between turns

last-of : (ts : List TaskView) (t : TaskView) → slice_get (ts ++ t ∷ []) (length ts) ≡ Some t
last-of [] t = refl
last-of (x ∷ xs) t = last-of xs t

without-last : (ts : List TaskView) (t : TaskView) → remove (ts ++ t ∷ []) (length ts) ≡ ts
without-last [] t = refl
without-last (x ∷ xs) t = ap (λ l. x ∷ l) (without-last xs t)

one-more : (ts : List TaskView) (t : TaskView) → length ts + 1 ≡ length (ts ++ t ∷ [])
one-more ts t = simp (length-append)

module _ (old new : HandView) where
  stays : (stalled : List TaskView) → old.stalled ≡ stalled → old.current ≡ None → StaysLast stalled new.stalled → new ≡ record old { stalled = new.stalled } → IsTiedLook old looked.Waits new
  stays stalled e free (ts, t, same, last, waits, after) h = (
    length ts,
    one-more ts t ∙ ap length (sym (e ∙ last)),
    λ left. (
      t.task,
      passes old new free (length ts) left t same new
          (ap (λ l. slice_get l (length ts)) (e ∙ last) ∙ last-of ts t) waits.0 (ap (λ (x : HandView). x.current) h) (ap (λ (x : HandView). x.overflow) h)
          (after ∙ ap (λ l. l ++ same ∷ []) (sym (ap (λ l. remove l (length ts)) (e ∙ last) ∙ without-last ts t))),
    ),
  )

  goes-last : (next : TaskView) → old.current ≡ None → LastGoesOn old.stalled next new.stalled → new ≡ record old { current = Some next; stalled = new.stalled } →
      IsTiedLook old looked.Resumes new
  goes-last next free (t, last, on) h = (
    length new.stalled,
    one-more new.stalled t ∙ ap length (sym last),
    λ left. resumes-at old new free (length new.stalled) left t next
        (ap (λ l. slice_get l (length new.stalled)) last ∙ last-of new.stalled t) on
        (
        h
        ∙ ap (λ l. record old { current = Some next; stalled = l }) (sym (ap (λ l. remove l (length new.stalled)) last ∙ without-last new.stalled t))
        ∙ ap (λ d. record old { current = Some next; deck = d; stalled = remove old.stalled (length new.stalled) }) (sym (ap (λ (x : HandView). x.deck) h))
        ),
  )

pub tied_look : (old : HandView) (found : Looked) (new : HandView) → LooksNewest old found new → IsTiedLook old found new
tied_look old looked.Nothing new h = h.0
tied_look old looked.Waits new (free, stays-last, h) = stays old new old.stalled refl free stays-last h
tied_look old looked.Resumes new (t, free, last, h) = goes-last old new t free last h

pub tied_oldest : (old : HandView) (found : Looked) (new : HandView) → LooksOldest old found new → IsTiedLookFirst old found new
tied_oldest old looked.Nothing new h = h.0
tied_oldest old looked.Waits new (free, over, h) = λ left.
    passed old new free left new (ap (λ (x : HandView). x.current) h) (ap (λ (x : HandView). x.overflow) h) old.stalled refl over
tied_oldest old looked.Resumes new (t, free, first, h) = λ left.
    goes old new free left t old.stalled refl first
    (h ∙ ap (λ d. record old { current = Some t; deck = d; stalled = new.stalled }) (sym (ap (λ (x : HandView). x.deck) h)))
