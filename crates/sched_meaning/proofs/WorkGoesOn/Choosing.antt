-- The choices of a simulation are the events that may happen and go on with the work.
use Rattle.std.proofs.Common.{◌≡◌, ℕ, zero, suc, ◌+◌, ◌<◌, inl, inr, Bool, true, false, cond, ◌&&◌, ◌||◌, not, nat_eq, List, [], ◌∷◌, ◌++◌, Option, Some, None, All, Contains, length, map, filter, flat_map, is_some, slice_index_or, slice_get, slice_set, remove, refl, sym, ap, ◌∙◌, subst, arith}
use Rattle.std.specs.List.{list_any, list_all, range_with_len}
use Rattle.std.proofs.lemmas.Bool.Decides.{Decides-eqb}
use Rattle.serial_meaning.specs.Eval.{main_origin}
use Rattle.serial_meaning.specs.declared.origin.Origin.{Origin}
use Rattle.strand_meaning.specs.Task.{Task}
use Rattle.strand_meaning.proofs.NextStops.TasksReachStops.{stops_exist}
use Rattle.sched_meaning.specs.Core.{Worker, Core, resumed_task, awaited, answered, IsAnswered, IsRootAnswered}
use Rattle.sched_meaning.specs.Same.{same_origin}
use Rattle.sched_meaning.specs.Simulation.{is_answered, is_ready, may_run, is_free, has_task, has_ready, may_resume, is_progress, is_choice, stalled_places, all_events, choices}
use Rattle.sched_meaning.specs.Sound.{MakesProgress}
use Rattle.sched_meaning.specs.Steps.{after_stop, WorkerRuns, WorkerPops, WorkerGives, WorkerTakes, WorkerResumes, Changes, recorded, Happens, Step}
use Rattle.sched_meaning.specs.Steps as steps
use Rattle.sched_meaning.specs.declared.event.CoreEvent.{CoreEvent}
use Rattle.sched_meaning.specs.declared.event.CoreEvent.TheVariants.{Run, Pop, Steal, Look, Idle}
use Rattle.sched_meaning.proofs.OneCore.SameOrigin.{same-origin}
use Rattle.sched_meaning.proofs.OneCore.OneStep.{some-one}
use Rattle.sched_meaning.proofs.KeptByEvents.Good.{IsIn, in-front}
use Rattle.sched_meaning.proofs.WorkGoesOn.Lively.{has-back}

-- Lists

in-contains : {A : Type 0} (xs : List A) (x : A) → IsIn xs x → Contains xs x
in-contains [] x h = absurd h
in-contains (y ∷ xs) x (inl h) = (0, omega arith, h)
in-contains (y ∷ xs) x (inr h) = let c = in-contains xs x h in (suc c.0, omega (arith, c.1), c.2)

contains-in : {A : Type 0} (xs : List A) (x : A) → Contains xs x → IsIn xs x
contains-in {A} xs x c = by_place xs c.0 c.1 c.2
  where
    by_place : (ys : List A) (k : ℕ) → k < length ys → slice_index_or ys k x ≡ x → IsIn ys x
    by_place [] k lt e = absurd (omega arith)
    by_place (y ∷ ys) zero lt e = inl e
    by_place (y ∷ ys) (suc k) lt e = inr (by_place ys k (omega arith) e)

in-back : {A : Type 0} (xs ys : List A) (o : A) → IsIn ys o → IsIn (xs ++ ys) o
in-back [] ys o h = h
in-back (x ∷ xs) ys o h = inr (in-back xs ys o h)

in-map : {A B : Type 0} (f : A → B) (xs : List A) (x : A) → IsIn xs x → IsIn (map f xs) (f x)
in-map f [] x h = absurd h
in-map f (y ∷ xs) x (inl h) = inl (ap f h)
in-map f (y ∷ xs) x (inr h) = inr (in-map f xs x h)

in-flat : {A B : Type 0} (f : A → List B) (xs : List A) (x : A) (y : B) → IsIn xs x → IsIn (f x) y → IsIn (flat_map f xs) y
in-flat f [] x y h k = absurd h
in-flat f (z ∷ xs) x y (inl h) k = in-front (f z) (flat_map f xs) y (subst (λ v. IsIn (f v) y) (sym h) k)
in-flat f (z ∷ xs) x y (inr h) k = in-back (f z) (flat_map f xs) y (in-flat f xs x y h k)

in-range : (lo n k : ℕ) → k < n → IsIn (range_with_len lo n) (lo + k)
in-range lo zero k h = absurd (omega arith)
in-range lo (suc n) zero h = inl (omega arith)
in-range lo (suc n) (suc k) h = let e : lo + 1 + k ≡ lo + suc k = omega arith in inr (subst (λ v. IsIn (range_with_len (lo + 1) n) v) e (in-range (lo + 1) n k (omega arith)))

filter-in : {A : Type 0} (test : A → Bool) (xs : List A) (x : A) → IsIn (filter test xs) x → test x ≡ true
filter-in test [] x h = absurd h
filter-in {A} test (y ∷ xs) x h = by_test (test y) refl h (filter-in test xs x)
  where
    by_test : (b : Bool) → test y ≡ b → IsIn (cond b (y ∷ filter test xs) (filter test xs)) x → (IsIn (filter test xs) x → test x ≡ true) → test x ≡ true
    by_test true e (inl g) later = ap test (sym g) ∙ e
    by_test true e (inr g) later = later g
    by_test false e g later = later g

in-filter : {A : Type 0} (test : A → Bool) (xs : List A) (x : A) → IsIn xs x → test x ≡ true → IsIn (filter test xs) x
in-filter test [] x h t = absurd h
in-filter {A} test (y ∷ xs) x h t = by_test (test y) refl h (λ g. in-filter test xs x g t)
  where
    by_test : (b : Bool) → test y ≡ b → IsIn (y ∷ xs) x → (IsIn xs x → IsIn (filter test xs) x) → IsIn (cond b (y ∷ filter test xs) (filter test xs)) x
    by_test true e (inl g) later = inl g
    by_test true e (inr g) later = inr (later g)
    by_test false e (inl g) later = absurd (cc)
    by_test false e (inr g) later = later g

get-below : {A : Type 0} (xs : List A) (n : ℕ) (x : A) → slice_get xs n ≡ Some x → n < length xs
get-below [] n x h = absurd (cc)
get-below (y ∷ xs) zero x h = omega arith
get-below (y ∷ xs) (suc n) x h = let e : n < length xs = get-below xs n x h in omega arith

-- Tests

both-true : (a b : Bool) → (a && b) ≡ true → (a ≡ true) × (b ≡ true)
both-true true b h = (refl, h)
both-true false b h = absurd (cc)

true-both : (a b : Bool) → a ≡ true → b ≡ true → (a && b) ≡ true
true-both true b h k = k
true-both false b h k = absurd (cc)

not-true : (b : Bool) → not b ≡ true → b ≡ false
not-true true h = absurd (cc)
not-true false h = refl

any-same : (o : Origin) (os : List Origin) → list_any (same_origin o) os ≡ true → IsIn os o
any-same o [] h = absurd (cc)
any-same o (p ∷ os) h = by_test (same_origin o p) refl h (any-same o os)
  where
    by_test : (b : Bool) → same_origin o p ≡ b → (b || list_any (same_origin o) os) ≡ true → (list_any (same_origin o) os ≡ true → IsIn os o) → IsIn (p ∷ os) o
    by_test true e g later = inl (sym ((same-origin o p).0 e))
    by_test false e g later = inr (later g)

same-any : (o : Origin) (os : List Origin) → IsIn os o → list_any (same_origin o) os ≡ true
same-any o [] h = absurd h
same-any o (p ∷ os) (inl h) = ap (λ b. b || list_any (same_origin o) os) ((same-origin o p).1 (sym h))
same-any o (p ∷ os) (inr h) = by_test (same_origin o p) (same-any o os h)
  where
    by_test : (b : Bool) → list_any (same_origin o) os ≡ true → (b || list_any (same_origin o) os) ≡ true
    by_test true later = refl
    by_test false later = later

is-answered : (c : Core) (o : Origin) → is_answered c o ≡ true → IsAnswered c o
is-answered c o h = in-contains (answered c) o (any-same o (answered c) h)

pub answered-is : (c : Core) (o : Origin) → IsAnswered c o → is_answered c o ≡ true
answered-is c o h = same-any o (answered c) (contains-in (answered c) o h)

all-answered : (c : Core) (os : List Origin) → list_all (is_answered c) os ≡ true → All (IsAnswered c) os
all-answered c [] h k d lt = absurd (omega arith)
all-answered c (o ∷ os) h zero d lt = is-answered c o (both-true (is_answered c o) (list_all (is_answered c) os) h).0
all-answered c (o ∷ os) h (suc k) d lt = all-answered c os (both-true (is_answered c o) (list_all (is_answered c) os) h).1 k d (omega arith)

answered-all : (c : Core) (os : List Origin) → All (IsAnswered c) os → list_all (is_answered c) os ≡ true
answered-all c [] h = refl
answered-all c (o ∷ os) h = true-both (is_answered c o) (list_all (is_answered c) os) (answered-is c o (h 0 o (omega arith))) (answered-all c os (λ k d lt. h (suc k) d (omega arith)))

-- Events

-- it may happen, and goes on with the work
abbrev pub Advances : Core → CoreEvent → Type 0
Advances c e = (next : Core) × Step e c next × MakesProgress e c

record Runner (o : Option Worker) : Type 0 where
  worker : Worker
  task : Task
  is : o ≡ Some worker
  current : worker.current ≡ Some task

runner : (o : Option Worker) → may_run o ≡ true → Runner o
runner None h = absurd (cc)
runner (Some w) h = by_current w.current refl h
  where
    by_current : (t : Option Task) → w.current ≡ t → is_some t ≡ true → Runner (Some w)
    by_current None e g = absurd (cc)
    by_current (Some t) e g = record { worker = w; task = t; is = refl; current = e }

record Free (o : Option Worker) : Type 0 where
  worker : Worker
  is : o ≡ Some worker
  free : worker.current ≡ None

free-one : (o : Option Worker) → is_free o ≡ true → Free o
free-one None h = absurd (cc)
free-one (Some w) h = by_current w.current refl h
  where
    by_current : (t : Option Task) → w.current ≡ t → not (is_some t) ≡ true → Free (Some w)
    by_current None e g = record { worker = w; is = refl; free = e }
    by_current (Some t) e g = absurd (cc)

record Giver (o : Option Worker) : Type 0 where
  worker : Worker
  front : Task
  rest : List Task
  is : o ≡ Some worker
  deque : worker.deque ≡ front ∷ rest

giver : (o : Option Worker) → has_ready o ≡ true → Giver o
giver None h = absurd (cc)
giver (Some w) h = by_deque w.deque refl h
  where
    by_deque : (ts : List Task) → w.deque ≡ ts → has_task ts ≡ true → Giver (Some w)
    by_deque [] e g = absurd (cc)
    by_deque (t ∷ ts) e g = record { worker = w; front = t; rest = ts; is = refl; deque = e }

get-other : {A : Type 0} (xs : List A) (n m : ℕ) (x : A) → (n ≡ m → ⊥) → slice_get (slice_set xs m x) n ≡ slice_get xs n
get-other [] n m x h = refl
get-other (y ∷ xs) zero zero x h = absurd (h refl)
get-other (y ∷ xs) zero (suc m) x h = refl
get-other (y ∷ xs) (suc n) zero x h = refl
get-other (y ∷ xs) (suc n) (suc m) x h = get-other xs n m x (λ e. h (ap suc e))

different : (n m : ℕ) → not (nat_eq n m) ≡ true → n ≡ m → ⊥
different n m h e = let t : nat_eq n m ≡ true = (Decides-eqb n m).1 e in let f : nat_eq n m ≡ false = not-true (nat_eq n m) h in absurd (cc)

not-same : (n m : ℕ) → (n ≡ m → ⊥) → not (nat_eq n m) ≡ true
not-same n m h = by_test (nat_eq n m) refl
  where
    by_test : (b : Bool) → nat_eq n m ≡ b → not b ≡ true
    by_test true e = absurd (h ((Decides-eqb n m).0 e))
    by_test false e = refl

-- A choice may happen

module _ (c : Core) (unanswered : IsRootAnswered c → ⊥) where
  run-advances : (n : ℕ) → Runner (slice_get c.workers n) → Advances c (Run n)
  run-advances n r =
      let s = stops_exist r.task in
      let after : Worker = after_stop s.0 r.worker in
      let mid : Core = record c { workers = slice_set c.workers n after } in
      let runs : steps.ReachesStop n c (recorded r.task s.0 mid) = record {
        task = r.task;
        stop = s.0;
        moved = mid;
        runs = record { worker = r.worker; after = after; there = r.is; does = record { current = r.current; comes = s.1; after = refl }; next_is = refl };
        next_is = refl;
      } in (recorded r.task s.0 mid, record { unanswered = unanswered; happens = runs }, tt)

  pop-advances : (n : ℕ) → Free (slice_get c.workers n) → Giver (slice_get c.workers n) → Advances c (Pop n)
  pop-advances n f g =
      let same : f.worker ≡ g.worker = some-one f.worker g.worker (sym f.is ∙ g.is) in
      let b = has-back g.front g.rest in
      let after : Worker = record { current = Some b.last; deque = b.rest; stalled = g.worker.stalled } in
      let next : Core = record c { workers = slice_set c.workers n after } in
      let pops : steps.Pops n c next = record {
        task = b.last;
        pops = record { worker = g.worker; after = after; there = g.is; does = record { free = subst (λ (w : Worker). w.current ≡ None) same f.free; back = g.deque ∙ b.is; current = refl; stalled = refl }; next_is = refl };
      } in (next, record { unanswered = unanswered; happens = pops }, tt)

  steal-advances : (thief victim : ℕ) → (thief ≡ victim → ⊥) → Free (slice_get c.workers thief) → Giver (slice_get c.workers victim) → Advances c (Steal thief victim)
  steal-advances thief victim two f g =
      let given : Worker = record g.worker { deque = g.rest } in
      let mid : Core = record c { workers = slice_set c.workers victim given } in
      let taken : Worker = record f.worker { current = Some g.front } in
      let next : Core = record mid { workers = slice_set mid.workers thief taken } in
      let steals : steps.Steals thief victim c next = record {
        two = two;
        task = g.front;
        without = mid;
        gives = record { worker = g.worker; after = given; there = g.is; does = record { front = g.deque; current = refl; stalled = refl }; next_is = refl };
        takes = record { worker = f.worker; after = taken; there = get-other c.workers thief victim given two ∙ f.is; does = record { free = f.free; after = refl }; next_is = refl };
      } in (next, record { unanswered = unanswered; happens = steals }, tt)

  look-advances : (n k : ℕ) → Free (slice_get c.workers n) → may_resume c k (slice_get c.workers n) ≡ true → Advances c (Look n k)
  look-advances n k f h = by_task (slice_get f.worker.stalled k) refl (sym (ap (may_resume c k) f.is) ∙ h)
    where
      by_task : (t : Option Task) → slice_get f.worker.stalled k ≡ t → is_ready c t ≡ true → Advances c (Look n k)
      by_task None e g = absurd (cc)
      by_task (Some t) e g =
          let after : Worker = record f.worker { current = Some (resumed_task t); stalled = remove f.worker.stalled k } in
          let next : Core = record c { workers = slice_set c.workers n after } in
          let resumes : steps.Resumes n k c next = record {
            task = t;
            ready = all-answered c (awaited t) g;
            resumes = record { worker = f.worker; after = after; there = f.is; does = record { free = f.free; there = e; after = refl }; next_is = refl };
          } in (next, record { unanswered = unanswered; happens = inl resumes }, (next, resumes))

  goes-advances : (e : CoreEvent) → is_progress c e ≡ true → Advances c e
  goes-advances (Run w) h = run-advances w (runner (slice_get c.workers w) h)
  goes-advances (Pop w) h = let b = both-true (is_free (slice_get c.workers w)) (has_ready (slice_get c.workers w)) h in pop-advances w (free-one _ b.0) (giver _ b.1)
  goes-advances (Steal thief victim) h =
      let b = both-true (not (nat_eq thief victim)) (is_free (slice_get c.workers thief) && has_ready (slice_get c.workers victim)) h in
      let d = both-true (is_free (slice_get c.workers thief)) (has_ready (slice_get c.workers victim)) b.1 in
      steal-advances thief victim (different thief victim b.0) (free-one _ d.0) (giver _ d.1)
  goes-advances (Look w k) h = let b = both-true (is_free (slice_get c.workers w)) (may_resume c k (slice_get c.workers w)) h in look-advances w k (free-one _ b.0) b.1
  goes-advances (Idle w) h = absurd (cc)

choice-advances : (c : Core) (e : CoreEvent) → is_choice c e ≡ true → Advances c e
choice-advances c e h =
    let b = both-true (not (is_answered c (main_origin c.plan))) (is_progress c e) h in
    goes-advances c (λ a. (let t : is_answered c (main_origin c.plan) ≡ true = answered-is c (main_origin c.plan) a in let f : is_answered c (main_origin c.plan) ≡ false = not-true _ b.0 in absurd (cc))) e b.1

-- What may happen is a choice

has-task : (ts : List Task) (t : Task) → has_task (ts ++ t ∷ []) ≡ true
has-task [] t = refl
has-task (u ∷ ts) t = refl

-- what is to be shown of an event
record IsListed (c : Core) (e : CoreEvent) : Type 0 where
  goes : is_progress c e ≡ true
  listed : IsIn (all_events c) e

module _ (c : Core) where
  abbrev Numbered : ℕ → Type 0
  Numbered n = IsIn (range_with_len 0 (length c.workers)) n

  numbered : (n : ℕ) (w : Worker) → slice_get c.workers n ≡ Some w → Numbered n
  numbered n w h = let e : 0 + n ≡ n = omega arith in subst Numbered e (in-range 0 (length c.workers) n (get-below c.workers n w h))

  abbrev run_events : List CoreEvent
  run_events = map (λ w. Run w) (range_with_len 0 (length c.workers))

  abbrev pop_events : List CoreEvent
  pop_events = map (λ w. Pop w) (range_with_len 0 (length c.workers))

  abbrev steal_events : List CoreEvent
  steal_events = flat_map (λ thief. map (λ victim. Steal thief victim) (range_with_len 0 (length c.workers))) (range_with_len 0 (length c.workers))

  abbrev look_events : List CoreEvent
  look_events = flat_map (λ w. map (λ place. Look w place) (stalled_places (slice_get c.workers w))) (range_with_len 0 (length c.workers))

  run-listed : (w : ℕ) (next : Core) → steps.ReachesStop w c next → IsListed c (Run w)
  run-listed w next s = record {
    goes = ap may_run s.runs.there ∙ ap is_some s.runs.does.current;
    listed = in-front (run_events ++ pop_events ++ steal_events) look_events (Run w) (in-front (run_events ++ pop_events) steal_events (Run w) (in-front run_events pop_events (Run w)
        (in-map (λ w. Run w) (range_with_len 0 (length c.workers)) w (numbered w s.runs.worker s.runs.there))));
  }

  pop-listed : (w : ℕ) (next : Core) → steps.Pops w c next → IsListed c (Pop w)
  pop-listed w next s = record {
    goes = true-both (is_free (slice_get c.workers w)) (has_ready (slice_get c.workers w)) (ap is_free s.pops.there ∙ ap (λ o. not (is_some o)) s.pops.does.free)
        (ap has_ready s.pops.there ∙ ap has_task s.pops.does.back ∙ has-task s.pops.after.deque s.task);
    listed = in-front (run_events ++ pop_events ++ steal_events) look_events (Pop w) (in-front (run_events ++ pop_events) steal_events (Pop w) (in-back run_events pop_events (Pop w)
        (in-map (λ w. Pop w) (range_with_len 0 (length c.workers)) w (numbered w s.pops.worker s.pops.there))));
  }

  steal-listed : (thief victim : ℕ) (next : Core) → steps.Steals thief victim c next → IsListed c (Steal thief victim)
  steal-listed thief victim next s = record {
    goes = true-both (not (nat_eq thief victim)) (is_free (slice_get c.workers thief) && has_ready (slice_get c.workers victim)) (not-same thief victim s.two)
        (true-both (is_free (slice_get c.workers thief)) (has_ready (slice_get c.workers victim)) (ap is_free there ∙ ap (λ o. not (is_some o)) s.takes.does.free) (ap has_ready s.gives.there ∙ ap has_task s.gives.does.front));
    listed = in-front (run_events ++ pop_events ++ steal_events) look_events (Steal thief victim) (in-back (run_events ++ pop_events) steal_events (Steal thief victim)
        (in-flat (λ thief. map (λ victim. Steal thief victim) (range_with_len 0 (length c.workers))) (range_with_len 0 (length c.workers)) thief (Steal thief victim) (numbered thief s.takes.worker there)
        (in-map (λ victim. Steal thief victim) (range_with_len 0 (length c.workers)) victim (numbered victim s.gives.worker s.gives.there))));
  }
    where
      there : slice_get c.workers thief ≡ Some s.takes.worker
      there = sym (ap (λ (d : Core). slice_get d.workers thief) s.gives.next_is ∙ get-other c.workers thief victim s.gives.after s.two) ∙ s.takes.there

  look-listed : (w k : ℕ) (next : Core) → steps.Resumes w k c next → IsListed c (Look w k)
  look-listed w k next s = record {
    goes = true-both (is_free (slice_get c.workers w)) (may_resume c k (slice_get c.workers w)) (ap is_free s.resumes.there ∙ ap (λ o. not (is_some o)) s.resumes.does.free)
        (ap (may_resume c k) s.resumes.there ∙ ap (is_ready c) s.resumes.does.there ∙ answered-all c (awaited s.task) s.ready);
    listed = in-back (run_events ++ pop_events ++ steal_events) look_events (Look w k)
        (in-flat (λ w. map (λ place. Look w place) (stalled_places (slice_get c.workers w))) (range_with_len 0 (length c.workers)) w (Look w k) (numbered w s.resumes.worker s.resumes.there)
        (in-map (λ place. Look w place) (stalled_places (slice_get c.workers w)) k (subst (λ l. IsIn l k) (sym (ap stalled_places s.resumes.there)) place)));
  }
    where
      place : IsIn (range_with_len 0 (length s.resumes.worker.stalled)) k
      place = let e : 0 + k ≡ k = omega arith in subst (λ n. IsIn (range_with_len 0 (length s.resumes.worker.stalled)) n) e (in-range 0 (length s.resumes.worker.stalled) k (get-below s.resumes.worker.stalled k s.task s.resumes.does.there))

  event-listed : (e : CoreEvent) (next : Core) → Happens e c next → MakesProgress e c → IsListed c e
  event-listed (Run w) next h f = run-listed w next h
  event-listed (Pop w) next h f = pop-listed w next h
  event-listed (Steal thief victim) next h f = steal-listed thief victim next h
  event-listed (Look w k) next h f = look-listed w k f.0 f.1
  event-listed (Idle w) next h f = absurd f

  choice-is : (e : CoreEvent) → Advances c e → IsListed c e → is_choice c e ≡ true
  choice-is e a l = by_root (is_answered c (main_origin c.plan)) refl
    where
      by_root : (b : Bool) → is_answered c (main_origin c.plan) ≡ b → (not b && is_progress c e) ≡ true
      by_root true h = absurd (a.1.unanswered (is-answered c (main_origin c.plan) h))
      by_root false h = l.goes

-- The choices are just these.
pub choices_advance : (c : Core) (e : CoreEvent) → Contains (choices c) e → Advances c e
choices_advance c e h = choice-advances c e (filter-in (is_choice c) (all_events c) e (contains-in (choices c) e h))

pub advances-choose : (c : Core) (e : CoreEvent) → Advances c e → Contains (choices c) e
advances-choose c e a =
    let l : IsListed c e = event-listed c e a.0 a.1.happens a.2 in
    in-contains (choices c) e (in-filter (is_choice c) (all_events c) e l.listed (choice-is c e a l))
