-- Proofs of the examples.
use Rattle.std.proofs.Common.{◌≡◌, ℕ, ◌<◌, List, [], ◌∷◌, Option, Some, None, inl, inr, All, Contains, slice_index_or, length, zero, suc, false, refl, sym, ap, ◌∙◌, subst, arith}
use Rattle.serial_meaning.specs.Answer.{AnswerView}
use Rattle.serial_meaning.specs.Plan.{PlanView}
use Rattle.serial_meaning.specs.Eval.{main_origin}
use Rattle.serial_meaning.specs.declared.origin.Origin.{Origin}
use Rattle.strand_meaning.specs.Task.{Task, start, Spawn, Wait, End}
use Rattle.strand_meaning.proofs.NextStops.OneSoundStop.{stops_keep_origins}
use Rattle.sched_meaning.specs.Core.{Worker, Core, free_worker, first_worker, new_core, resumed_task, IsAnswered, IsRootAnswered, IsReady}
use Rattle.sched_meaning.specs.Steps.{Step, Leads, Happens}
use Rattle.sched_meaning.specs.declared.event.CoreEvent.TheVariants.{Run, Steal, Look}
use Rattle.sched_meaning.proofs.OneCore.OneStep.{some-one}
use Rattle.sched_meaning.specs.Examples.{OneChild, StolenRestAnswers, NobodyStealsFromItself, NoLookWhereNoneIsStalled, OneChoiceAtFirst, StealsGoByThief, stolen_rest}

module _ (plan : PlanView) (s : OneChild plan) where
  abbrev main : Origin
  main = main_origin plan

  abbrev worker : Option Task → List Task → List Task → Worker
  worker current deque stalled = record { current = current; deque = deque; stalled = stalled }

  abbrev core : Worker → Worker → List Origin → List AnswerView → ℕ → Core
  core v w begun answers runs = record { plan = plan; workers = v ∷ w ∷ []; begun = begun; answers = answers; runs = runs; spent = false }

  abbrev both : List Origin
  both = main_origin plan ∷ s.child ∷ []

  abbrev child_answer : AnswerView
  child_answer = record { plan = s.rest.plan; origin = s.child; out = s.own_events; outcome = s.childs_end }

  abbrev root_answer : AnswerView
  root_answer = record { plan = (resumed_task s.waiting).plan; origin = (resumed_task s.waiting).origin; out = s.out; outcome = s.ended }

  abbrev c0 : Core
  c0 = new_core plan 2

  abbrev c1 : Core
  c1 = core (worker (Some (start s.rest.plan s.child)) (s.rest ∷ []) []) free_worker both [] 1

  abbrev c2 : Core
  c2 = core (worker (Some (start s.rest.plan s.child)) [] []) (worker (Some s.rest) [] []) both [] 1

  abbrev c3 : Core
  c3 = core (worker (Some (start s.rest.plan s.child)) [] []) (worker None [] (s.waiting ∷ [])) both [] 2

  abbrev c5 : Core
  c5 = core (worker None [] []) (worker None [] (s.waiting ∷ [])) both (child_answer ∷ []) 3

  abbrev c6 : Core
  c6 = core (worker None [] []) (worker (Some (resumed_task s.waiting)) [] []) both (child_answer ∷ []) 3

  abbrev c7 : Core
  c7 = core (worker None [] []) (worker None [] []) both (child_answer ∷ root_answer ∷ []) 4

  none-yet : (o : Origin) → Contains {X = Origin} [] o → ⊥
  none-yet o h = absurd (omega (arith, h.1))

  not-root : Contains (s.child ∷ []) (main_origin plan) → ⊥
  not-root h = by_place h.0 h.1 h.2
    where
      by_place : (k : ℕ) → k < length (s.child ∷ []) → slice_index_or (s.child ∷ []) k (main_origin plan) ≡ main_origin plan → ⊥
      by_place zero lt e = s.other e
      by_place (suc k) lt e = absurd (omega arith)

  step1 : Step (Run 0) c0 c1
  step1 = record {
    unanswered = none-yet main;
    happens = record {
      task = start plan (main_origin plan);
      stop = Spawn s.child s.rest;
      moved = record c0 { workers = worker (Some (start s.rest.plan s.child)) (s.rest ∷ []) [] ∷ free_worker ∷ [] };
      runs = record { worker = first_worker plan; after = worker (Some (start s.rest.plan s.child)) (s.rest ∷ []) []; there = refl; does = record { current = refl; comes = s.spawns; after = refl }; next_is = refl };
      next_is = refl;
    };
  }

  step2 : Step (Steal 1 0) c1 c2
  step2 = record {
    unanswered = none-yet main;
    happens = record {
      two = λ e. absurd (cc);
      task = s.rest;
      without = record c1 { workers = worker (Some (start s.rest.plan s.child)) [] [] ∷ free_worker ∷ [] };
      gives = record { worker = worker (Some (start s.rest.plan s.child)) (s.rest ∷ []) []; after = worker (Some (start s.rest.plan s.child)) [] []; there = refl; does = record { front = refl; current = refl; stalled = refl }; next_is = refl };
      takes = record { worker = free_worker; after = worker (Some s.rest) [] []; there = refl; does = record { free = refl; after = refl }; next_is = refl };
    };
  }

  step3 : Step (Run 1) c2 c3
  step3 = record {
    unanswered = none-yet main;
    happens = record {
      task = s.rest;
      stop = Wait s.waiting;
      moved = record c2 { workers = worker (Some (start s.rest.plan s.child)) [] [] ∷ worker None [] (s.waiting ∷ []) ∷ [] };
      runs = record { worker = worker (Some s.rest) [] []; after = worker None [] (s.waiting ∷ []); there = refl; does = record { current = refl; comes = s.waits; after = refl }; next_is = refl };
      next_is = refl;
    };
  }

  not-ready : IsReady c3 s.waiting → ⊥
  not-ready h = let g : All (IsAnswered c3) (s.child ∷ []) = subst (All (IsAnswered c3)) s.awaits h in none-yet s.child (g 0 s.child (omega arith))

  step4 : Step (Look 1 0) c3 c3
  step4 = record {
    unanswered = none-yet main;
    happens = inr (record {
      task = s.waiting;
      waits = not-ready;
      passes = record { worker = worker None [] (s.waiting ∷ []); after = worker None [] (s.waiting ∷ []); there = refl; does = record { free = refl; there = refl; after = refl }; next_is = refl };
    });
  }

  step5 : Step (Run 0) c3 c5
  step5 = record {
    unanswered = none-yet main;
    happens = record {
      task = start s.rest.plan s.child;
      stop = End s.own_events s.childs_end;
      moved = record c3 { workers = worker None [] [] ∷ worker None [] (s.waiting ∷ []) ∷ [] };
      runs = record { worker = worker (Some (start s.rest.plan s.child)) [] []; after = worker None [] []; there = refl; does = record { current = refl; comes = s.child_ends; after = refl }; next_is = refl };
      next_is = refl;
    };
  }

  ready : IsReady c5 s.waiting
  ready = subst (All (IsAnswered c5)) (sym s.awaits) all
    where
      all : All (IsAnswered c5) (s.child ∷ [])
      all zero d lt = (0, omega arith, refl)
      all (suc k) d lt = absurd (omega arith)

  step6 : Step (Look 1 0) c5 c6
  step6 = record {
    unanswered = not-root;
    happens = inl (record {
      task = s.waiting;
      ready = ready;
      resumes = record { worker = worker None [] (s.waiting ∷ []); after = worker (Some (resumed_task s.waiting)) [] []; there = refl; does = record { free = refl; there = refl; after = refl }; next_is = refl };
    });
  }

  step7 : Step (Run 1) c6 c7
  step7 = record {
    unanswered = not-root;
    happens = record {
      task = resumed_task s.waiting;
      stop = End s.out s.ended;
      moved = record c6 { workers = worker None [] [] ∷ worker None [] [] ∷ [] };
      runs = record { worker = worker (Some (resumed_task s.waiting)) [] []; after = worker None [] []; there = refl; does = record { current = refl; comes = s.ends; after = refl }; next_is = refl };
      next_is = refl;
    };
  }

  led : Leads plan 2 stolen_rest c7
  led = (c6, (c5, (c3, (c3, (c2, (c1, (c0, refl, step1), step2), step3), step4), step5), step6), step7)

  root : IsRootAnswered c7
  root = (1, omega arith, (stops_keep_origins s.rest (Wait s.waiting) s.waits).1 ∙ (stops_keep_origins (start plan (main_origin plan)) (Spawn s.child s.rest) s.spawns).1)

pub stolen_rest_answers : StolenRestAnswers
stolen_rest_answers plan s = (c7 plan s, led plan s, root plan s, refl)

pub nobody_steals_from_itself : NobodyStealsFromItself
nobody_steals_from_itself plan next step = step.happens.two refl

-- worker 0 of a new core has a current task
first-runs : (plan : PlanView) (w : Worker) → Some (first_worker plan) ≡ Some w → w.current ≡ None → ⊥
first-runs plan w h g = let same : first_worker plan ≡ w = some-one (first_worker plan) w h in let e : Some (start plan (main_origin plan)) ≡ None = ap (λ (v : Worker). v.current) same ∙ g in absurd (cc)

pub no_look_where_none_is_stalled : NoLookWhereNoneIsStalled
no_look_where_none_is_stalled plan next step = by_look step.happens
  where
    by_look : Happens (Look 0 0) (new_core plan 2) next → ⊥
    by_look (inl r) = first-runs plan r.resumes.worker r.resumes.there r.resumes.does.free
    by_look (inr p) = first-runs plan p.passes.worker p.passes.there p.passes.does.free

pub one_choice_at_first : OneChoiceAtFirst
one_choice_at_first plan = refl

pub steals_go_by_thief : StealsGoByThief
steals_go_by_thief plan t u v = refl
