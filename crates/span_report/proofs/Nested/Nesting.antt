-- The events of the elision nest.
use Rattle.std.proofs.Common.{◌≡◌, ℕ, zero, suc, ◌+◌, ◌-◌, List, [], ◌∷◌, ◌++◌, Option, Some, None, Result, Ok, Err, refl, sym, ap, ◌∙◌, append_assoc, append-nil, subst}
use Rattle.std.proofs.Common.{ℤ, pos}
use Rattle.std.specs.Int.{w64, int_wrapping_add}
use Rattle.serial_meaning.specs.Runs.{Run, done, after_items, continued, ◌then◌}
use Rattle.serial_meaning.specs.Functions.{function_at}
use Rattle.serial_meaning.specs.Exec.{State, goes_out, frame, exec, instance, with_loop_values}
use Rattle.serial_meaning.specs.Eval.{Evaluation, serial, loop_evaluation, eval_with, eval_below, depth_left, first_value, main_origin, elision}
use Rattle.serial_meaning.specs.Plan.{PlanView, functions_of, drawn}
use Rattle.serial_meaning.proofs.Equations.RunLaws.{then-then}
use Rattle.serial_meaning.proofs.RisingPedigrees.Closed.{Closed, closed-exec, returned-q}
use Rattle.serial_meaning.proofs.OriginFaults.Levels.{every}
use Rattle.script_grammar.specs.declared.tree.Function.{Function}
use Rattle.serial_meaning.specs.declared.value.Value.{Value}
use Rattle.serial_meaning.specs.declared.value.Value.TheVariants.{Int}
use Rattle.serial_meaning.specs.declared.event.Fault.{Fault}
use Rattle.serial_meaning.specs.declared.event.Event.{Event}
use Rattle.serial_meaning.specs.declared.event.Event.TheVariants as event
use Rattle.serial_meaning.specs.declared.origin.Origin.{Origin}
use Rattle.serial_meaning.specs.declared.origin.Origin.TheVariants as origin
use Rattle.span_report.specs.Nested.{Draw, New, Sync, Instance, Iterations, IsNested, Ends, Prints, Steps, Spawns, Loops, Iterates, Scopes}

-- What goes on after these events nests with them, from the rank that a run ended with; after a fault nothing goes on.
abbrev Goes : {A : Type 0} → List ℕ → List ℕ → (A → ℕ) → ℕ → List Event → Result A Fault → Type 0
Goes home path rank lo items (Ok a) = (es : List Event) → IsNested (Instance home) path (rank a) es → IsNested (Instance home) path lo (items ++ es)
Goes home path rank lo items (Err f) = IsNested (Instance home) path lo items

-- a run of an instance at a present path from a rank on
record Nests {A : Type 0} (home path : List ℕ) (rank : A → ℕ) (lo : ℕ) (r : Run Event Fault A) : Type 0 where
  goes : Goes home path rank lo r.items r.ending

nests-then : {A B : Type 0} (home path : List ℕ) (f-rank : A → ℕ) (g-rank : B → ℕ) (lo : ℕ) (r : Run Event Fault A) (f : A → Run Event Fault B) →
    Nests home path f-rank lo r → ((a : A) → Nests home path g-rank (f-rank a) (f a)) → Nests home path g-rank lo (r then f)
nests-then {A = A} {B = B} home path f-rank g-rank lo r f h k = from r.items r.ending h.goes
  where
    from : (items : List Event) (e : Result A Fault) → Goes home path f-rank lo items e → Nests home path g-rank lo (continued items e f)
    from items (Err e) g = record { goes = g }
    from items (Ok a) g = record { goes = after (f a).ending (k a).goes }
      where
        after : (q : Result B Fault) → Goes home path g-rank (f-rank a) (f a).items q → Goes home path g-rank lo (items ++ (f a).items) q
        after (Ok b) c = λ es n. subst (IsNested (Instance home) path lo) (sym (append_assoc items (f a).items es)) (g ((f a).items ++ es) (c es n))
        after (Err e) c = g (f a).items c

-- a run as far as it went
whole : {A : Type 0} (home path : List ℕ) (rank : A → ℕ) (lo : ℕ) (r : Run Event Fault A) → Nests home path rank lo r → IsNested (Instance home) path lo r.items
whole {A = A} home path rank lo r h = from r.items r.ending h.goes
  where
    from : (items : List Event) (e : Result A Fault) → Goes home path rank lo items e → IsNested (Instance home) path lo items
    from items (Ok a) g = subst (IsNested (Instance home) path lo) (append-nil items) (g [] (Ends (Instance home) path (rank a)))
    from items (Err e) g = g

-- What shows nothing adds nothing.
mapped : {A B : Type 0} (items : List Event) (q : Result A Fault) (f : A → Run Event Fault B) → ((a : A) → (f a).items ≡ []) → (continued items q f).items ≡ items
mapped items (Ok a) f h = ap (λ l. items ++ l) (h a) ∙ append-nil items
mapped items (Err e) f h = refl

-- what nests, by the origin whose events they are
abbrev NestsAs : Origin → List Event → Type 0
NestsAs (origin.Instance function args path) es = IsNested (Instance path) path 0 es
NestsAs (origin.Loop function rest first path range) es = IsNested Iterations path range.lo es

module _ (plan : PlanView) (home : List ℕ) (child : Origin → Evaluation) (fine : (o : Origin) → NestsAs o (child o).items) where
  abbrev rank_of : State (Unit {0}) → ℕ
  rank_of s = s.rank

  abbrev pair_rank : Value × State (Unit {0}) → ℕ
  pair_rank p = p.1.rank

  abbrev P : List ℕ → ℕ → Run Event Fault (State (Unit {0})) → Type 0
  P path lo r = Nests home path rank_of lo r

  abbrev Q : List ℕ → ℕ → Run Event Fault (Value × State (Unit {0})) → Type 0
  Q path lo r = Nests home path pair_rank lo r

  -- an event that begins children, with what they do
  with_child : {B : Type 0} (path : List ℕ) (rank : B → ℕ) (k : ℕ) (e : Event) (items : List Event) (q : Result (List Value) Fault) (f : List Value → B) → ((a : List Value) → rank (f a) ≡ k + 1) →
      ((es : List Event) → IsNested (Instance home) path (k + 1) es → IsNested (Instance home) path k (e ∷ (items ++ es))) → Nests home path rank k (after_items (e ∷ []) (continued items q (λ a. done (f a))))
  with_child path rank k e items (Ok a) f r put = record { goes = λ es n. subst (λ (l : List Event). IsNested (Instance home) path k (e ∷ (l ++ es))) (sym (append-nil items)) (put es (subst (λ (i : ℕ). IsNested (Instance home) path i es) (r a) n)) }
  with_child path rank k e items (Err g) f r put = record { goes = subst (λ (l : List Event). IsNested (Instance home) path k (e ∷ l)) (append-nil items) (put [] (Ends (Instance home) path (k + 1))) }

  -- out of a scope
  scope-nests : (path : List ℕ) (s : State (Unit {0})) (r : Run Event Fault (State (Unit {0}))) → P (path ++ s.rank ∷ []) 0 r → P path s.rank (after_items [] r then goes_out (serial child) plan path s.rank)
  scope-nests path s r h = from r.items r.ending (whole home (path ++ s.rank ∷ []) rank_of 0 r h)
    where
      from : (items : List Event) (q : Result (State (Unit {0})) Fault) → IsNested (Instance home) (path ++ s.rank ∷ []) 0 items → P path s.rank (continued items q (goes_out (serial child) plan path s.rank))
      from items (Ok a) n = record { goes = λ es m. subst (λ (l : List Event). IsNested (Instance home) path s.rank (l ++ es)) (sym (append-nil items)) (Scopes home path s.rank items es n m) }
      from items (Err f) n = record { goes = subst (IsNested (Instance home) path s.rank) (append-nil items) (Scopes home path s.rank items [] n (Ends (Instance home) path (s.rank + 1))) }

  rules_hold : Closed (serial child) plan P Q
  rules_hold = record {
    p-done = λ path s. record { goes = λ es n. n };
    q-done = λ path v s. record { goes = λ es n. n };
    p-stop = λ path k s. record { goes = Ends (Instance home) path s.rank };
    q-stop = λ path k s. record { goes = Ends (Instance home) path s.rank };
    p-print = λ path v s. record { goes = λ es n. Prints home path s.rank v es n };
    q-draw = λ path s. record { goes = λ es n. Steps home path s.rank (event.Draw (path ++ s.rank ∷ []) (drawn plan (path ++ s.rank ∷ []))) es (Draw (path ++ s.rank ∷ []) (drawn plan (path ++ s.rank ∷ []))) n };
    q-new = λ path s. record { goes = λ es n. Steps home path s.rank (event.New (path ++ s.rank ∷ [])) es (New (path ++ s.rank ∷ [])) n };
    p-join = λ path s. record { goes = λ es n. Steps home path s.rank (event.Sync (path ++ s.rank ∷ [])) es (Sync (path ++ s.rank ∷ [])) n };
    q-child = λ path n vs s _. let o = origin.Instance n vs (path ++ s.rank ∷ []) in subst (λ (r : Run Event Fault (Value × State (Unit {0}))). Nests home path pair_rank s.rank (after_items (event.Spawn (path ++ s.rank ∷ []) ∷ []) r)) (sym (then-then (child o) (λ vs. done (first_value vs, s.spawned)) (λ r. done (r.0, record s { rank = s.rank + 1; spawned = r.1 })))) (with_child path pair_rank s.rank (event.Spawn (path ++ s.rank ∷ [])) (child o).items (child o).ending (λ vs. (first_value vs, record s { rank = s.rank + 1 })) (λ a. refl) (λ es m. Spawns home path s.rank (child o).items es (fine o) m));
    p-loop = λ path n vs lo hi target s _. let o = origin.Loop n vs lo (path ++ s.rank ∷ []) (record { lo = 0; hi = hi }) in with_child path rank_of s.rank (event.Loop (path ++ s.rank ∷ [])) (child o).items (child o).ending (λ ws. record s { rank = s.rank + 1; env = with_loop_values target ws s.env }) (λ a. refl) (λ es m. Loops home path s.rank (child o).items es (fine o) m);
    p-scope = λ path s r _ h. scope-nests path s r h;
    pp = λ path n r f h k. nests-then home path rank_of rank_of n r f h k;
    pq = λ path n r f h k. nests-then home path rank_of pair_rank n r f h k;
    qp = λ path n r f h k. nests-then home path pair_rank rank_of n r f h k;
    qq = λ path n r f h k. nests-then home path pair_rank pair_rank n r f h k;
  }

  frame-nests : (o : Option Function) (vs : List Value) (s : State (Unit {0})) → Q home s.rank (frame (serial child) plan home (exec (serial child) plan) 0 o vs s)
  frame-nests None vs s = record { goes = λ es n. n }
  frame-nests (Some f) vs s =
      nests-then home home rank_of pair_rank s.rank _ _ (closed-exec (serial child) plan P Q rules_hold home 0 f.body _) (λ a. returned-q (serial child) plan P Q rules_hold home f a)

  abbrev start : State (Unit {0})
  start = record { env = []; rank = 0; steps = plan.limits.budget; spawned = tt }

  abbrev run_of : Option Function → List Value → Run Event Fault (Value × State (Unit {0}))
  run_of o vs = frame (serial child) plan home (exec (serial child) plan) 0 o vs start

  abbrev value_run : Option Function → List Value → Run Event Fault Value
  value_run o vs = run_of o vs then λ p. done p.0

  same-items : (o : Option Function) (vs : List Value) → (value_run o vs then λ v. done (v ∷ [])).items ≡ (run_of o vs).items
  same-items o vs = mapped (value_run o vs).items (value_run o vs).ending (λ v. done (v ∷ [])) (λ a. refl) ∙ mapped (run_of o vs).items (run_of o vs).ending (λ p. done p.0) (λ a. refl)

  instance-nests : (o : Option Function) (vs : List Value) → IsNested (Instance home) home 0 ((instance (serial child) plan home o vs) then λ v. done (v ∷ [])).items
  instance-nests o vs = subst (IsNested (Instance home) home 0) (sym (same-items o vs)) (whole home home pair_rank 0 (run_of o vs) (frame-nests o vs start))

  -- the iterations of the loop with this pedigree
  turns-nest : (function : ℕ) (rest : List Value) (first : ℤ) (k n : ℕ) → IsNested Iterations home k (loop_evaluation child function rest first home k n).items
  turns-nest function rest first k zero = Ends Iterations home k
  turns-nest function rest first k (suc n) = from (child o).ending (turns-nest function rest first (k + 1) n)
    where
      o : Origin
      o = origin.Instance function (Int (int_wrapping_add w64 first (pos k)) ∷ rest) (home ++ k ∷ [])

      later : Evaluation
      later = loop_evaluation child function rest first home (k + 1) n

      from : (q : Result (List Value) Fault) → IsNested Iterations home (k + 1) (loop_evaluation child function rest first home (k + 1) n).items →
          IsNested Iterations home k (continued (child o).items q (λ vs. loop_evaluation child function rest first home (k + 1) n then λ ws. done (vs ++ ws))).items
      from (Ok vs) h = Iterates home k (child o).items (later then λ ws. done (vs ++ ws)).items (fine o) (subst (IsNested Iterations home (k + 1)) (sym (mapped later.items later.ending (λ ws. done (vs ++ ws)) (λ a. refl))) h)
      from (Err e) h = subst (IsNested Iterations home k) (append-nil (child o).items) (Iterates home k (child o).items [] (fine o) (Ends Iterations home (k + 1)))

eval_with-nests : (plan : PlanView) (child : Origin → Evaluation) → ((o : Origin) → NestsAs o (child o).items) → (o : Origin) → NestsAs o (eval_with plan child o).items
eval_with-nests plan child fine (origin.Instance function args path) = instance-nests plan path child fine (function_at (functions_of plan) function) args
eval_with-nests plan child fine (origin.Loop function rest first path range) = turns-nest plan path child fine function rest first range.lo (range.hi - range.lo)

nothing-nests : (o : Origin) → NestsAs o []
nothing-nests (origin.Instance function args path) = Ends (Instance path) path 0
nothing-nests (origin.Loop function rest first path range) = Ends Iterations path range.lo

eval_below-nests : (plan : PlanView) (left : ℕ) (o : Origin) → NestsAs o (eval_below plan left o).items
eval_below-nests plan = every plan (done []) (eval_with plan) (λ o r. NestsAs o r.items) nothing-nests (eval_with-nests plan)

pub elision_is_nested : (plan : PlanView) → IsNested (Instance []) [] 0 (elision plan).items
elision_is_nested plan = eval_with-nests plan (eval_below plan (depth_left plan (main_origin plan))) (eval_below-nests plan (depth_left plan (main_origin plan))) (main_origin plan)
