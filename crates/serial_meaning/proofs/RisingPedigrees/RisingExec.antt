-- The pedigrees of the elision rise.
use Rattle.std.proofs.Common.{◌≡◌, ℕ, zero, suc, ◌+◌, ◌-◌, ◌≤◌, List, [], ◌∷◌, ◌++◌, Option, Some, None, Result, Ok, Err, inl, refl, sym, ap, ◌∙◌, arith, append_assoc, append-nil, subst}
use Rattle.std.proofs.Common.{ℤ, pos}
use Rattle.std.specs.Int.{w64, int_wrapping_add}
use Rattle.std.specs.Prelude.{AllPairs}
use Rattle.ped_path.specs.Path.{IsBefore}
use Rattle.serial_meaning.specs.Laws.{raising_pedigrees}
use Rattle.serial_meaning.specs.Runs.{Run, done, after_items, continued, ◌then◌}
use Rattle.serial_meaning.specs.Functions.{function_at}
use Rattle.serial_meaning.specs.Exec.{State, goes_out, frame, exec, instance, with_loop_values}
use Rattle.serial_meaning.specs.Eval.{Evaluation, serial, loop_evaluation, eval_with, eval_below, eval, depth_left, path_of, first_value, main_origin, elision}
use Rattle.serial_meaning.proofs.Equations.RunLaws.{then-then}
use Rattle.serial_meaning.proofs.RisingPedigrees.Closed.{Closed, closed-exec, returned-q}
use Rattle.serial_meaning.proofs.RisingPedigrees.Order.{before-prefix}
use Rattle.serial_meaning.proofs.Equations.Each.{Each}
use Rattle.serial_meaning.proofs.OriginFaults.Levels.{every}
use Rattle.serial_meaning.proofs.RisingPedigrees.Rising.{BeforeAll, Rise, rise-pairs, Within, AtMost, Below, Rising, rising-then, within-wider}
use Rattle.script_grammar.specs.declared.tree.Function.{Function}
use Rattle.serial_meaning.specs.declared.value.Value.{Value}
use Rattle.serial_meaning.specs.declared.value.Value.TheVariants.{Int}
use Rattle.serial_meaning.specs.declared.event.Fault.{Fault}
use Rattle.serial_meaning.specs.declared.event.Event.{Event}
use Rattle.serial_meaning.specs.declared.event.Event.TheVariants as event
use Rattle.serial_meaning.specs.declared.origin.Origin.{Origin}
use Rattle.serial_meaning.specs.declared.origin.Origin.TheVariants as origin
use Rattle.serial_meaning.specs.Plan.{PlanView, functions_of}

-- no event stands after the fault
abbrev pub EndsAfter : List ℕ → List (List ℕ) → Result (List Value) Fault → Type 0
EndsAfter path js (Ok vs) = Unit {0}
EndsAfter path js (Err f) = (k : ℕ) × (more : List ℕ) × (f.at ≡ path ++ k ∷ more) × Each (AtMost f.at) js

-- The events of an evaluation rise, and all stand below the path and none after its fault.
pub record RisesBelow (path : List ℕ) (r : Evaluation) : Type 0 where
  pub hi : ℕ
  pub within : Within path 0 hi (raising_pedigrees r.items)
  pub rise : Rise (raising_pedigrees r.items)
  pub ends : EndsAfter path (raising_pedigrees r.items) r.ending

module _ (plan : PlanView) (child : Origin → Evaluation) (fine : (o : Origin) → RisesBelow (path_of o) (child o)) where
  abbrev rank_of : State (Unit {0}) → ℕ
  rank_of s = s.rank

  abbrev pair_rank : Value × State (Unit {0}) → ℕ
  pair_rank p = p.1.rank

  abbrev P : List ℕ → ℕ → Run Event Fault (State (Unit {0})) → Type 0
  P path lo r = Rising path rank_of lo r

  abbrev Q : List ℕ → ℕ → Run Event Fault (Value × State (Unit {0})) → Type 0
  Q path lo r = Rising path pair_rank lo r

  below-child : (path : List ℕ) (k hi : ℕ) (js : List (List ℕ)) → Within (path ++ k ∷ []) 0 hi js → Within path k (k + 1) js
  below-child path k hi [] w = tt
  below-child path k hi (j ∷ js) w = (let x = w.0 in (k, x.0 ∷ x.1, x.2 ∙ append_assoc path (k ∷ []) (x.0 ∷ x.1), omega arith, omega arith), below-child path k hi js w.1)

  before-child : (path : List ℕ) (k hi : ℕ) (js : List (List ℕ)) → Within (path ++ k ∷ []) 0 hi js → BeforeAll (path ++ k ∷ []) js
  before-child path k hi [] w = tt
  before-child path k hi (j ∷ js) w = (let x = w.0 in rw x.2 (before-prefix (path ++ k ∷ []) x.0 x.1), before-child path k hi js w.1)

  one : (path : List ℕ) (k : ℕ) → Within path k (k + 1) ((path ++ k ∷ []) ∷ [])
  one path k = ((k, [], refl, omega arith, omega arith), tt)

  -- a child's fault stands where the child does
  fault-child : (path : List ℕ) (k : ℕ) (js : List (List ℕ)) (f : Fault) → EndsAfter (path ++ k ∷ []) js (Err f) → (i : ℕ) × (more : List ℕ) × (f.at ≡ path ++ i ∷ more) × (k ≤ i) × Each (AtMost f.at) js
  fault-child path k js f n = (k, n.0 ∷ n.1, n.2 ∙ append_assoc path (k ∷ []) (n.0 ∷ n.1), omega arith, n.3)

  with_child : {B : Type 0} (path : List ℕ) (rank : B → ℕ) (k : ℕ) (e : Event) (items : List Event) (q : Result (List Value) Fault) (f : List Value → B) → ((a : List Value) → rank (f a) ≡ k + 1) → raising_pedigrees (e ∷ items) ≡ (path ++ k ∷ []) ∷ raising_pedigrees items →
      (hi : ℕ) → Within (path ++ k ∷ []) 0 hi (raising_pedigrees items) → Rise (raising_pedigrees items) → EndsAfter (path ++ k ∷ []) (raising_pedigrees items) q → Rising path rank k (after_items (e ∷ []) (continued items q (λ a. done (f a))))
  with_child path rank k e items (Ok a) f r p hi w s n = record {
    hi = k + 1;
    below = (sym (r a), omega arith);
    within = rw (append-nil, p) ((one path k).0, below-child path k hi (raising_pedigrees items) w);
    rise = rw (append-nil, p) (before-child path k hi (raising_pedigrees items) w, s);
  }
  with_child path rank k e items (Err g) f r p hi w s n = record {
    hi = k + 1;
    below = rw p (k, n.0 ∷ n.1, n.2 ∙ append_assoc path (k ∷ []) (n.0 ∷ n.1), omega arith, (inl (subst (IsBefore (path ++ k ∷ [])) (sym n.2) (before-prefix (path ++ k ∷ []) n.0 n.1)), n.3));
    within = rw p ((one path k).0, below-child path k hi (raising_pedigrees items) w);
    rise = rw p (before-child path k hi (raising_pedigrees items) w, s);
  }

  -- out of a scope: all that its block and its sync do stands below its rank
  scope-rises : (path : List ℕ) (s : State (Unit {0})) (r : Run Event Fault (State (Unit {0}))) → Rising (path ++ s.rank ∷ []) rank_of 0 r →
      Rising path rank_of s.rank (after_items [] r then goes_out (serial child) plan path s.rank)
  scope-rises path s r h = from r.items r.ending h.hi h.below h.within h.rise
    where
      from : (items : List Event) (q : Result (State (Unit {0})) Fault) (hi : ℕ) → Below (path ++ s.rank ∷ []) rank_of 0 hi (raising_pedigrees items) q → Within (path ++ s.rank ∷ []) 0 hi (raising_pedigrees items) → Rise (raising_pedigrees items) →
          Rising path rank_of s.rank (continued items q (goes_out (serial child) plan path s.rank))
      from items (Ok a) hi b w t = record {
        hi = s.rank + 1;
        below = (refl, omega arith);
        within = rw append-nil (below-child path s.rank hi (raising_pedigrees items) w);
        rise = rw append-nil t;
      }
      from items (Err f) hi b w t = record {
        hi = s.rank + 1;
        below = (s.rank, b.0 ∷ b.1, b.2 ∙ append_assoc path (s.rank ∷ []) (b.0 ∷ b.1), omega arith, b.4);
        within = below-child path s.rank hi (raising_pedigrees items) w;
        rise = t;
      }

  rules_hold : Closed (serial child) plan P Q
  rules_hold = record {
    p-done = λ path s. record { hi = s.rank; below = (refl, omega arith); within = tt; rise = tt };
    q-done = λ path v s. record { hi = s.rank; below = (refl, omega arith); within = tt; rise = tt };
    p-stop = λ path k s. record { hi = s.rank; below = (s.rank, [], refl, omega arith, tt); within = tt; rise = tt };
    q-stop = λ path k s. record { hi = s.rank; below = (s.rank, [], refl, omega arith, tt); within = tt; rise = tt };
    p-print = λ path v s. record { hi = s.rank; below = (refl, omega arith); within = tt; rise = tt };
    q-draw = λ path s. record { hi = s.rank + 1; below = (refl, omega arith); within = one path s.rank; rise = (tt, tt) };
    q-new = λ path s. record { hi = s.rank + 1; below = (refl, omega arith); within = one path s.rank; rise = (tt, tt) };
    p-join = λ path s. record { hi = s.rank + 1; below = (refl, omega arith); within = one path s.rank; rise = (tt, tt) };
    q-child = λ path n vs s _. let o = origin.Instance n vs (path ++ s.rank ∷ []) in subst (λ (r : Run Event Fault (Value × State (Unit {0}))). Rising path pair_rank s.rank (after_items (event.Spawn (path ++ s.rank ∷ []) ∷ []) r)) (sym (then-then (child o) (λ vs. done (first_value vs, s.spawned)) (λ r. done (r.0, record s { rank = s.rank + 1; spawned = r.1 })))) (with_child path pair_rank s.rank (event.Spawn (path ++ s.rank ∷ [])) (child o).items (child o).ending (λ vs. (first_value vs, record s { rank = s.rank + 1 })) (λ a. refl) refl (fine o).hi (fine o).within (fine o).rise (fine o).ends);
    p-loop = λ path n vs lo hi target s _. let o = origin.Loop n vs lo (path ++ s.rank ∷ []) (record { lo = 0; hi = hi }) in with_child path rank_of s.rank (event.Loop (path ++ s.rank ∷ [])) (child o).items (child o).ending (λ ws. record s { rank = s.rank + 1; env = with_loop_values target ws s.env }) (λ a. refl) refl (fine o).hi (fine o).within (fine o).rise (fine o).ends;
    p-scope = λ path s r _ h. scope-rises path s r h;
    pp = λ path n r f h k. rising-then path rank_of rank_of n r f h k;
    pq = λ path n r f h k. rising-then path rank_of pair_rank n r f h k;
    qp = λ path n r f h k. rising-then path pair_rank rank_of n r f h k;
    qq = λ path n r f h k. rising-then path pair_rank pair_rank n r f h k;
  }

  -- an instance, without its value's list
  frame-rises : (path : List ℕ) (o : Option Function) (vs : List Value) (s : State (Unit {0})) → Q path s.rank (frame (serial child) plan path (exec (serial child) plan) 0 o vs s)
  frame-rises path None vs s = record { hi = s.rank; below = (refl, omega arith); within = tt; rise = tt }
  frame-rises path (Some f) vs s =
      rising-then path rank_of pair_rank s.rank _ _ (closed-exec (serial child) plan P Q rules_hold path 0 f.body _) (λ a. returned-q (serial child) plan P Q rules_hold path f a)

  mapped : {A B : Type 0} (items : List Event) (q : Result A Fault) (f : A → Run Event Fault B) → ((a : A) → (f a).items ≡ []) → raising_pedigrees (continued items q f).items ≡ raising_pedigrees items
  mapped items (Ok a) f h = ap raising_pedigrees (ap (λ l. items ++ l) (h a) ∙ append-nil items)
  mapped items (Err e) f h = refl

  abbrev start : State (Unit {0})
  start = record { env = []; rank = 0; steps = plan.limits.budget; spawned = tt }

  abbrev run_of : List ℕ → Option Function → List Value → Run Event Fault (Value × State (Unit {0}))
  run_of path o vs = frame (serial child) plan path (exec (serial child) plan) 0 o vs start

  abbrev value_run : List ℕ → Option Function → List Value → Run Event Fault Value
  value_run path o vs = run_of path o vs then λ p. done p.0

  same-places : (path : List ℕ) (o : Option Function) (vs : List Value) → raising_pedigrees (value_run path o vs then λ v. done (v ∷ [])).items ≡ raising_pedigrees (run_of path o vs).items
  same-places path o vs = mapped (value_run path o vs).items (value_run path o vs).ending (λ v. done (v ∷ [])) (λ a. refl) ∙ mapped (run_of path o vs).items (run_of path o vs).ending (λ p. done p.0) (λ a. refl)

  ends-mapped : {A B : Type 0} (path : List ℕ) (rank : A → ℕ) (hi : ℕ) (js : List (List ℕ)) (r : Run Event Fault A) (f : A → B) (g : B → List Value) → Below path rank 0 hi js r.ending → EndsAfter path js ((r then λ a. done (f a)) then λ b. done (g b)).ending
  ends-mapped {A} {B} path rank hi js r f g b = from r.items r.ending b
    where
      from : (items : List Event) (q : Result A Fault) → Below path rank 0 hi js q → EndsAfter path js (continued items q (λ a. done (f a)) then λ b. done (g b)).ending
      from items (Ok a) c = tt
      from items (Err e) c = (c.0, c.1, c.2, c.4)

  pub instance-rises : (path : List ℕ) (o : Option Function) (vs : List Value) → RisesBelow path ((instance (serial child) plan path o vs) then λ v. done (v ∷ []))
  instance-rises path o vs =
      let r = frame-rises path o vs start in
      let run : Evaluation = instance (serial child) plan path o vs then λ v. done (v ∷ []) in
      record {
        hi = r.hi;
        within = subst (Within path 0 r.hi) (sym (same-places path o vs)) r.within;
        rise = subst Rise (sym (same-places path o vs)) r.rise;
        ends = subst (λ js. EndsAfter path js run.ending) (sym (same-places path o vs)) (ends-mapped path pair_rank r.hi (raising_pedigrees (run_of path o vs).items) (run_of path o vs) (λ p. p.0) (λ v. v ∷ []) r.below);
      }

  pub turns-rise : (path : List ℕ) (function : ℕ) (rest : List Value) (first : ℤ) (k n : ℕ) → Rising path (λ (vs : List Value). k + n) k (loop_evaluation child function rest first path k n)
  turns-rise path function rest first k zero = record { hi = k; below = (omega arith, omega arith); within = tt; rise = tt }
  turns-rise path function rest first k (suc n) =
      rising-then path (λ (vs : List Value). k + 1) (λ (vs : List Value). k + suc n) k (child o) _ (a_child (child o).ending (fine o).ends) (λ vs. rising-then path (λ (ws : List Value). k + 1 + n) (λ (ws : List Value). k + suc n) (k + 1) (loop_evaluation child function rest first path (k + 1) n) _ (turns-rise path function rest first (k + 1) n) (λ ws. record { hi = k + 1 + n; below = (omega arith, omega arith); within = tt; rise = tt }))
    where
      o : Origin
      o = origin.Instance function (Int (int_wrapping_add w64 first (pos k)) ∷ rest) (path ++ k ∷ [])

      a_child : (q : Result (List Value) Fault) → EndsAfter (path ++ k ∷ []) (raising_pedigrees (child o).items) q → Rising path (λ (vs : List Value). k + 1) k (record { items = (child o).items; ending = q })
      a_child (Ok vs) n = record { hi = k + 1; below = (refl, omega arith); within = below-child path k (fine o).hi (raising_pedigrees (child o).items) (fine o).within; rise = (fine o).rise }
      a_child (Err e) n = record { hi = k + 1; below = fault-child path k (raising_pedigrees (child o).items) e n; within = below-child path k (fine o).hi (raising_pedigrees (child o).items) (fine o).within; rise = (fine o).rise }

pub eval_with-rises : (plan : PlanView) (child : Origin → Evaluation) → ((o : Origin) → RisesBelow (path_of o) (child o)) → (o : Origin) → RisesBelow (path_of o) (eval_with plan child o)
eval_with-rises plan child fine (origin.Instance function args path) = instance-rises plan child fine path (function_at (functions_of plan) function) args
eval_with-rises plan child fine (origin.Loop function rest first path range) =
    let r = turns-rise plan child fine path function rest first range.lo (range.hi - range.lo) in record { hi = r.hi; within = within-wider path range.lo 0 r.hi r.hi _ (omega arith) (omega arith) r.within; rise = r.rise; ends = by_end (loop_evaluation child function rest first path range.lo (range.hi - range.lo)).ending r.hi (raising_pedigrees (loop_evaluation child function rest first path range.lo (range.hi - range.lo)).items) r.below }
  where
    by_end : (q : Result (List Value) Fault) (hi : ℕ) (js : List (List ℕ)) → Below path (λ (vs : List Value). range.lo + (range.hi - range.lo)) range.lo hi js q → EndsAfter path js q
    by_end (Ok vs) hi js b = tt
    by_end (Err f) hi js b = (b.0, b.1, b.2, b.4)

pub eval_below-rises : (plan : PlanView) (left : ℕ) (o : Origin) → RisesBelow (path_of o) (eval_below plan left o)
eval_below-rises plan = every plan (done []) (eval_with plan) (λ o r. RisesBelow (path_of o) r) (λ o. record { hi = 0; within = tt; rise = tt; ends = tt }) (eval_with-rises plan)

pub eval-rises : (plan : PlanView) (o : Origin) → RisesBelow (path_of o) (eval plan o)
eval-rises plan o = eval_with-rises plan (eval_below plan (depth_left plan o)) (eval_below-rises plan (depth_left plan o)) o

-- Of two events of the elision that are no printing, the earlier one's pedigree is before the later one's.
pub elision_rises : (plan : PlanView) → AllPairs IsBefore (raising_pedigrees (elision plan).items)
elision_rises plan = rise-pairs (raising_pedigrees (elision plan).items) (eval-rises plan (main_origin plan)).rise
