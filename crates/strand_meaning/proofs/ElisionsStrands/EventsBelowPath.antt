-- The events of an evaluation and its fault stand below its path.
use Rattle.std.proofs.Common.{◌≡◌, ℕ, zero, suc, ◌+◌, ◌-◌, List, [], ◌∷◌, ◌++◌, Option, Some, None, Result, Ok, Err, refl, ◌∙◌, append_assoc}
use Rattle.std.proofs.Common.{ℤ}
use Rattle.script_grammar.specs.declared.tree.Function.{Function}
use Rattle.serial_meaning.specs.Runs.{Run, done, after_items, continued, ◌then◌}
use Rattle.serial_meaning.specs.Functions.{function_at}
use Rattle.serial_meaning.specs.Plan.{PlanView, functions_of}
use Rattle.serial_meaning.specs.Exec.{State, strand, goes_out, frame, exec, instance, with_loop_values, bound}
use Rattle.serial_meaning.specs.Eval.{Evaluation, first_value, serial, iteration, loop_evaluation, eval_with, eval_below, path_of}
use Rattle.serial_meaning.proofs.Equations.Each.{Each, each-append}
use Rattle.serial_meaning.proofs.RisingPedigrees.Closed.{Closed, closed-exec, returned-q}
use Rattle.serial_meaning.proofs.OriginFaults.Levels.{every}
use Rattle.serial_meaning.specs.declared.value.Value.{Value}
use Rattle.serial_meaning.specs.declared.event.Fault.{Fault}
use Rattle.serial_meaning.specs.declared.event.Event.{Event}
use Rattle.serial_meaning.specs.declared.event.Event.TheVariants as event
use Rattle.serial_meaning.specs.declared.origin.Origin.{Origin}
use Rattle.serial_meaning.specs.declared.origin.Origin.TheVariants as origin
use Rattle.strand_meaning.specs.Strands.{pedigree_of}

-- a pedigree has ranks after the path
abbrev pub IsUnder : List ℕ → List ℕ → Type 0
IsUnder path j = (k : ℕ) × (more : List ℕ) × (j ≡ path ++ k ∷ more)

abbrev pub EventUnder : List ℕ → Event → Type 0
EventUnder path e = IsUnder path (pedigree_of e)

abbrev pub EndUnder : {A : Type 0} → List ℕ → Result A Fault → Type 0
EndUnder path (Ok a) = Unit {0}
EndUnder path (Err f) = IsUnder path f.at

pub record StaysUnder {A : Type 0} (path : List ℕ) (r : Run Event Fault A) : Type 0 where
  pub events : Each (EventUnder path) r.items
  pub ends : EndUnder path r.ending

nothing : {A : Type 0} (path : List ℕ) (a : A) → StaysUnder path (done a)
nothing path a = record { events = tt; ends = tt }

event-first : {A : Type 0} (path : List ℕ) (e : Event) (r : Run Event Fault A) → EventUnder path e → StaysUnder path r → StaysUnder path (after_items (e ∷ []) r)
event-first path e r h k = record { events = (h, k.events); ends = k.ends }

under-then : {A B : Type 0} (path : List ℕ) (r : Run Event Fault A) (f : A → Run Event Fault B) → StaysUnder path r → ((a : A) → StaysUnder path (f a)) → StaysUnder path (r then f)
under-then {A} {B} path r f h k = from r.items r.ending h.events h.ends
  where
    from : (items : List Event) (q : Result A Fault) → Each (EventUnder path) items → EndUnder path q → StaysUnder path (continued items q f)
    from items (Ok a) e n = record { events = each-append (EventUnder path) items (f a).items e (k a).events; ends = (k a).ends }
    from items (Err g) e n = record { events = e; ends = n }

-- what stands below a child's path stands below the parent's
up : (path : List ℕ) (k : ℕ) (j : List ℕ) → IsUnder (path ++ k ∷ []) j → IsUnder path j
up path k j u = (k, u.0 ∷ u.1, u.2 ∙ append_assoc path (k ∷ []) (u.0 ∷ u.1))

up-each : (path : List ℕ) (k : ℕ) (es : List Event) → Each (EventUnder (path ++ k ∷ [])) es → Each (EventUnder path) es
up-each path k [] h = tt
up-each path k (e ∷ es) h = (up path k (pedigree_of e) h.0, up-each path k es h.1)

child-under : {A : Type 0} (path : List ℕ) (k : ℕ) (r : Run Event Fault A) → StaysUnder (path ++ k ∷ []) r → StaysUnder path r
child-under {A} path k r h = record { events = up-each path k r.items h.events; ends = by_end r.ending h.ends }
  where
    by_end : (q : Result A Fault) → EndUnder (path ++ k ∷ []) q → EndUnder path q
    by_end (Ok a) n = tt
    by_end (Err f) n = up path k f.at n

module _ (plan : PlanView) (child : Origin → Evaluation) (fine : (o : Origin) → StaysUnder (path_of o) (child o)) where
  abbrev S : Type 0
  S = State (Unit {0})

  abbrev P : List ℕ → ℕ → Run Event Fault S → Type 0
  P path n r = StaysUnder path r

  abbrev Q : List ℕ → ℕ → Run Event Fault (Value × S) → Type 0
  Q path n r = StaysUnder path r

  here : (path : List ℕ) (s : S) → IsUnder path (strand path s)
  here path s = (s.rank, [], refl)

  rules : Closed (serial child) plan P Q
  rules = record {
    p-done = λ path s. nothing path s;
    q-done = λ path v s. nothing path (v, s);
    p-stop = λ path k s. record { events = tt; ends = here path s };
    q-stop = λ path k s. record { events = tt; ends = here path s };
    p-print = λ path v s. record { events = (here path s, tt); ends = tt };
    q-draw = λ path s. record { events = (here path s, tt); ends = tt };
    q-new = λ path s. record { events = (here path s, tt); ends = tt };
    p-join = λ path s. record { events = (here path s, tt); ends = tt };
    q-child = λ path n vs s _. let o = origin.Instance n vs (strand path s) in event-first path (event.Spawn (strand path s)) _ (here path s) (under-then path (child o then λ vs. done (first_value vs, s.spawned)) (λ r. done (r.0, record s { rank = s.rank + 1; spawned = r.1 })) (under-then path (child o) (λ vs. done (first_value vs, s.spawned)) (child-under path s.rank (child o) (fine o)) (λ vs. nothing path (first_value vs, s.spawned))) (λ r. nothing path (r.0, record s { rank = s.rank + 1; spawned = r.1 })));
    p-loop = λ path n vs lo hi target s _. let o = origin.Loop n vs lo (strand path s) (record { lo = 0; hi = hi }) in event-first path (event.Loop (strand path s)) _ (here path s) (under-then path (child o) (λ ws. done (record s { rank = s.rank + 1; env = with_loop_values target ws s.env })) (child-under path s.rank (child o) (fine o)) (λ ws. nothing path (record s { rank = s.rank + 1; env = with_loop_values target ws s.env })));
    p-scope = λ path s r _ h. under-then path r (goes_out (serial child) plan path s.rank) (child-under path s.rank r h) (λ a. nothing path (record a { rank = s.rank + 1 }));
    pp = λ path n r f h k. under-then path r f h k;
    pq = λ path n r f h k. under-then path r f h k;
    qp = λ path n r f h k. under-then path r f h k;
    qq = λ path n r f h k. under-then path r f h k;
  }

  frame-under : (path : List ℕ) (o : Option Function) (vs : List Value) (s : S) → StaysUnder path (frame (serial child) plan path (exec (serial child) plan) 0 o vs s)
  frame-under path None vs s = record { events = tt; ends = tt }
  frame-under path (Some f) vs s =
      under-then path (exec (serial child) plan path 0 f.body (start f)) _ (closed-exec (serial child) plan P Q rules path 0 f.body (start f)) (λ a. returned-q (serial child) plan P Q rules path f a)
    where
      start : Function → S
      start f = record s { env = bound f.params vs; spawned = tt }

  instance-under : (path : List ℕ) (o : Option Function) (vs : List Value) → StaysUnder path (instance (serial child) plan path o vs then λ v. done (v ∷ []))
  instance-under path o vs =
      under-then path (instance (serial child) plan path o vs) (λ v. done (v ∷ [])) (under-then path (frame (serial child) plan path (exec (serial child) plan) 0 o vs begins) (λ r. done r.0) (frame-under path o vs begins) (λ r. nothing path r.0)) (λ v. nothing path (v ∷ []))
    where
      begins : S
      begins = record { env = []; rank = 0; steps = plan.limits.budget; spawned = tt }

  turns-under : (path : List ℕ) (function : ℕ) (rest : List Value) (first : ℤ) (k n : ℕ) → StaysUnder path (loop_evaluation child function rest first path k n)
  turns-under path function rest first k zero = nothing path []
  turns-under path function rest first k (suc n) =
      let o = iteration function rest first path k in
      under-then path (child o) (λ vs. loop_evaluation child function rest first path (k + 1) n then λ ws. done (vs ++ ws)) (child-under path k (child o) (fine o))
      (λ vs. under-then path (loop_evaluation child function rest first path (k + 1) n) (λ ws. done (vs ++ ws)) (turns-under path function rest first (k + 1) n) (λ ws. nothing path (vs ++ ws)))

with-under : (plan : PlanView) (child : Origin → Evaluation) → ((o : Origin) → StaysUnder (path_of o) (child o)) → (o : Origin) → StaysUnder (path_of o) (eval_with plan child o)
with-under plan child fine (origin.Instance function args path) = instance-under plan child fine path (function_at (functions_of plan) function) args
with-under plan child fine (origin.Loop function rest first path range) = turns-under plan child fine path function rest first range.lo (range.hi - range.lo)

-- what an origin's children give stands below their paths
pub children-under : (plan : PlanView) (left : ℕ) (o : Origin) → StaysUnder (path_of o) (eval_below plan left o)
children-under plan = every plan (done []) (eval_with plan) (λ o r. StaysUnder (path_of o) r) (λ o. nothing (path_of o) []) (with-under plan)
