-- Statements one after another, and as many levels as there are steps.
use Rattle.std.proofs.Common.{◌≡◌, ℕ, zero, suc, ◌+◌, ◌-◌, ◌≤◌, Bool, true, false, List, [], ◌∷◌, ◌++◌, Option, Some, None, Result, Ok, Err, refl, ap, sym, ◌∙◌, arith, length, nat_lt, if◌then◌else◌}
use Rattle.std.proofs.Common.{ℤ, ◌-ℤ◌}
use Rattle.serial_meaning.proofs.Equations.RunLaws.{then-then, then-same, Gives, then-gives, anything, gives-at}
use Rattle.serial_meaning.specs.Runs.{Run, done, after_items, ◌then◌}
use Rattle.serial_meaning.specs.Values.{value_of, values_of, content_of, items_of, as_integer, is_true, at_index}
use Rattle.serial_meaning.specs.Functions.{function_number, function_at, any_spawns}
use Rattle.serial_meaning.specs.Exec.{State, Interpretation, BlockMeaning, strand, fault, unless_fault, paid, paid_from, tested, has_room, loop_fits, spawn, sync_here, sync_at, leaves, all_happen, implied, function_end, frame, called, right_side, found, store, looped, does, statement, each, statements, exec, count_of, set_scalar, bound}
use Rattle.script_grammar.specs.declared.tree.Function.{Function}
use Rattle.script_grammar.specs.declared.tree.CallText.{CallText}
use Rattle.script_grammar.specs.declared.tree.Expr.{Expr}
use Rattle.script_grammar.specs.declared.tree.Right.{Right}
use Rattle.script_grammar.specs.declared.tree.Right.TheVariants as right
use Rattle.script_grammar.specs.declared.tree.Stmt.{Stmt, out-Stmt}
use Rattle.script_grammar.specs.declared.tree.Act.{Act, out-Act}
use Rattle.script_grammar.specs.declared.tree.Act.TheOpen as act
use Rattle.script_grammar.specs.declared.tree.Act.TheOpen.{Act-F, Stmt-F}
use Rattle.serial_meaning.specs.declared.value.Value.{Value}
use Rattle.serial_meaning.specs.declared.event.FaultKind.{FaultKind}
use Rattle.serial_meaning.specs.declared.event.FaultKind.TheVariants.{Index, Depth, Calls, Budget}
use Rattle.script_grammar.specs.declared.tree.Name.{Name}
use Rattle.serial_meaning.specs.declared.origin.Origin.TheVariants as origin
use Rattle.serial_meaning.specs.Plan.{PlanView, functions_of}
use Rattle.serial_meaning.specs.Eval.{Evaluation, serial}
use Rattle.serial_meaning.specs.Open.{deferring}
use Rattle.serial_meaning.specs.Laws.{Equations}
use Rattle.serial_meaning.specs.declared.origin.Origin.{Origin}

module _ {I E K : Type 0} (how : Interpretation I E K) (plan : PlanView) (path : List ℕ) where
  abbrev Blocks : Type 0
  Blocks = BlockMeaning I E K

  pub each-append : (one : Stmt → State K → Run I E (State K)) (xs ys : List Stmt) (s : State K) →
      each how plan path one (xs ++ ys) s ≡ (each how plan path one xs s then each how plan path one ys)
  each-append one [] ys s = refl
  each-append one (x ∷ xs) ys s =
      then-same (one x s) _ _ (λ s' e. each-append one xs ys s') ∙ sym (then-then (one x s) (each how plan path one xs) (each how plan path one ys))

  -- no more steps are left than there were
  abbrev pub Within : ℕ → State K → Type 0
  Within n s = s.steps ≤ n

  abbrev pub PairWithin : ℕ → Value × State K → Type 0
  PairWithin n p = p.1.steps ≤ n

  abbrev pub Spends : ℕ → Blocks → Type 0
  Spends n b = (here : List ℕ) (calls : ℕ) (sts : List Stmt) (s : State K) → s.steps ≤ n → Gives (Within s.steps) (b here calls sts s).ending

  -- two blocks are alike up to n steps, and leave no more
  abbrev pub Alike : ℕ → Blocks → Blocks → Type 0
  Alike n b c = (here : List ℕ) (calls : ℕ) (sts : List Stmt) (s : State K) → s.steps ≤ n → b here calls sts s ≡ c here calls sts s

  given-same : {A B : Type 0} (o : Result A FaultKind) (s : State K) (f g : A → Run I E B) → ((a : A) → f a ≡ g a) →
      unless_fault how plan path o s f ≡ unless_fault how plan path o s g
  given-same (Ok a) s f g same = same a
  given-same (Err k) s f g same = refl

  tested-same : {A : Type 0} (b : Bool) (k : FaultKind) (s : State K) (f g : Run I E A) → f ≡ g →
      tested how plan path b k s f ≡ tested how plan path b k s g
  tested-same true k s f g same = same
  tested-same false k s f g same = refl

  frame-same : (n : ℕ) (b c : Blocks) → Alike n b c → (calls : ℕ) (o : Option Function) (vs : List Value) (s : State K) → s.steps ≤ n →
      frame how plan path b calls o vs s ≡ frame how plan path c calls o vs s
  frame-same n b c alike calls None vs s h = refl
  frame-same n b c alike calls (Some f) vs s h =
      ap (λ r. r then function_end how plan path f) (alike path calls f.body (record s { env = bound f.params vs; spawned = how.none }) h)

  called-same : (n : ℕ) (b c : Blocks) → Alike n b c → (calls : ℕ) (t : CallText) (s : State K) → s.steps ≤ n →
      called how plan path b calls t s ≡ called how plan path c calls t s
  called-same n b c alike calls t s h =
      given-same (values_of t.args s.env) s _ _ (λ vs. tested-same (nat_lt calls 256) Calls s _ _ (ap (λ r. r then λ r. done (r.0, record s { rank = r.1.rank; steps = r.1.steps }))
      (frame-same n b c alike (calls + 1) (function_at (functions_of plan) (function_number (functions_of plan) t.name.bytes)) vs s h)))

  right_side-same : (n : ℕ) (b c : Blocks) → Alike n b c → (calls : ℕ) (r : Right) (s : State K) → s.steps ≤ n →
      right_side how plan path b calls r s ≡ right_side how plan path c calls r s
  right_side-same n b c alike calls (right.Value e) s h = refl
  right_side-same n b c alike calls (right.Draw at) s h = refl
  right_side-same n b c alike calls (right.New at) s h = refl
  right_side-same n b c alike calls (right.Call at t) s h = called-same n b c alike calls t s h
  right_side-same n b c alike calls (right.Spawn at t) s h = refl

  if-same : {A : Type 0} (v : Bool) (f g k : Run I E A) → f ≡ g → (if v then f else k) ≡ (if v then g else k)
  if-same true f g k same = same
  if-same false f g k same = refl

  given-gives : {A B : Type 0} (Q : B → Type 0) (o : Result A FaultKind) (s : State K) (f : A → Run I E B) → ((a : A) → Gives Q (f a).ending) →
      Gives Q (unless_fault how plan path o s f).ending
  given-gives Q (Ok a) s f go = go a
  given-gives Q (Err k) s f go = tt

  tested-gives : {A : Type 0} (Q : A → Type 0) (b : Bool) (k : FaultKind) (s : State K) (f : Run I E A) → Gives Q f.ending →
      Gives Q (tested how plan path b k s f).ending
  tested-gives Q true k s f h = h
  tested-gives Q false k s f h = tt

  if-gives : {A : Type 0} (Q : A → Type 0) (b : Bool) (f g : Run I E A) → Gives Q f.ending → Gives Q g.ending →
      Gives Q (if b then f else g).ending
  if-gives Q true f g h k = h
  if-gives Q false f g h k = k

  join_at-within : (here : List ℕ) (s : State K) → Gives (Within s.steps) (sync_at how plan path here s).ending
  join_at-within here s = then-gives (λ (k : K). Unit {0}) (Within s.steps) (how.sync s.spawned) _ (anything _) (λ k u. omega arith)

  join-within : (s : State K) → Gives (Within s.steps) (sync_here how plan path s).ending
  join-within s = join_at-within path s

  leaves-within : (rank : ℕ) (s : State K) → Gives (Within s.steps) (leaves how plan path rank s).ending
  leaves-within rank s = then-gives (Within s.steps) (Within s.steps) (sync_at how plan path (path ++ rank ∷ []) s) _ (join_at-within (path ++ rank ∷ []) s) (λ a g. g)

  weaker : (m n : ℕ) (r : Result (State K) E) → m ≤ n → Gives (Within m) r → Gives (Within n) r
  weaker m n (Ok s) h k = omega arith
  weaker m n (Err e) h k = tt

  pair-weaker : (m n : ℕ) (r : Result (Value × State K) E) → m ≤ n → Gives (PairWithin m) r → Gives (PairWithin n) r
  pair-weaker m n (Ok s) h k = omega arith
  pair-weaker m n (Err e) h k = tt

  paid-gives : {A : Type 0} (s : State K) (Q : ℕ → A → Type 0) (f : State K → Run I E A) → ((k : ℕ) → suc k ≤ s.steps → Gives (Q s.steps) (f (record s { steps = k })).ending) →
      Gives (Q s.steps) (paid how plan path s f).ending
  paid-gives {A} s Q f go = from s.steps go
    where
      from : (n : ℕ) → ((k : ℕ) → suc k ≤ n → Gives (Q s.steps) (f (record s { steps = k })).ending) → Gives (Q s.steps) (paid_from how plan path n s f).ending
      from zero go = tt
      from (suc k) go = go k (omega arith)

  ends-within : (f : Function) (s : State K) → Gives (PairWithin s.steps) (unless_fault how plan path (value_of f.result s.env) s (λ v. done (v, s))).ending
  ends-within f s = given-gives (PairWithin s.steps) (value_of f.result s.env) s _ (λ v. omega arith)

  implied-within : (b : Bool) (s : State K) → Gives (Within s.steps) (implied how plan path b s).ending
  implied-within true s = join-within s
  implied-within false s = omega arith

  returned-within : (f : Function) (s : State K) → Gives (PairWithin s.steps) (function_end how plan path f s).ending
  returned-within f s =
      paid-gives s PairWithin _ (λ k h. let s' : State K = record s { steps = k } in then-gives (Within k) (PairWithin s.steps) (implied how plan path (any_spawns f.body) s') _ (implied-within (any_spawns f.body) s')
      (λ a g. pair-weaker a.steps s.steps (unless_fault how plan path (value_of f.result a.env) a (λ v. done (v, a))).ending (omega arith) (ends-within f a)))

  spawn-within : (t : CallText) (s : State K) → Gives (PairWithin s.steps) (spawn how plan path t s).ending
  spawn-within t s =
      given-gives (PairWithin s.steps) (values_of t.args s.env) s _ (λ vs. tested-gives (PairWithin s.steps) (nat_lt (length path + 1) plan.limits.depth) Depth s _
      (then-gives (λ (p : Value × K). Unit {0}) (PairWithin s.steps) (how.spawn (origin.Instance (function_number (functions_of plan) t.name.bytes) vs (strand path s)) s.spawned) _ (anything _) (λ p u. omega arith)))

  frame-within : (n : ℕ) (b : Blocks) → Spends n b → (calls : ℕ) (o : Option Function) (vs : List Value) (s : State K) → s.steps ≤ n →
      Gives (PairWithin s.steps) (frame how plan path b calls o vs s).ending
  frame-within n b spends calls None vs s h = omega arith
  frame-within n b spends calls (Some f) vs s h =
      then-gives (Within s.steps) (PairWithin s.steps) (b path calls f.body (record s { env = bound f.params vs; spawned = how.none })) _ (spends path calls f.body _ h)
      (λ a g. pair-weaker a.steps s.steps (function_end how plan path f a).ending g (returned-within f a))

  called-within : (n : ℕ) (b : Blocks) → Spends n b → (calls : ℕ) (t : CallText) (s : State K) → s.steps ≤ n →
      Gives (PairWithin s.steps) (called how plan path b calls t s).ending
  called-within n b spends calls t s h =
      given-gives (PairWithin s.steps) (values_of t.args s.env) s _ (λ vs. tested-gives (PairWithin s.steps) (nat_lt calls 256) Calls s _
      (then-gives (PairWithin s.steps) (PairWithin s.steps) (frame how plan path b (calls + 1) (function_at (functions_of plan) (function_number (functions_of plan) t.name.bytes)) vs s) _
      (frame-within n b spends (calls + 1) (function_at (functions_of plan) (function_number (functions_of plan) t.name.bytes)) vs s h) (λ p g. g)))

  right_side-within : (n : ℕ) (b : Blocks) → Spends n b → (calls : ℕ) (r : Right) (s : State K) → s.steps ≤ n →
      Gives (PairWithin s.steps) (right_side how plan path b calls r s).ending
  right_side-within n b spends calls (right.Value e) s h = given-gives (PairWithin s.steps) (value_of e s.env) s _ (λ v. omega arith)
  right_side-within n b spends calls (right.Draw at) s h = omega arith
  right_side-within n b spends calls (right.New at) s h = omega arith
  right_side-within n b spends calls (right.Call at t) s h = called-within n b spends calls t s h
  right_side-within n b spends calls (right.Spawn at t) s h = spawn-within t s

  found-gives : (Q : State K → Type 0) (o : Option ℤ) (s : State K) (r : Run I E (State K)) → Gives Q r.ending → Gives Q (found how plan path o s r).ending
  found-gives Q None s r h = tt
  found-gives Q (Some old) s r h = h

  store-within : (x : Name) (i e : Expr) (s : State K) → Gives (Within s.steps) (store how plan path x i e s).ending
  store-within x i e s =
      given-gives (Within s.steps) (value_of i s.env) s _ (λ k. found-gives (Within s.steps) (at_index (items_of (content_of s.env x.bytes)) (as_integer k)) s _ (given-gives (Within s.steps) (value_of e s.env) s _ (λ v. omega arith)))

  looped-within : (lo : ℤ) (n : ℕ) (vs : List Value) (target : Option Name) (t : CallText) (s : State K) → Gives (Within s.steps) (looped how plan path lo n vs target t s).ending
  looped-within lo n vs target t s =
      let s' : State K = record s { steps = s.steps - n } in tested-gives (Within s.steps) (nat_lt n (s.steps + 1)) Budget s _ (tested-gives (Within s.steps) (has_room target n s.env) Index s' _ (tested-gives (Within s.steps) (loop_fits plan path n) Depth s' _
      (then-gives (λ (p : List Value). Unit {0}) (Within s.steps) (how.loop (origin.Loop (function_number (functions_of plan) t.name.bytes) vs lo (strand path s') (record { lo = 0; hi = n }))) _ (anything _) (λ p u. omega arith))))

  does-within : (n : ℕ) (b : Blocks) → Spends n b → (calls : ℕ) (st : Stmt) (a : Act-F Act Stmt) (s : State K) → s.steps ≤ n →
      Gives (Within s.steps) (does how plan path b calls st a s).ending
  does-within n b spends calls st (act.Let x r) s h = then-gives (PairWithin s.steps) (Within s.steps) (right_side how plan path b calls r s) _ (right_side-within n b spends calls r s h) (λ p g. g)
  does-within n b spends calls st (act.Array x m) s h = omega arith
  does-within n b spends calls st (act.Set x r) s h = then-gives (PairWithin s.steps) (Within s.steps) (right_side how plan path b calls r s) _ (right_side-within n b spends calls r s h) (λ p g. g)
  does-within n b spends calls st (act.Store x i e) s h = store-within x i e s
  does-within n b spends calls st (act.Spawn t) s h = then-gives (PairWithin s.steps) (Within s.steps) (spawn how plan path t s) _ (spawn-within t s) (λ p g. g)
  does-within n b spends calls st (act.Call t) s h = then-gives (PairWithin s.steps) (Within s.steps) (called how plan path b calls t s) _ (called-within n b spends calls t s h) (λ p g. g)
  does-within n b spends calls st act.Sync s h = join-within s
  does-within n b spends calls st (act.Print e) s h = given-gives (Within s.steps) (value_of e s.env) s _ (λ v. omega arith)
  does-within n b spends calls st (act.If e xs ys) s h = given-gives (Within s.steps) (value_of e s.env) s _ (λ v. spends path calls (if is_true v then xs else ys) s h)
  does-within n b spends calls st (act.While e xs) s h =
      given-gives (Within s.steps) (value_of e s.env) s _ (λ v. if-gives (Within s.steps) (is_true v) _ _
      (then-gives (Within s.steps) (Within s.steps) (b path calls xs s) _ (spends path calls xs s h) (λ a g. weaker a.steps s.steps (b path calls (st ∷ []) a).ending g (spends path calls (st ∷ []) a (omega arith))))
      (omega arith))
  does-within n b spends calls st (act.Pfor x lo hi target t) s h =
      given-gives (Within s.steps) (value_of lo s.env) s _ (λ l. given-gives (Within s.steps) (value_of hi s.env) s _ (λ k. given-gives (Within s.steps) (values_of t.args s.env) s _ (λ vs. looped-within (as_integer l) (count_of (as_integer k -ℤ as_integer l)) vs target t s)))
  does-within n b spends calls st (act.Scope xs) s h =
      let inner : State K = record s { rank = 0 } in
      tested-gives (Within s.steps) (nat_lt (length path + 1) plan.limits.depth) Depth s _
      (then-gives (Within s.steps) (Within s.steps) (all_happen (how.opens (strand path s)) inner then b (strand path s) calls xs) _
      (spends (strand path s) calls xs inner h) (λ a g. weaker a.steps s.steps (leaves how plan path s.rank a).ending g (leaves-within s.rank a)))

  statement-within : (n : ℕ) (b : Blocks) → Spends n b → (calls : ℕ) (st : Stmt) (s : State K) → s.steps ≤ suc n →
      Gives (Within s.steps) (statement how plan path b calls st s).ending
  statement-within n b spends calls st s h =
      paid-gives s Within _ (λ k g. weaker k s.steps (does how plan path b calls st (out-Act (out-Stmt st).act) (record s { steps = k })).ending (omega arith) (does-within n b spends calls st (out-Act (out-Stmt st).act) (record s { steps = k }) (omega arith)))

  each-within : (n : ℕ) (one : Stmt → State K → Run I E (State K)) → ((st : Stmt) (s : State K) → s.steps ≤ n → Gives (Within s.steps) (one st s).ending) →
      (sts : List Stmt) (s : State K) → s.steps ≤ n → Gives (Within s.steps) (each how plan path one sts s).ending
  each-within n one fine [] s h = omega arith
  each-within n one fine (st ∷ sts) s h =
      then-gives (Within s.steps) (Within s.steps) (one st s) _ (fine st s h) (λ a g. weaker a.steps s.steps (each how plan path one sts a).ending g (each-within n one fine sts a (omega arith)))

  does-same : (n : ℕ) (b c : Blocks) → Spends n b → Alike n b c → (calls : ℕ) (st : Stmt) (a : Act-F Act Stmt) (s : State K) → s.steps ≤ n →
      does how plan path b calls st a s ≡ does how plan path c calls st a s
  does-same n b c spends alike calls st (act.Let x r) s h = ap (λ q. q then λ p. done (set_scalar p.1 x p.0)) (right_side-same n b c alike calls r s h)
  does-same n b c spends alike calls st (act.Array x m) s h = refl
  does-same n b c spends alike calls st (act.Set x r) s h = ap (λ q. q then λ p. done (set_scalar p.1 x p.0)) (right_side-same n b c alike calls r s h)
  does-same n b c spends alike calls st (act.Store x i e) s h = refl
  does-same n b c spends alike calls st (act.Spawn t) s h = refl
  does-same n b c spends alike calls st (act.Call t) s h = ap (λ q. q then λ p. done p.1) (called-same n b c alike calls t s h)
  does-same n b c spends alike calls st act.Sync s h = refl
  does-same n b c spends alike calls st (act.Print e) s h = refl
  does-same n b c spends alike calls st (act.If e xs ys) s h = given-same (value_of e s.env) s _ _ (λ v. alike path calls (if is_true v then xs else ys) s h)
  does-same n b c spends alike calls st (act.While e xs) s h =
      given-same (value_of e s.env) s _ _ (λ v. if-same (is_true v) _ _ (done s)
      (then-same (b path calls xs s) _ _ (λ a q. alike path calls (st ∷ []) a (le (gives-at (Within s.steps) (b path calls xs s).ending a (spends path calls xs s h) q) h)) ∙ ap (λ r. r then c path calls (st ∷ [])) (alike path calls xs s h)))
    where
      le : {a m k : ℕ} → a ≤ m → m ≤ k → a ≤ k
      le p q = omega arith
  does-same n b c spends alike calls st (act.Pfor x lo hi target t) s h = refl
  does-same n b c spends alike calls st (act.Scope xs) s h =
      tested-same (nat_lt (length path + 1) plan.limits.depth) Depth s _ _
      (ap (λ r. after_items (how.opens (strand path s)) r then leaves how plan path s.rank) (alike (strand path s) calls xs (record s { rank = 0 }) h))

  paid-same : {A : Type 0} (s : State K) (f g : State K → Run I E A) → ((k : ℕ) → suc k ≤ s.steps → f (record s { steps = k }) ≡ g (record s { steps = k })) →
      paid how plan path s f ≡ paid how plan path s g
  paid-same {A} s f g same = from s.steps same
    where
      from : (n : ℕ) → ((k : ℕ) → suc k ≤ n → f (record s { steps = k }) ≡ g (record s { steps = k })) → paid_from how plan path n s f ≡ paid_from how plan path n s g
      from zero same = refl
      from (suc k) same = same k (omega arith)

  each-same : (n : ℕ) (one two : Stmt → State K → Run I E (State K)) → ((st : Stmt) (s : State K) → s.steps ≤ n → Gives (Within s.steps) (one st s).ending) →
      ((st : Stmt) (s : State K) → s.steps ≤ n → one st s ≡ two st s) →
      (sts : List Stmt) (s : State K) → s.steps ≤ n → each how plan path one sts s ≡ each how plan path two sts s
  each-same n one two fine same [] s h = refl
  each-same n one two fine same (st ∷ sts) s h =
      then-same (one st s) _ _ (λ a q. each-same n one two fine same sts a (le (gives-at (Within s.steps) (one st s).ending a (fine st s h) q) h)) ∙ ap (λ r. r then each how plan path two sts) (same st s h)
    where
      le : {a m k : ℕ} → a ≤ m → m ≤ k → a ≤ k
      le p q = omega arith

module _ {I E K : Type 0} (how : Interpretation I E K) (plan : PlanView) where
  abbrev no_step : List ℕ → Stmt → State K → Run I E (State K)
  no_step here st s = fault how plan here Budget s

  -- No run ends with more steps than it began with.
  pub statements-within : (n : ℕ) → Spends how plan [] n (statements how plan n)
  statements-within zero here calls sts s h = each-within how plan here 0 (no_step here) (λ st s h. tt) sts s h
  statements-within (suc n) here calls sts s h =
      each-within how plan here (suc n) (statement how plan here (statements how plan n) calls)
      (λ st s h. statement-within how plan here n (statements how plan n) (statements-within n) calls st s h) sts s h

  -- As many levels as there are steps are enough: more change nothing.
  pub statements-enough : (n m : ℕ) → n ≤ m → Alike how plan [] n (statements how plan n) (statements how plan m)
  statements-enough zero zero h here calls sts s g = refl
  statements-enough zero (suc m) h here calls sts s g =
      each-same how plan here 0 (no_step here) (statement how plan here (statements how plan m) calls) (λ st s h. tt) (λ st s h. none st s.steps s h) sts s g
    where
      none : (st : Stmt) (k : ℕ) (s : State K) → k ≤ 0 →
          fault how plan here Budget s ≡ paid_from how plan here k s (λ s. does how plan here (statements how plan m) calls st (out-Act (out-Stmt st).act) s)
      none st zero s h = refl
      none st (suc k) s h = absurd (omega arith)
  statements-enough (suc n) zero h here calls sts s g = absurd (omega arith)
  statements-enough (suc n) (suc m) h here calls sts s g =
      each-same how plan here (suc n) (statement how plan here (statements how plan n) calls) (statement how plan here (statements how plan m) calls)
      (λ st s h. statement-within how plan here n (statements how plan n) (statements-within n) calls st s h)
      (alike (statements-enough n m (omega arith)))
      sts s g
    where
      alike : Alike how plan [] n (statements how plan n) (statements how plan m) → (st : Stmt) (s : State K) → s.steps ≤ suc n →
          statement how plan here (statements how plan n) calls st s ≡ statement how plan here (statements how plan m) calls st s
      alike fewer st s k =
          paid-same how plan here s (does how plan here (statements how plan n) calls st (out-Act (out-Stmt st).act)) (does how plan here (statements how plan m) calls st (out-Act (out-Stmt st).act))
          (λ j q. does-same how plan here n (statements how plan n) (statements how plan m) (statements-within n) fewer calls st (out-Act (out-Stmt st).act) (record s { steps = j }) (omega arith))

  -- from any number of levels that is no less than the steps, the same
  pub exec-levels : (path : List ℕ) (n calls : ℕ) (sts : List Stmt) (s : State K) → s.steps ≤ n → exec how plan path calls sts s ≡ statements how plan n path calls sts s
  exec-levels path n calls sts s h = statements-enough s.steps n h path calls sts s (omega arith)

  exec-spends : (n : ℕ) → Spends how plan [] n (exec how plan)
  exec-spends n here calls sts s h = statements-within s.steps here calls sts s (omega arith)

  -- The equation of the meaning, in which no level stands: a statement, whose blocks and calls are meant by the same meaning, and then the others.
  pub exec-cons : (path : List ℕ) (calls : ℕ) (st : Stmt) (sts : List Stmt) (s : State K) →
      exec how plan path calls (st ∷ sts) s ≡ (statement how plan path (exec how plan) calls st s then exec how plan path calls sts)
  exec-cons path calls st sts s = from s.steps s (omega arith)
    where
      from : (n : ℕ) (s : State K) → s.steps ≤ n → exec how plan path calls (st ∷ sts) s ≡ (statement how plan path (exec how plan) calls st s then exec how plan path calls sts)
      from n s h =
          exec-levels path (suc n) calls (st ∷ sts) s (omega arith)
          ∙ then-same (statement how plan path (statements how plan n) calls st s) _ _ (λ a q. sym (exec-levels path (suc n) calls sts a (le (gives-at (Within how plan path s.steps) (statement how plan path (statements how plan n) calls st s).ending a (statement-within how plan path n (statements how plan n) (statements-within n) calls st s (omega arith)) q) h)))
          ∙ ap (λ r. r then exec how plan path calls sts) (paid-same how plan path s _ _ (λ j q. does-same how plan path n (statements how plan n) (exec how plan) (statements-within n) (λ here calls sts s g. sym (exec-levels here n calls sts s g)) calls st (out-Act (out-Stmt st).act) (record s { steps = j }) (omega arith)))
        where
          le : {a m k : ℕ} → a ≤ m → m ≤ k → a ≤ suc k
          le p q = omega arith

  pub exec-nil : (path : List ℕ) (calls : ℕ) (s : State K) → exec how plan path calls [] s ≡ done s
  exec-nil path calls s = from s.steps
    where
      from : (n : ℕ) → statements how plan n path calls [] s ≡ done s
      from zero = refl
      from (suc n) = refl

  -- Statements in a row are the first and then the others.
  pub exec-append : (path : List ℕ) (calls : ℕ) (xs ys : List Stmt) (s : State K) → exec how plan path calls (xs ++ ys) s ≡ (exec how plan path calls xs s then exec how plan path calls ys)
  exec-append path calls [] ys s = ap (λ r. r then exec how plan path calls ys) (sym (exec-nil path calls s))
  exec-append path calls (x ∷ xs) ys s =
      exec-cons path calls x (xs ++ ys) s ∙ then-same (statement how plan path (exec how plan) calls x s) _ _ (λ a q. exec-append path calls xs ys a)
      ∙ sym (then-then (statement how plan path (exec how plan) calls x s) (exec how plan path calls xs) (exec how plan path calls ys))
      ∙ ap (λ r. r then exec how plan path calls ys) (sym (exec-cons path calls x xs s))

  -- An iteration of a `while` puts the body and the loop again before the other statements.
  pub exec-again : (path : List ℕ) (calls : ℕ) (st : Stmt) (body sts : List Stmt) (s : State K) →
      ((exec how plan path calls body s then exec how plan path calls (st ∷ [])) then exec how plan path calls sts) ≡ exec how plan path calls (body ++ (st ∷ sts)) s
  exec-again path calls st body sts s =
      then-then (exec how plan path calls body s) (exec how plan path calls (st ∷ [])) (exec how plan path calls sts)
      ∙ then-same (exec how plan path calls body s) _ _ (λ a q. sym (exec-append path calls (st ∷ []) sts a))
      ∙ sym (exec-append path calls body (st ∷ sts) s)

-- all of these equations for the elision and for the open tree
pub equations : {I E K : Type 0} (how : Interpretation I E K) (plan : PlanView) (path : List ℕ) → Equations how plan path
equations how plan path = record {
  nothing = exec-nil how plan path;
  first = exec-cons how plan path;
  in_a_row = exec-append how plan path;
  loop_again = exec-again how plan path;
}

pub elision_has_equations : (plan : PlanView) (path : List ℕ) (child : Origin → Evaluation) → Equations (serial child) plan path
elision_has_equations plan path child = equations (serial child) plan path

pub open_tree_has_equations : (plan : PlanView) (path : List ℕ) (child : Origin → Evaluation) → Equations (deferring plan child) plan path
open_tree_has_equations plan path child = equations (deferring plan child) plan path
