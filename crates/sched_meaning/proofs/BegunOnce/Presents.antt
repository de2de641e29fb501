-- What a machine may still come to: the strands from its present one on, and those after each scope that it has open. A move adds none,
-- and it takes the present strand away where it begins a child.
use Rattle.std.proofs.Common.{◌≡◌, ℕ, zero, suc, ◌+◌, ◌≤◌, ◌⊎◌, inl, inr, Bool, true, false, nat_lt, List, [], ◌∷◌, ◌++◌, Option, Some, None, Result, Ok, Err, length, append-nil, append_assoc, refl, sym, ap, ◌∙◌, subst, arith, if◌then◌else◌}
use Rattle.std.proofs.Common.{ℤ, ◌-ℤ◌}
use Rattle.script_grammar.specs.declared.tree.CallText.{CallText}
use Rattle.script_grammar.specs.declared.tree.Function.{Function}
use Rattle.script_grammar.specs.declared.tree.Name.{Name}
use Rattle.script_grammar.specs.declared.tree.Right.{Right}
use Rattle.script_grammar.specs.declared.tree.Right.TheVariants as right
use Rattle.script_grammar.specs.declared.tree.Stmt.{Stmt, out-Stmt}
use Rattle.script_grammar.specs.declared.tree.Act.{Act, out-Act}
use Rattle.script_grammar.specs.declared.tree.Act.TheOpen as act
use Rattle.script_grammar.specs.declared.tree.Act.TheOpen.{Act-F}
use Rattle.serial_meaning.specs.Runs.{Run, done, continued, ◌then◌}
use Rattle.serial_meaning.specs.Values.{value_of, values_of, content_of, items_of, as_integer, is_true, at_index}
use Rattle.serial_meaning.specs.Functions.{function_number, function_at}
use Rattle.serial_meaning.specs.Plan.{PlanView, functions_of}
use Rattle.serial_meaning.specs.Exec.{State, Interpretation, strand, unless_fault, paid_from, tested, has_room, loop_fits, spawn, sync_at, implied, frame, called, right_side, found, looped, does, count_of}
use Rattle.serial_meaning.specs.Eval.{path_of}
use Rattle.serial_meaning.specs.Open.{is_empty_loop}
use Rattle.serial_meaning.specs.declared.value.Value.{Value}
use Rattle.serial_meaning.specs.declared.event.FaultKind.{FaultKind}
use Rattle.serial_meaning.specs.declared.event.FaultKind.TheVariants.{Index, Depth, Calls, Budget}
use Rattle.serial_meaning.specs.declared.event.Fault.{Fault}
use Rattle.serial_meaning.specs.declared.event.Event.TheVariants as event
use Rattle.serial_meaning.specs.declared.origin.Origin.{Origin}
use Rattle.serial_meaning.specs.declared.origin.Origin.TheVariants as origin
use Rattle.script_check.specs.Spawns.{spawns_in}
use Rattle.strand_meaning.specs.Machine.{Destination, Spawned, Looped, Effect, Opens, Closes, Emitted, Starts, Syncs, Loops, Exit, Faulted, Inside, loop_effects, sync_effects, parallel, inside, child_destination, Level, Frame, Machine, Reached, Stands, Gives, inside_of, present, here_of, state_of, with_left, with_leaving, with_returning, back_in_caller, machine_inside, reached, gives, act_run, return_run, value_run, statement_move, return_move, level_move, end_move, move_at, move}
use Rattle.strand_meaning.specs.Task.{child_in}
use Rattle.strand_meaning.proofs.SoundSteps.ChildrenFollowEvents.{present-below}

-- Paths

pub longer : (p more : List ℕ) (k : ℕ) → p ≡ p ++ k ∷ more → ⊥
longer [] more k h = absurd (cc)
longer (x ∷ p) more k h = longer p more k (cc)

pub same-rank : (p xs ys : List ℕ) (j k : ℕ) → p ++ j ∷ xs ≡ p ++ k ∷ ys → j ≡ k
same-rank [] xs ys j k h = cc
same-rank (x ∷ p) xs ys j k h = same-rank p xs ys j k (cc)

-- below this path, by a rank from k on
pub record From (w : List ℕ) (k : ℕ) (q : Origin) : Type 0 where
  pub rank : ℕ
  pub more : List ℕ
  pub path_is : path_of q ≡ w ++ rank ∷ more
  pub reaches : k ≤ rank

pub from-lower : (w : List ℕ) (j k : ℕ) (q : Origin) → j ≤ k → From w k q → From w j q
from-lower w j k q h f = record { rank = f.rank; more = f.more; path_is = f.path_is; reaches = lower f.reaches }
  where
    lower : k ≤ f.rank → j ≤ f.rank
    lower g = omega arith

-- what is below a path's own rank
from-inside : (w : List ℕ) (j k : ℕ) (q : Origin) → From (w ++ j ∷ []) k q → From w j q
from-inside w j k q f = record { rank = j; more = f.rank ∷ f.more; path_is = f.path_is ∙ append_assoc w (j ∷ []) (f.rank ∷ f.more); reaches = omega arith }

-- what is below a path that goes on from this one
from-further : (w at ranks : List ℕ) (k : ℕ) (q : Origin) → at ≡ w ++ ranks → From at k q → From w 0 q
from-further w at [] k q e f = record { rank = f.rank; more = f.more; path_is = f.path_is ∙ ap (λ p. p ++ f.rank ∷ f.more) (e ∙ append-nil w); reaches = omega arith }
from-further w at (r ∷ ranks) k q e f =
    record { rank = r; more = ranks ++ f.rank ∷ f.more; path_is = f.path_is ∙ ap (λ p. p ++ f.rank ∷ f.more) e ∙ append_assoc w (r ∷ ranks) (f.rank ∷ f.more); reaches = omega arith }

-- Open scopes

-- after one of these scopes, the outermost of which is open at this path
abbrev pub AfterLevels : List ℕ → List Level → Origin → Type 0
AfterLevels path [] q = ⊥
AfterLevels path (l ∷ ls) q = From (inside_of path ls) (l.rank + 1) q ⊎ AfterLevels path ls q

-- after one of the scopes of these frames
abbrev pub AfterScopes : List ℕ → List Frame → Origin → Type 0
AfterScopes path [] q = ⊥
AfterScopes path (a ∷ below) q = AfterLevels (present path below) a.levels q ⊎ AfterScopes path below q

-- in the innermost of these scopes by a rank from k on, or after one of all those
abbrev pub OnwardAt : List ℕ → List Level → List Frame → ℕ → Origin → Type 0
OnwardAt path ls below k q = From (inside_of (present path below) ls) k q ⊎ (AfterLevels (present path below) ls q ⊎ AfterScopes path below q)

abbrev pub Onward : List ℕ → Machine → ℕ → Origin → Type 0
Onward path m k q = OnwardAt path m.top.levels m.below k q

pub onward-lower : (path : List ℕ) (ls : List Level) (below : List Frame) (j k : ℕ) (q : Origin) → j ≤ k → OnwardAt path ls below k q → OnwardAt path ls below j q
onward-lower path ls below j k q h (inl f) = inl (from-lower (inside_of (present path below) ls) j k q h f)
onward-lower path ls below j k q h (inr x) = inr x

-- What goes on from the present path stands after no open scope.
levels-apart : (path : List ℕ) (ls : List Level) (more : List ℕ) (q : Origin) → path_of q ≡ inside_of path ls ++ more → AfterLevels path ls q → ⊥
levels-apart path [] more q e x = absurd x
levels-apart path (l ∷ ls) more q e (inl f) =
    let k : l.rank ≡ f.rank = same-rank (inside_of path ls) more f.more l.rank f.rank (sym (append_assoc (inside_of path ls) (l.rank ∷ []) more) ∙ sym e ∙ f.path_is) in absurd (omega (arith, k, f.reaches))
levels-apart path (l ∷ ls) more q e (inr x) = levels-apart path ls (l.rank ∷ more) q (e ∙ append_assoc (inside_of path ls) (l.rank ∷ []) more) x

goes-on : (path : List ℕ) (ls : List Level) → (ranks : List ℕ) × (inside_of path ls ≡ path ++ ranks)
goes-on path [] = ([], sym (append-nil path))
goes-on path (l ∷ ls) = let g = goes-on path ls in (g.0 ++ l.rank ∷ [], ap (λ p. p ++ l.rank ∷ []) g.1 ∙ append_assoc path g.0 (l.rank ∷ []))

scopes-apart : (path : List ℕ) (below : List Frame) (more : List ℕ) (q : Origin) → path_of q ≡ present path below ++ more → AfterScopes path below q → ⊥
scopes-apart path [] more q e x = absurd x
scopes-apart path (a ∷ below) more q e (inl x) = levels-apart (present path below) a.levels more q e x
scopes-apart path (a ∷ below) more q e (inr x) =
    let g = goes-on (present path below) a.levels in
    scopes-apart path below (g.0 ++ more) q (e ∙ ap (λ p. p ++ more) g.1 ∙ append_assoc (present path below) g.0 more) x

-- What goes on from the present strand isn't what is onward from the next rank.
pub onward-apart : (path : List ℕ) (m : Machine) (k : ℕ) (more : List ℕ) (q : Origin) → path_of q ≡ here_of path m ++ k ∷ more → Onward path m (suc k) q → ⊥
onward-apart path m k more q e (inl f) =
    let same : k ≡ f.rank = same-rank (here_of path m) more f.more k f.rank (sym e ∙ f.path_is) in absurd (omega (arith, same, f.reaches))
onward-apart path m k more q e (inr (inl x)) = levels-apart (present path m.below) m.top.levels (k ∷ more) q e x
onward-apart path m k more q e (inr (inr x)) =
    let g = goes-on (present path m.below) m.top.levels in
    scopes-apart path m.below (g.0 ++ k ∷ more) q (e ∙ ap (λ p. p ++ k ∷ more) g.1 ∙ append_assoc (present path m.below) g.0 (k ∷ more)) x

-- All this is below the instance's path.
levels-below : (path at ranks : List ℕ) → at ≡ path ++ ranks → (ls : List Level) (q : Origin) → AfterLevels at ls q → From path 0 q
levels-below path at ranks e [] q x = absurd x
levels-below path at ranks e (l ∷ ls) q (inl f) =
    let g = goes-on at ls in from-further path (inside_of at ls) (ranks ++ g.0) (l.rank + 1) q (g.1 ∙ ap (λ p. p ++ g.0) e ∙ append_assoc path ranks g.0) f
levels-below path at ranks e (l ∷ ls) q (inr x) = levels-below path at ranks e ls q x

scopes-below : (path : List ℕ) (below : List Frame) (q : Origin) → AfterScopes path below q → From path 0 q
scopes-below path [] q x = absurd x
scopes-below path (a ∷ below) q (inl x) = let b = present-below path below in levels-below path (present path below) b.0 b.1 a.levels q x
scopes-below path (a ∷ below) q (inr x) = scopes-below path below q x

pub onward-below : (path : List ℕ) (m : Machine) (k : ℕ) (q : Origin) → Onward path m k q → From path 0 q
onward-below path m k q (inl f) = let b = present-below path (m.top ∷ m.below) in from-further path (here_of path m) b.0 k q b.1 f
onward-below path m k q (inr x) = scopes-below path (m.top ∷ m.below) q x

-- Ranks

-- how many children are begun
abbrev pub unmerged : List Effect → ℕ
unmerged [] = 0
unmerged (Opens j ∷ ts) = unmerged ts
unmerged (Closes j ∷ ts) = unmerged ts
unmerged (Emitted e ∷ ts) = unmerged ts
unmerged (Starts o destination ∷ ts) = suc (unmerged ts)
unmerged (Syncs ∷ ts) = unmerged ts
unmerged (Loops ∷ ts) = unmerged ts

pub child-unmerged : (ts : List Effect) (o : Origin) → child_in ts ≡ Some o → 1 ≤ unmerged ts
child-unmerged [] o h = absurd (cc)
child-unmerged (Opens j ∷ ts) o h = child-unmerged ts o h
child-unmerged (Closes j ∷ ts) o h = child-unmerged ts o h
child-unmerged (Emitted e ∷ ts) o h = child-unmerged ts o h
child-unmerged (Starts c destination ∷ ts) o h = omega arith
child-unmerged (Syncs ∷ ts) o h = child-unmerged ts o h
child-unmerged (Loops ∷ ts) o h = child-unmerged ts o h

-- A run at a present path that begins at the rank k: it ends at a rank after the children that it began. Where it goes inside, it
-- began none.
module _ (plan : PlanView) (path : List ℕ) (k : ℕ) (In : ℕ → Type 0) (stays : In k) where
  abbrev RankEnd : {A : Type 0} → (A → ℕ) → List Effect → Result A Exit → Type 0
  RankEnd rank ts (Ok a) = k + unmerged ts ≤ rank a
  RankEnd rank ts (Err (Faulted f)) = Unit {0}
  RankEnd rank ts (Err (Inside here calls sts s)) = (unmerged ts ≡ 0) × In s.rank

  abbrev Rises : {A : Type 0} → (A → ℕ) → Run Effect Exit A → Type 0
  Rises rank r = RankEnd rank r.items r.ending

  abbrev what : Destination → Interpretation Effect Exit Bool
  what destination = parallel plan destination

  abbrev of-state : State Bool → ℕ
  of-state s = s.rank

  abbrev of-value : Value × State Bool → ℕ
  of-value p = p.1.rank

  rises-given : {A B : Type 0} (rank : B → ℕ) (destination : Destination) (o : Result A FaultKind) (s : State Bool) (f : A → Run Effect Exit B) → ((a : A) → Rises rank (f a)) → Rises rank (unless_fault (what destination) plan path o s f)
  rises-given rank destination (Ok a) s f h = h a
  rises-given rank destination (Err kind) s f h = tt

  rises-tested : {B : Type 0} (rank : B → ℕ) (destination : Destination) (b : Bool) (kind : FaultKind) (s : State Bool) (f : Run Effect Exit B) → Rises rank f → Rises rank (tested (what destination) plan path b kind s f)
  rises-tested rank destination true kind s f h = h
  rises-tested rank destination false kind s f h = tt

  rises-paid : {B : Type 0} (rank : B → ℕ) (destination : Destination) (n : ℕ) (s : State Bool) → s.rank ≡ k → (f : State Bool → Run Effect Exit B) → ((s : State Bool) → s.rank ≡ k → Rises rank (f s)) → Rises rank (paid_from (what destination) plan path n s f)
  rises-paid rank destination zero s e f h = tt
  rises-paid rank destination (suc n) s e f h = h (record s { steps = n }) e

  rises-then : {A B : Type 0} (rank : A → ℕ) (last : B → ℕ) (r : Run Effect Exit A) (g : A → B) → ((a : A) → last (g a) ≡ rank a) → Rises rank r → Rises last (r then λ a. done (g a))
  rises-then {A} {B} rank last r g same h = from r.items r.ending h
    where
      from : (ts : List Effect) (e : Result A Exit) → RankEnd rank ts e → Rises last (continued ts e (λ a. done (g a)))
      from ts (Ok a) h = subst (λ (l : List Effect). k + unmerged l ≤ last (g a)) (sym (append-nil ts)) (subst (λ n. k + unmerged ts ≤ n) (sym (same a)) h)
      from ts (Err (Faulted f)) h = tt
      from ts (Err (Inside here calls sts s)) h = h

  rises-sync : (destination : Destination) (here : List ℕ) (s : State Bool) → s.rank ≡ k → Rises of-state (sync_at (what destination) plan path here s)
  rises-sync destination here s e = from s.spawned
    where
      from : (b : Bool) → k + unmerged (Emitted (event.Sync (strand here s)) ∷ (sync_effects b ++ [])) ≤ s.rank + 1
      from true = omega arith
      from false = omega arith

  rises-spawn : (destination : Destination) (c : CallText) (s : State Bool) → s.rank ≡ k → Rises of-value (spawn (what destination) plan path c s)
  rises-spawn destination c s e =
      rises-given of-value destination (values_of c.args s.env) s _ (λ vs. rises-tested of-value destination (nat_lt (length path + 1) plan.limits.depth) Depth s _ after)
    where
      after : k + 1 ≤ s.rank + 1
      after = omega arith

  rises-called : (destination : Destination) (calls : ℕ) (c : CallText) (s : State Bool) → s.rank ≡ k → Rises of-value (called (what destination) plan path inside calls c s)
  rises-called destination calls c s e =
      rises-given of-value destination (values_of c.args s.env) s _ (λ vs. rises-tested of-value destination (nat_lt calls 256) Calls s _
      (rises-then of-value of-value (frame (what destination) plan path inside (calls + 1) (function_at (functions_of plan) (function_number (functions_of plan) c.name.bytes)) vs s) (λ r. (r.0, record s { rank = r.1.rank; steps = r.1.steps })) (λ r. refl)
      (by_function vs (function_at (functions_of plan) (function_number (functions_of plan) c.name.bytes)))))
    where
      by_function : (vs : List Value) (o : Option Function) → Rises of-value (frame (what destination) plan path inside (calls + 1) o vs s)
      by_function vs None = omega arith
      by_function vs (Some f) = (refl, subst In (sym e) stays)

  rises-right : (destination : Destination) (calls : ℕ) (r : Right) (s : State Bool) → s.rank ≡ k → Rises of-value (right_side (what destination) plan path inside calls r s)
  rises-right destination calls (right.Value x) s e = rises-given of-value destination (value_of x s.env) s _ (λ v. same)
    where
      same : k + 0 ≤ s.rank
      same = omega arith
  rises-right destination calls (right.Draw a) s e = omega arith
  rises-right destination calls (right.New a) s e = omega arith
  rises-right destination calls (right.Call a c) s e = rises-called destination calls c s e
  rises-right destination calls (right.Spawn a c) s e = rises-spawn destination c s e

  rises-loop : (target : Option Name) (c : CallText) (lo : ℤ) (hi : ℕ) (vs : List Value) (s : State Bool) → s.rank ≡ k → Rises of-state (looped (what (Looped target)) plan path lo hi vs target c s)
  rises-loop target c lo hi vs s e =
      rises-tested of-state destination (nat_lt hi (s.steps + 1)) Budget s _ (rises-tested of-state destination (has_room target hi s.env) Index _ _ (rises-tested of-state destination (loop_fits plan path hi) Depth _ _ (from (is_empty_loop o))))
    where
      destination : Destination
      destination = Looped target

      o : Origin
      o = origin.Loop (function_number (functions_of plan) c.name.bytes) vs lo (path ++ s.rank ∷ []) (record { lo = 0; hi = hi })

      from : (b : Bool) → k + unmerged (Emitted (event.Loop (path ++ s.rank ∷ [])) ∷ (loop_effects b o destination ++ [])) ≤ s.rank + 1
      from true = omega arith
      from false = omega arith

-- the rank where a statement goes inside: its own, and any of a scope
abbrev Enters : ℕ → Act-F Act Stmt → ℕ → Type 0
Enters k (act.Let x r) n = n ≡ k
Enters k (act.Array x e) n = n ≡ k
Enters k (act.Set x r) n = n ≡ k
Enters k (act.Store x i e) n = n ≡ k
Enters k (act.Spawn c) n = n ≡ k
Enters k (act.Call c) n = n ≡ k
Enters k act.Sync n = n ≡ k
Enters k (act.Print e) n = n ≡ k
Enters k (act.If e a b) n = n ≡ k
Enters k (act.While e a) n = n ≡ k
Enters k (act.Pfor x lo hi target c) n = n ≡ k
Enters k (act.Scope a) n = Unit {0}

enters-here : (k : ℕ) (a : Act-F Act Stmt) → Enters k a k
enters-here k (act.Let x r) = refl
enters-here k (act.Array x e) = refl
enters-here k (act.Set x r) = refl
enters-here k (act.Store x i e) = refl
enters-here k (act.Spawn c) = refl
enters-here k (act.Call c) = refl
enters-here k act.Sync = refl
enters-here k (act.Print e) = refl
enters-here k (act.If e a b) = refl
enters-here k (act.While e a) = refl
enters-here k (act.Pfor x lo hi target c) = refl
enters-here k (act.Scope a) = tt

module _ (plan : PlanView) (path : List ℕ) (k : ℕ) where
  abbrev Same : ℕ → Type 0
  Same n = n ≡ k

  abbrev state_rank : State Bool → ℕ
  state_rank s = s.rank

  abbrev value_rank : Value × State Bool → ℕ
  value_rank p = p.1.rank

  rises-does : (height : ℕ) (st : Stmt) (a : Act-F Act Stmt) (s : State Bool) → s.rank ≡ k →
      Rises plan path k (Enters k a) (enters-here k a) state_rank (does (parallel plan (child_destination height a)) plan path inside height st a s)
  rises-does height st (act.Let x r) s e =
      let destination = Spawned height (Some x) in rises-then plan path k Same refl value_rank state_rank (right_side (parallel plan destination) plan path inside height r s) _ (λ p. refl) (rises-right plan path k Same refl destination height r s e)
  rises-does height st (act.Array x n) s e = omega arith
  rises-does height st (act.Set x r) s e =
      let destination = Spawned height (Some x) in rises-then plan path k Same refl value_rank state_rank (right_side (parallel plan destination) plan path inside height r s) _ (λ p. refl) (rises-right plan path k Same refl destination height r s e)
  rises-does height st (act.Store x i v) s e =
      rises-given plan path k Same refl state_rank destination (value_of i s.env) s _ (λ n. by_item (at_index (items_of (content_of s.env x.bytes)) (as_integer n)) _ (rises-given plan path k Same refl state_rank destination (value_of v s.env) s _ (λ w. same)))
    where
      destination : Destination
      destination = Spawned height None

      same : k + 0 ≤ s.rank
      same = omega arith

      by_item : (o : Option ℤ) (r : Run Effect Exit (State Bool)) → Rises plan path k Same refl state_rank r → Rises plan path k Same refl state_rank (found (parallel plan destination) plan path o s r)
      by_item None r h = tt
      by_item (Some old) r h = h
  rises-does height st (act.Spawn c) s e =
      let destination = Spawned height None in rises-then plan path k Same refl value_rank state_rank (spawn (parallel plan destination) plan path c s) _ (λ p. refl) (rises-spawn plan path k Same refl destination c s e)
  rises-does height st (act.Call c) s e =
      let destination = Spawned height None in rises-then plan path k Same refl value_rank state_rank (called (parallel plan destination) plan path inside height c s) _ (λ p. refl) (rises-called plan path k Same refl destination height c s e)
  rises-does height st act.Sync s e = rises-sync plan path k Same refl (Spawned height None) path s e
  rises-does height st (act.Print x) s e = rises-given plan path k Same refl state_rank (Spawned height None) (value_of x s.env) s _ (λ v. same)
    where
      same : k + 0 ≤ s.rank
      same = omega arith
  rises-does height st (act.If x a b) s e = rises-given plan path k Same refl state_rank (Spawned height None) (value_of x s.env) s _ (λ v. (refl, e))
  rises-does height st (act.While x a) s e = rises-given plan path k Same refl state_rank (Spawned height None) (value_of x s.env) s _ (λ v. by_test (is_true v))
    where
      by_test : (t : Bool) → Rises plan path k Same refl state_rank (if t then (inside path height a s then inside path height (st ∷ [])) else done s)
      by_test true = (refl, e)
      by_test false = omega arith
  rises-does height st (act.Pfor x lo hi target c) s e =
      rises-given plan path k Same refl state_rank (Looped target) (value_of lo s.env) s _ (λ l. rises-given plan path k Same refl state_rank (Looped target) (value_of hi s.env) s _
      (λ h. rises-given plan path k Same refl state_rank (Looped target) (values_of c.args s.env) s _
      (λ vs. rises-loop plan path k Same refl target c (as_integer l) (count_of (as_integer h -ℤ as_integer l)) vs s e)))
  rises-does height st (act.Scope a) s e =
      rises-tested plan path k (Enters k (act.Scope a)) tt state_rank (Spawned height None) (nat_lt (length path + 1) plan.limits.depth) Depth s _ (refl, tt)

-- Moves

-- What is onward after a move was onward before it, and from the next rank on where a child was begun.
abbrev pub MovesOn : List ℕ → Machine → List Effect → Result Reached Fault → Type 0
MovesOn path m ts (Ok (Stands next)) = (q : Origin) → Onward path next next.rank q → Onward path m (m.rank + unmerged ts) q
MovesOn path m ts (Ok (Gives v)) = Unit {0}
MovesOn path m ts (Err f) = Unit {0}

module _ (plan : PlanView) (path : List ℕ) (m : Machine) where
  abbrev Keeps : Machine → Type 0
  Keeps next = (q : Origin) → Onward path next next.rank q → Onward path m m.rank q

  -- at the same path
  stays-at : (k : ℕ) → k ≡ m.rank → (q : Origin) → Onward path m k q → Onward path m m.rank q
  stays-at k e q x = onward-lower path m.top.levels m.below m.rank k q (omega arith) x

  -- a call
  calls-on : (k : ℕ) → k ≡ m.rank → (q : Origin) → From (here_of path m) k q ⊎ (⊥ ⊎ (AfterLevels (present path m.below) m.top.levels q ⊎ AfterScopes path m.below q)) → Onward path m m.rank q
  calls-on k e q (inl f) = stays-at k e q (inl f)
  calls-on k e q (inr (inl x)) = absurd x
  calls-on k e q (inr (inr x)) = inr x

  -- a scope
  opens-on : (k : ℕ) (q : Origin) → From (here_of path m ++ m.rank ∷ []) k q ⊎ ((From (here_of path m) (m.rank + 1) q ⊎ AfterLevels (present path m.below) m.top.levels q) ⊎ AfterScopes path m.below q) → Onward path m m.rank q
  opens-on k q (inl f) = inl (from-inside (here_of path m) m.rank k q f)
  opens-on k q (inr (inl (inl f))) = inl (from-lower (here_of path m) m.rank (m.rank + 1) q (omega arith) f)
  opens-on k q (inr (inl (inr x))) = inr (inl x)
  opens-on k q (inr (inr x)) = inr (inr x)

  right-on : (st : Stmt) (r : Right) (left sts : List Stmt) (x : Name) (s : State Bool) → s.rank ≡ m.rank → Keeps (machine_inside plan st (act.Let x r) left m sts s) × Keeps (machine_inside plan st (act.Set x r) left m sts s)
  right-on st (right.Value v) left sts x s e = (stays-at s.rank e, stays-at s.rank e)
  right-on st (right.Draw at) left sts x s e = (stays-at s.rank e, stays-at s.rank e)
  right-on st (right.New at) left sts x s e = (stays-at s.rank e, stays-at s.rank e)
  right-on st (right.Call at c) left sts x s e = (calls-on s.rank e, calls-on s.rank e)
  right-on st (right.Spawn at c) left sts x s e = (stays-at s.rank e, stays-at s.rank e)

  entered-on : (st : Stmt) (a : Act-F Act Stmt) (left sts : List Stmt) (s : State Bool) → Enters m.rank a s.rank → Keeps (machine_inside plan st a left m sts s)
  entered-on st (act.Let x r) left sts s e = (right-on st r left sts x s e).0
  entered-on st (act.Array x n) left sts s e = stays-at s.rank e
  entered-on st (act.Set x r) left sts s e = (right-on st r left sts x s e).1
  entered-on st (act.Store x i v) left sts s e = stays-at s.rank e
  entered-on st (act.Spawn c) left sts s e = stays-at s.rank e
  entered-on st (act.Call c) left sts s e = calls-on s.rank e
  entered-on st act.Sync left sts s e = stays-at s.rank e
  entered-on st (act.Print x) left sts s e = stays-at s.rank e
  entered-on st (act.If x a b) left sts s e = stays-at s.rank e
  entered-on st (act.While x a) left sts s e = stays-at s.rank e
  entered-on st (act.Pfor x lo hi target c) left sts s e = stays-at s.rank e
  entered-on st (act.Scope a) left sts s e = opens-on s.rank

  -- what a run comes to, by a rank in the same scopes and by what it goes inside to
  reached-on : (In : ℕ → Type 0) (stays : In m.rank) (on : State Bool → Machine) (into : List Stmt → State Bool → Machine) →
      ((k : ℕ) (s : State Bool) (q : Origin) → k ≤ s.rank → Onward path (on s) (on s).rank q → Onward path m k q) → ((sts : List Stmt) (s : State Bool) → In s.rank → Keeps (into sts s)) →
      (ts : List Effect) (e : Result (State Bool) Exit) → RankEnd plan (here_of path m) m.rank In stays (λ s. s.rank) ts e → MovesOn path m ts (reached plan on into e)
  reached-on In stays on into up goes ts (Ok s) h = λ q x. up (m.rank + unmerged ts) s q h x
  reached-on In stays on into up goes ts (Err (Faulted f)) h = tt
  reached-on In stays on into up goes ts (Err (Inside here calls sts s)) h = λ q x. onward-lower path m.top.levels m.below (m.rank + unmerged ts) m.rank q (none h.0) (goes sts s h.1 q x)
    where
      none : unmerged ts ≡ 0 → m.rank + unmerged ts ≤ m.rank
      none z = omega arith

  -- the same scopes at a later rank
  rises-on : (k : ℕ) (s : State Bool) (q : Origin) → k ≤ s.rank → Onward path m s.rank q → Onward path m k q
  rises-on k s q h x = onward-lower path m.top.levels m.below k s.rank q h x

  statement-on : (st : Stmt) (left : List Stmt) → MovesOn path m (statement_move plan path m st left).items (statement_move plan path m st left).ending
  statement-on st left =
      let a = out-Act (out-Stmt st).act in
      let r = act_run plan path m st a in
      reached-on (Enters m.rank a) (enters-here m.rank a) (with_left m left) (machine_inside plan st a left m) rises-on (λ sts s e. entered-on st a left sts s e) r.items r.ending
      (rises-paid plan (here_of path m) m.rank (Enters m.rank a) (enters-here m.rank a) (λ s. s.rank) (child_destination (length m.below) a) m.steps (state_of m) refl _
      (λ s e. rises-does plan (here_of path m) m.rank (length m.below) st a s e))

  abbrev Here : ℕ → Type 0
  Here n = n ≡ m.rank

  -- nothing is inside of what an end does
  no-inside : (sts : List Stmt) (s : State Bool) → Here s.rank → Keeps m
  no-inside sts s e = λ q x. x

  -- the value of a return, which goes back to the caller, who stands at the same path
  back-on : m.top.levels ≡ [] → (below : List Frame) → m.below ≡ below → (target : Option Name) (v : Value) (steps : ℕ) → MovesOn path m [] (Ok (back_in_caller below target v m.rank steps))
  back-on flat [] at target v steps = tt
  back-on flat (caller ∷ below) at target v steps =
      λ q x. subst (λ bs. OnwardAt path m.top.levels bs (m.rank + 0) q) (sym at) (subst (λ ls. OnwardAt path ls (caller ∷ below) (m.rank + 0) q) (sym flat) (outer q x))
    where
      outer : (q : Origin) → OnwardAt path caller.levels below m.rank q → OnwardAt path [] (caller ∷ below) (m.rank + 0) q
      outer q (inl f) = inl (from-lower (inside_of (present path below) caller.levels) (m.rank + 0) m.rank q (omega arith) f)
      outer q (inr x) = inr (inr x)

  return-on : m.top.levels ≡ [] → (b : Bool) → MovesOn path m (return_move plan path m b).items (return_move plan path m b).ending
  return-on flat false =
      reached-on Here refl (with_returning m) (λ sts s. m) rises-on no-inside (return_run plan path m).items (return_run plan path m).ending
      (rises-paid plan (here_of path m) m.rank Here refl (λ s. s.rank) destination m.steps (state_of m) refl _ (λ s e. by_text (spawns_in (function_at (functions_of plan) m.top.function)) s e))
    where
      destination : Destination
      destination = Spawned (length m.below) None

      by_text : (b : Bool) (s : State Bool) → s.rank ≡ m.rank → Rises plan (here_of path m) m.rank Here refl (λ s. s.rank) (implied (parallel plan destination) plan (here_of path m) b s)
      by_text true s e = rises-sync plan (here_of path m) m.rank Here refl destination (here_of path m) s e
      by_text false s e = omega arith
  return-on flat true = by_function (function_at (functions_of plan) m.top.function)
    where
      by_value : (f : Function) (o : Result Value FaultKind) →
          let r : Run Effect Exit (Value × State Bool) = unless_fault (parallel plan (Spawned (length m.below) None)) plan (here_of path m) o (state_of m) (λ v. done (v, state_of m)) in MovesOn path m r.items (gives plan m r.ending)
      by_value f (Ok v) = back-on flat m.below refl m.top.target v m.steps
      by_value f (Err kind) = tt

      by_function : (o : Option Function) → MovesOn path m (value_run plan path o m).items (gives plan m (value_run plan path o m).ending)
      by_function None = back-on flat m.below refl m.top.target _ m.steps
      by_function (Some f) = by_value f (value_of f.result m.top.env)

  level-on : (l : Level) (ls : List Level) → m.top.levels ≡ l ∷ ls → (b : Bool) → MovesOn path m (level_move plan path m l ls b).items (level_move plan path m l ls b).ending
  level-on l ls at false =
      let r = sync_at (parallel plan (Spawned (length m.below) None)) plan (present path m.below) (here_of path m) (state_of m) in
      reached-on Here refl (with_leaving m) (λ sts s. m) rises-on no-inside r.items r.ending (rises-sync plan (present path m.below) m.rank Here refl (Spawned (length m.below) None) (here_of path m) (state_of m) refl)
  level-on l ls at true = λ q x. subst (λ (levels : List Level). OnwardAt path levels m.below (m.rank + 0) q) (sym at) (outer q x)
    where
      outer : (q : Origin) → OnwardAt path ls m.below (l.rank + 1) q → OnwardAt path (l ∷ ls) m.below (m.rank + 0) q
      outer q (inl f) = inr (inl (inl f))
      outer q (inr (inl x)) = inr (inl (inr x))
      outer q (inr (inr x)) = inr (inr x)

  pub moves-on : MovesOn path m (move plan path m).items (move plan path m).ending
  moves-on = by_left m.top.left
    where
      by_levels : (ls : List Level) → m.top.levels ≡ ls → MovesOn path m (end_move plan path m ls).items (end_move plan path m ls).ending
      by_levels [] at = return-on at m.top.returning
      by_levels (l ∷ ls) at = level-on l ls at m.top.leaving

      by_left : (left : List Stmt) → MovesOn path m (move_at plan path m left).items (move_at plan path m left).ending
      by_left [] = by_levels m.top.levels refl
      by_left (st ∷ left) = statement-on st left
