-- What a move shows.
use Rattle.std.proofs.Common.{ℕ, zero, suc, ◌+◌, Bool, true, false, nat_lt, ◌≡◌, List, [], ◌∷◌, ◌++◌, Option, Some, None, Result, Ok, Err, refl, sym, ap, ◌∙◌, subst, append-nil, append_assoc, if◌then◌else◌, length}
use Rattle.std.proofs.Common.{ℤ, ◌-ℤ◌}
use Rattle.script_grammar.specs.declared.tree.Name.{Name}
use Rattle.script_grammar.specs.declared.tree.CallText.{CallText}
use Rattle.script_grammar.specs.declared.tree.Function.{Function}
use Rattle.script_grammar.specs.declared.tree.Right.{Right}
use Rattle.script_grammar.specs.declared.tree.Right.TheVariants as right
use Rattle.script_grammar.specs.declared.tree.Stmt.{Stmt, out-Stmt}
use Rattle.script_grammar.specs.declared.tree.Act.{Act, out-Act}
use Rattle.script_grammar.specs.declared.tree.Act.TheOpen as act
use Rattle.script_grammar.specs.declared.tree.Act.TheOpen.{Act-F}
use Rattle.serial_meaning.specs.Runs.{Run, done, continued, ◌then◌}
use Rattle.serial_meaning.specs.Values.{value_of, values_of, content_of, items_of, as_integer, is_true, at_index}
use Rattle.serial_meaning.specs.Functions.{function_number, function_at}
use Rattle.serial_meaning.specs.Plan.{PlanView, functions_of}
use Rattle.serial_meaning.specs.Exec.{State, Interpretation, strand, unless_fault, paid_from, tested, has_room, loop_fits, spawn, sync_here, implied, frame, called, right_side, found, looped, does, count_of}
use Rattle.serial_meaning.specs.Laws.{raising_pedigrees}
use Rattle.serial_meaning.specs.Eval.{path_of}
use Rattle.serial_meaning.specs.Open.{is_empty_loop}
use Rattle.serial_meaning.proofs.Equations.Each.{Each, each-append}
use Rattle.serial_meaning.specs.declared.value.Value.{Value}
use Rattle.serial_meaning.specs.declared.event.FaultKind.{FaultKind}
use Rattle.serial_meaning.specs.declared.event.FaultKind.TheVariants.{Index, Depth, Calls, Budget}
use Rattle.serial_meaning.specs.declared.event.Event.{Event}
use Rattle.serial_meaning.specs.declared.event.Event.TheVariants as event
use Rattle.serial_meaning.specs.declared.origin.Origin.{Origin}
use Rattle.serial_meaning.specs.declared.origin.Origin.TheVariants as origin
use Rattle.script_check.specs.Spawns.{spawns_in}
use Rattle.strand_meaning.specs.Machine.{Destination, Spawned, Looped, Effect, Opens, Closes, Emitted, Starts, Exit, loop_effects, sync_effects, parallel, inside, child_destination, Level, Frame, Machine, inside_of, present, here_of, state_of, value_run, return_move, level_move, end_move, move_at, move}
use Rattle.strand_meaning.specs.Sound.{IsUndivided}
use Rattle.strand_meaning.proofs.SoundSteps.Finishing.{NotHalf}

-- an event by which a child of an instance is spawned or begun
pub record Begins (path : List ℕ) (e : Event) (o : Origin) : Type 0 where
  pub rank : ℕ
  pub more : List ℕ
  pub at : path_of o ≡ path ++ rank ∷ more
  pub raised_at : raising_pedigrees (e ∷ []) ≡ path_of o ∷ []
  pub whole : IsUndivided o

-- what holds of all lists of effects that a move shows
pub record EffectRules (path : List ℕ) (P : List Effect → Type 0) : Type 0 where
  pub none : P []
  pub more : (xs ys : List Effect) → P xs → P ys → P (xs ++ ys)
  pub prefix : (e : Event) → P (Emitted e ∷ [])
  pub spawned : (e : Event) (o : Origin) (height : ℕ) (target : Option Name) → Begins path e o → P (Emitted e ∷ Starts o (Spawned height target) ∷ [])
  pub synced : (j : List ℕ) (b : Bool) → P (Emitted (event.Sync j) ∷ sync_effects b)
  pub looped : (e : Event) (o : Origin) (target : Option Name) (b : Bool) → Begins path e o → P (Emitted e ∷ loop_effects b o (Looped target))
  pub opened : (j : List ℕ) → P (Opens j ∷ [])
  pub closed : (j : List ℕ) → P (Closes j ∷ [])

-- a strand of a path that goes on from this one
rank-below : (path ranks : List ℕ) (k : ℕ) → (r : ℕ) × (more : List ℕ) × ((path ++ ranks) ++ k ∷ [] ≡ path ++ r ∷ more)
rank-below path [] k = (k, [], ap (λ z. z ++ k ∷ []) (append-nil path))
rank-below path (r ∷ ranks) k = (r, ranks ++ k ∷ [], append_assoc path (r ∷ ranks) (k ∷ []))

-- A present path goes on from the instance's.
pub inside-below : (path ranks : List ℕ) (ls : List Level) → (more : List ℕ) × (inside_of (path ++ ranks) ls ≡ path ++ more)
inside-below path ranks [] = (ranks, refl)
inside-below path ranks (l ∷ ls) =
    let b = inside-below path ranks ls in (b.0 ++ l.rank ∷ [], ap (λ z. z ++ l.rank ∷ []) b.1 ∙ append_assoc path b.0 (l.rank ∷ []))

pub present-below : (path : List ℕ) (below : List Frame) → (more : List ℕ) × (present path below ≡ path ++ more)
present-below path [] = ([], sym (append-nil path))
present-below path (a ∷ below) =
    let b = present-below path below in
    let c = inside-below path b.0 a.levels in (c.0, ap (λ z. inside_of z a.levels) b.1 ∙ c.1)

pub here-below : (path : List ℕ) (m : Machine) → (more : List ℕ) × (here_of path m ≡ path ++ more)
here-below path m = present-below path (m.top ∷ m.below)

-- at a present path
module _ (P : List Effect → Type 0) (plan : PlanView) (whole : List ℕ) (rules : EffectRules whole P) (ranks path : List ℕ) (goes_on_so : path ≡ whole ++ ranks) where
  begins : (e : Event) (o : Origin) (k : ℕ) → path_of o ≡ path ++ k ∷ [] → raising_pedigrees (e ∷ []) ≡ path_of o ∷ [] → IsUndivided o → Begins whole e o
  begins e o k at raised_at undivided =
      let b = rank-below whole ranks k in record { rank = b.0; more = b.1; at = at ∙ ap (λ z. z ++ k ∷ []) goes_on_so ∙ b.2; raised_at = raised_at; whole = undivided }

  abbrev Owns : {A : Type 0} → Run Effect Exit A → Type 0
  Owns r = P r.items

  abbrev what : Destination → Interpretation Effect Exit Bool
  what destination = parallel plan destination

  owns-then : {A B : Type 0} (r : Run Effect Exit A) (f : A → Run Effect Exit B) → Owns r → ((a : A) → Owns (f a)) → Owns (r then f)
  owns-then {A = A} {B = B} r f h k = from r.ending
    where
      from : (e : Result A Exit) → P (continued r.items e f).items
      from (Ok a) = rules.more r.items (f a).items h (k a)
      from (Err e) = h

  owns-given : {A B : Type 0} (destination : Destination) (o : Result A FaultKind) (s : State Bool) (f : A → Run Effect Exit B) → ((a : A) → Owns (f a)) → Owns (unless_fault (what destination) plan path o s f)
  owns-given destination (Ok a) s f h = h a
  owns-given destination (Err k) s f h = rules.none

  owns-tested : {A : Type 0} (destination : Destination) (b : Bool) (k : FaultKind) (s : State Bool) (f : Run Effect Exit A) → Owns f → Owns (tested (what destination) plan path b k s f)
  owns-tested destination true k s f h = h
  owns-tested destination false k s f h = rules.none

  owns-paid : {A : Type 0} (destination : Destination) (n : ℕ) (s : State Bool) (f : State Bool → Run Effect Exit A) → ((s : State Bool) → Owns (f s)) → Owns (paid_from (what destination) plan path n s f)
  owns-paid destination zero s f h = rules.none
  owns-paid destination (suc n) s f h = h (record s { steps = n })

  owns-sync : (destination : Destination) (s : State Bool) → Owns (sync_here (what destination) plan path s)
  owns-sync destination s = subst P (sym (append-nil (Emitted (event.Sync (strand path s)) ∷ sync_effects s.spawned))) (rules.synced (strand path s) s.spawned)

  owns-spawn : (height : ℕ) (target : Option Name) (c : CallText) (s : State Bool) → Owns (spawn (what (Spawned height target)) plan path c s)
  owns-spawn height target c s =
      owns-given (Spawned height target) (values_of c.args s.env) s _ (λ vs. owns-tested (Spawned height target) (nat_lt (length path + 1) plan.limits.depth) Depth s _ (rules.spawned _ _ height target (begins _ _ s.rank refl refl tt)))

  owns-called : (destination : Destination) (calls : ℕ) (c : CallText) (s : State Bool) → Owns (called (what destination) plan path inside calls c s)
  owns-called destination calls c s =
      owns-given destination (values_of c.args s.env) s _ (λ vs. owns-tested destination (nat_lt calls 256) Calls s _ (owns-then (frame (what destination) plan path inside (calls + 1) (function_at (functions_of plan) (function_number (functions_of plan) c.name.bytes)) vs s) _
      (by_function vs (function_at (functions_of plan) (function_number (functions_of plan) c.name.bytes))) (λ r. rules.none)))
    where
      by_function : (vs : List Value) (o : Option Function) → Owns (frame (what destination) plan path inside (calls + 1) o vs s)
      by_function vs None = rules.none
      by_function vs (Some f) = rules.none

  owns-right : (height : ℕ) (target : Option Name) (calls : ℕ) (r : Right) (s : State Bool) → Owns (right_side (what (Spawned height target)) plan path inside calls r s)
  owns-right height target calls (right.Value e) s = owns-given (Spawned height target) (value_of e s.env) s _ (λ v. rules.none)
  owns-right height target calls (right.Draw at) s = rules.prefix _
  owns-right height target calls (right.New at) s = rules.prefix _
  owns-right height target calls (right.Call at c) s = owns-called (Spawned height target) calls c s
  owns-right height target calls (right.Spawn at c) s = owns-spawn height target c s

  owns-loop : (target : Option Name) (c : CallText) (lo : ℤ) (hi : ℕ) (vs : List Value) (s : State Bool) → Owns (looped (what (Looped target)) plan path lo hi vs target c s)
  owns-loop target c lo hi vs s =
      owns-tested destination (nat_lt hi (s.steps + 1)) Budget s _ (owns-tested destination (has_room target hi s.env) Index _ _ (owns-tested destination (loop_fits plan path hi) Depth _ _
      (subst P (sym (append-nil (Emitted e ∷ loop_effects (is_empty_loop o) o destination))) (rules.looped e o target (is_empty_loop o) (begins e o s.rank refl refl refl)))))
    where
      destination : Destination
      destination = Looped target

      o : Origin
      o = origin.Loop (function_number (functions_of plan) c.name.bytes) vs lo (path ++ s.rank ∷ []) (record { lo = 0; hi = hi })

      e : Event
      e = event.Loop (path ++ s.rank ∷ [])

  owns-does : (height : ℕ) (st : Stmt) (a : Act-F Act Stmt) (s : State Bool) → Owns (does (what (child_destination height a)) plan path inside height st a s)
  owns-does height st (act.Let x r) s = owns-then (right_side (what (Spawned height (Some x))) plan path inside height r s) _ (owns-right height (Some x) height r s) (λ p. rules.none)
  owns-does height st (act.Array x n) s = rules.none
  owns-does height st (act.Set x r) s = owns-then (right_side (what (Spawned height (Some x))) plan path inside height r s) _ (owns-right height (Some x) height r s) (λ p. rules.none)
  owns-does height st (act.Store x i e) s =
      owns-given (Spawned height None) (value_of i s.env) s _ (λ k. by_item (at_index (items_of (content_of s.env x.bytes)) (as_integer k)) _ (owns-given (Spawned height None) (value_of e s.env) s _ (λ v. rules.none)))
    where
      by_item : (o : Option ℤ) (r : Run Effect Exit (State Bool)) → Owns r → Owns (found (what (Spawned height None)) plan path o s r)
      by_item None r h = rules.none
      by_item (Some old) r h = h
  owns-does height st (act.Spawn c) s = owns-then (spawn (what (Spawned height None)) plan path c s) _ (owns-spawn height None c s) (λ p. rules.none)
  owns-does height st (act.Call c) s = owns-then (called (what (Spawned height None)) plan path inside height c s) _ (owns-called (Spawned height None) height c s) (λ p. rules.none)
  owns-does height st act.Sync s = owns-sync (Spawned height None) s
  owns-does height st (act.Print e) s = owns-given (Spawned height None) (value_of e s.env) s _ (λ v. rules.prefix _)
  owns-does height st (act.If e a b) s = owns-given (Spawned height None) (value_of e s.env) s _ (λ v. rules.none)
  owns-does height st (act.While e a) s = owns-given (Spawned height None) (value_of e s.env) s _ (λ v. by_test (is_true v))
    where
      by_test : (t : Bool) → Owns (if t then (inside path height a s then inside path height (st ∷ [])) else done s)
      by_test true = rules.none
      by_test false = rules.none
  owns-does height st (act.Pfor x lo hi target c) s =
      owns-given (Looped target) (value_of lo s.env) s _ (λ l. owns-given (Looped target) (value_of hi s.env) s _ (λ h. owns-given (Looped target) (values_of c.args s.env) s _
      (λ vs. owns-loop target c (as_integer l) (count_of (as_integer h -ℤ as_integer l)) vs s)))
  owns-does height st (act.Scope a) s =
      owns-tested (Spawned height None) (nat_lt (length path + 1) plan.limits.depth) Depth s _ (rules.opened (strand path s))

module _ (P : List Effect → Type 0) (plan : PlanView) (path : List ℕ) (rules : EffectRules path P) where
  pub effects-move : (m : Machine) → P (move plan path m).items
  effects-move m = by_left m.top.left
    where
      below : (more : List ℕ) × (here_of path m ≡ path ++ more)
      below = here-below path m

      by_returning : (b : Bool) → P (return_move plan path m b).items
      by_returning false = owns-paid P plan path rules below.0 (here_of path m) below.1 (Spawned (length m.below) None) m.steps (state_of m) _ (λ s. by_text (spawns_in (function_at (functions_of plan) m.top.function)) s)
        where
          by_text : (b : Bool) (s : State Bool) → P (implied (parallel plan (Spawned (length m.below) None)) plan (here_of path m) b s).items
          by_text true s = owns-sync P plan path rules below.0 (here_of path m) below.1 (Spawned (length m.below) None) s
          by_text false s = rules.none
      by_returning true = by_function (function_at (functions_of plan) m.top.function)
        where
          by_function : (o : Option Function) → P (value_run plan path o m).items
          by_function None = rules.none
          by_function (Some f) = owns-given P plan path rules below.0 (here_of path m) below.1 (Spawned (length m.below) None) (value_of f.result m.top.env) (state_of m) _ (λ v. rules.none)

      by_leaving : (l : Level) (ls : List Level) (b : Bool) → P (level_move plan path m l ls b).items
      by_leaving l ls false = owns-sync P plan path rules below.0 (here_of path m) below.1 (Spawned (length m.below) None) (state_of m)
      by_leaving l ls true = rules.closed (inside_of (present path m.below) ls ++ l.rank ∷ [])

      by_levels : (ls : List Level) → P (end_move plan path m ls).items
      by_levels [] = by_returning m.top.returning
      by_levels (l ∷ ls) = by_leaving l ls m.top.leaving

      by_left : (left : List Stmt) → P (move_at plan path m left).items
      by_left [] = by_levels m.top.levels
      by_left (st ∷ left) =
          owns-paid P plan path rules below.0 (here_of path m) below.1 (child_destination (length m.below) (out-Act (out-Stmt st).act)) m.steps (state_of m) _
          (λ s. owns-does P plan path rules below.0 (here_of path m) below.1 (length m.below) st (out-Act (out-Stmt st).act) s)

-- The children that a move begins are an instance's.
not-half : (path : List ℕ) → EffectRules path (Each NotHalf)
not-half path = record {
  none = tt;
  more = each-append NotHalf;
  prefix = λ e. (tt, tt);
  spawned = λ e o height target begins. (tt, (tt, tt));
  synced = λ j b. (tt, at_sync b);
  looped = λ e o target b begins. (tt, at_loop o target b);
  opened = λ j. (tt, tt);
  closed = λ j. (tt, tt);
}
  where
    at_sync : (b : Bool) → Each NotHalf (sync_effects b)
    at_sync true = (tt, tt)
    at_sync false = tt

    at_loop : (o : Origin) (target : Option Name) (b : Bool) → Each NotHalf (loop_effects b o (Looped target))
    at_loop o target true = tt
    at_loop o target false = (tt, (tt, tt))

pub own-move : (plan : PlanView) (path : List ℕ) (m : Machine) → Each NotHalf (move plan path m).items
own-move plan path m = effects-move (Each NotHalf) plan path (not-half path) m
