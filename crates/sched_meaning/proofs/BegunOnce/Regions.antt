-- Which origins a task may still begin, itself or by its children. No stop adds to them; and what a child may begin is apart from what
-- the rest of its parent may.
use Rattle.std.proofs.Common.{◌≡◌, ℕ, zero, suc, ◌+◌, ◌-◌, ◌<◌, ◌≤◌, ◌⊎◌, inl, inr, Bool, true, false, nat_eq, List, [], ◌∷◌, ◌++◌, Option, Some, None, Result, Ok, Err, length, append_assoc, refl, sym, ap, ◌∙◌, subst, arith, if◌then◌else◌}
use Rattle.loop_range.specs.Range.{Range, lower_half, upper_half}
use Rattle.script_grammar.specs.declared.tree.Name.{Name}
use Rattle.serial_meaning.specs.Plan.{PlanView}
use Rattle.serial_meaning.specs.Eval.{Evaluation, path_of, eval}
use Rattle.serial_meaning.specs.Open.{Own, ChildFaulted}
use Rattle.serial_meaning.specs.declared.value.Value.{Value}
use Rattle.serial_meaning.specs.declared.event.Fault.{Fault}
use Rattle.serial_meaning.specs.declared.origin.Origin.{Origin}
use Rattle.serial_meaning.specs.declared.origin.Origin.TheVariants.{Instance, Loop}
use Rattle.serial_meaning.specs.declared.answer.Outcome.{Outcome}
use Rattle.strand_meaning.specs.Machine.{Destination, Spawned, Looped, Half, Level, Frame, Effect, Opens, Closes, Emitted, Starts, Syncs, Loops, Machine, Reached, Stands, Gives, inside_of, present, here_of, function_begun, move}
use Rattle.strand_meaning.specs.Trace.{AwaitedChild, add_child}
use Rattle.strand_meaning.specs.Task.{Stage, Running, AtSync, AtLoop, Ended, Remaining, Splits, Runs, Finished, Task, start, begun_stage, own_instance, begins_last, MoveOrStop, Passes, Stops, Stop, Spawn, Wait, End, IsNext, Now, Later, stage_after, child_in, stops_at, passing, step_result, waits, ends_unless, faults_after, returned, stage_step, first_half, split_step, over_step, remaining_step, step, changed, changed_at, frame_with_answer, takes, pass_sync, resumed, takes_all, resumed_remaining}
use Rattle.strand_meaning.specs.Rest.{evaluations}
use Rattle.strand_meaning.specs.Sound.{IsEndOf, IsSoundRemaining, IsTask}
use Rattle.strand_meaning.specs.Laws.{IsSoundStep}
use Rattle.strand_meaning.proofs.SoundSteps.StepsKeepTasks.{steps_are_sound}
use Rattle.sched_meaning.specs.Core.{resumed_task}
use Rattle.sched_meaning.proofs.BegunOnce.Presents.{longer, same-rank, From, AfterLevels, AfterScopes, OnwardAt, Onward, onward-lower, onward-apart, onward-below, unmerged, child-unmerged, MovesOn, moves-on}
use Rattle.sched_meaning.proofs.BegunOnce.Shows.{children, AtMostOne, MoveStarts, strand_at, move_starts}
use Rattle.sched_meaning.proofs.BegunOnce.Starts.{first, child-first}

-- Regions

abbrev pub range_of : Origin → Range
range_of (Instance function args path) = record { lo = 0; hi = 0 }
range_of (Loop function rest first path range) = range

-- a part of the loop with this path, within these iterations and not all of them
pub record IsShorter (p : List ℕ) (left : Range) (q : Origin) : Type 0 where
  path_is : path_of q ≡ p
  low : left.lo ≤ (range_of q).lo
  some : (range_of q).lo < (range_of q).hi
  high : (range_of q).hi ≤ left.hi
  shorter : (range_of q).hi - (range_of q).lo < left.hi - left.lo

-- below this path, by one of these ranks
pub record Between (p : List ℕ) (left : Range) (q : Origin) : Type 0 where
  rank : ℕ
  more : List ℕ
  path_is : path_of q ≡ p ++ rank ∷ more
  low : left.lo ≤ rank
  high : rank < left.hi

abbrev pub SplitRegion : List ℕ → Range → Origin → Type 0
SplitRegion p left q = IsShorter p left q ⊎ Between p left q

abbrev pub StageRegion : List ℕ → Stage → Origin → Type 0
StageRegion w (Running m) q = Onward w m m.rank q
StageRegion w (AtSync m) q = Onward w m m.rank q
StageRegion w (AtLoop m) q = Onward w m m.rank q
StageRegion w (Ended e) q = ⊥

abbrev pub RemainingRegion : Origin → Remaining → Origin → Type 0
RemainingRegion o (Splits left) q = IsShorter (path_of o) left q ⊎ Between (path_of o) left q
RemainingRegion o (Runs stage) q = StageRegion (path_of (own_instance o)) stage q
RemainingRegion o (Finished v resumed_task) q = ⊥

abbrev pub Region : Task → Origin → Type 0
Region t q = RemainingRegion t.origin t.remaining q

-- what a begun instance may begin is below its path
begun-below : (w : List ℕ) (q : Origin) (r : Reached) → StageRegion w (begun_stage r) q → From w 0 q
begun-below w q (Stands m) x = onward-below w m m.rank q x
begun-below w q (Gives v) f = absurd f

-- what a begun origin may begin: a shorter part of the same loop, or what is below its path
start-below : (plan : PlanView) (c q : Origin) → Region (start plan c) q → IsShorter (path_of c) (range_of c) q ⊎ From (path_of c) 0 q
start-below plan (Instance function args path) q h = inr (begun-below path q (function_begun plan function args) h)
start-below plan (Loop function rest first path range) q (inl s) = inl s
start-below plan (Loop function rest first path range) q (inr b) = inr (record { rank = b.rank; more = b.more; path_is = b.path_is; reaches = omega arith })

-- and so never itself
pub not-own : (plan : PlanView) (c : Origin) → Region (start plan c) c → ⊥
not-own plan c h = from (start-below plan c c h)
  where
    from : IsShorter (path_of c) (range_of c) c ⊎ From (path_of c) 0 c → ⊥
    from (inl s) = absurd (omega (arith, s.shorter))
    from (inr f) = longer (path_of c) f.more f.rank f.path_is

-- Where the rest of a task and a child are apart
pub record AreApart (o : Origin) (remaining : Remaining) (c : Origin) (rest : Task) : Type 0 where
  pub own : RemainingRegion o remaining c
  pub below : (q : Origin) → Region (start rest.plan c) q → RemainingRegion o remaining q
  pub later : (q : Origin) → Region rest q → RemainingRegion o remaining q
  pub not_later : Region rest c → ⊥
  pub apart : (q : Origin) → Region (start rest.plan c) q → Region rest q → ⊥

abbrev pub StepRegion : Origin → Remaining → MoveOrStop → Type 0
StepRegion o remaining (Passes next) = (q : Origin) → Region next q → RemainingRegion o remaining q
StepRegion o remaining (Stops (Spawn c rest)) = AreApart o remaining c rest
StepRegion o remaining (Stops (Wait rest)) = (q : Origin) → Region rest q → RemainingRegion o remaining q
StepRegion o remaining (Stops (End out ended)) = Unit {0}

-- Moves

after-region : (w : List ℕ) (ts : List Effect) (m : Machine) (q : Origin) → StageRegion w (stage_after ts m) q → Onward w m m.rank q
after-region w [] m q h = h
after-region w (Opens j ∷ ts) m q h = after-region w ts m q h
after-region w (Closes j ∷ ts) m q h = after-region w ts m q h
after-region w (Emitted e ∷ ts) m q h = after-region w ts m q h
after-region w (Starts o destination ∷ ts) m q h = after-region w ts m q h
after-region w (Syncs ∷ ts) m q h = h
after-region w (Loops ∷ ts) m q h = h

child-named : (plan : PlanView) (w at : List ℕ) (os : List Origin) (o : Origin) → Some o ≡ first os → AtMostOne plan w at os → path_of o ≡ at
child-named plan w at [] o e h = absurd (cc)
child-named plan w at (c ∷ []) o e h = let same : c ≡ o = cc in subst (λ d. path_of d ≡ at) same h.named
child-named plan w at (c ∷ d ∷ os) o e h = absurd h

-- a child of the strand at this rank of a present path
module _ (here : List ℕ) (k : ℕ) (plan : PlanView) (c : Origin) (named : path_of c ≡ here ++ k ∷ []) where
  -- the paths of what is below the child go on from its rank
  record Through (q : Origin) : Type 0 where
    more : List ℕ
    path_is : path_of q ≡ here ++ k ∷ more

  through : (q : Origin) → Region (start plan c) q → Through q
  through q h = from (start-below plan c q h)
    where
      from : IsShorter (path_of c) (range_of c) q ⊎ From (path_of c) 0 q → Through q
      from (inl s) = record { more = []; path_is = s.path_is ∙ named }
      from (inr f) = record { more = f.rank ∷ f.more; path_is = f.path_is ∙ ap (λ p. p ++ f.rank ∷ f.more) named ∙ append_assoc here (k ∷ []) (f.rank ∷ f.more) }

  through-from : (q : Origin) → Through q → From here k q
  through-from q t = record { rank = k; more = t.more; path_is = t.path_is; reaches = omega arith }

  own-through : Through c
  own-through = record { more = []; path_is = named }

module _ (t : Task) (is : IsTask t) where
  o : Origin
  o = t.origin

  region-ends : (remaining : Remaining) (f : Option Fault) (ended : Outcome) → StepRegion t.origin remaining (ends_unless f t ended)
  region-ends remaining None ended = tt
  region-ends remaining (Some f) ended = tt

  region-waits : (remaining : Remaining) → t.remaining ≡ remaining → StepRegion t.origin remaining (waits t)
  region-waits remaining at = λ q h. subst (λ (x : Remaining). RemainingRegion t.origin x q) at h

  region-faults : (remaining : Remaining) → t.remaining ≡ remaining → (ps : List AwaitedChild) (f : Fault) → StepRegion t.origin remaining (faults_after ps t f)
  region-faults remaining at [] f = region-ends remaining t.trace.fault _
  region-faults remaining at (p ∷ ps) f = region-waits remaining at

  region-returned : (remaining : Remaining) (origin : Origin) (v : Value) → StepRegion t.origin remaining (returned t origin v)
  region-returned remaining (Instance function args path) v = region-ends remaining t.trace.fault _
  region-returned remaining (Loop function rest first path range) v = λ q h. absurd h

  module _ (m : Machine) where
    abbrev w : List ℕ
    w = path_of (own_instance t.origin)

    region-at : (ts : List Effect) (k : Machine) (c : Option Origin) → child_in ts ≡ c → ((q : Origin) → Onward w k k.rank q → Onward w m (m.rank + unmerged ts) q) → AtMostOne t.plan w (strand_at w m) (children ts) →
        StepRegion t.origin (Runs (Running m)) (stops_at c (passing t ts (Runs (stage_after ts k))))
    region-at ts k None e up starts = λ q h. onward-lower w m.top.levels m.below m.rank (m.rank + unmerged ts) q (omega arith) (up q (after-region w ts k q h))
    region-at ts k (Some c) e up starts = record {
      own = inl (through-from here m.rank t.plan c named c (own-through here m.rank t.plan c named));
      below = λ q h. inl (through-from here m.rank t.plan c named q (through here m.rank t.plan c named q h));
      later = λ q h. onward-lower w m.top.levels m.below m.rank (m.rank + unmerged ts) q (omega arith) (up q (after-region w ts k q h));
      not_later = λ h. onward-apart w m m.rank [] c named (after c h);
      apart = λ q h g. (let x = through here m.rank t.plan c named q h in onward-apart w m m.rank x.more q x.path_is (after q g));
    }
      where
        here : List ℕ
        here = here_of w m

        named : path_of c ≡ here_of w m ++ m.rank ∷ []
        named = child-named t.plan w (strand_at w m) (children ts) c (sym e ∙ child-first ts) starts

        after : (q : Origin) → StageRegion w (stage_after ts k) q → Onward w m (suc m.rank) q
        after q h = let r : 1 ≤ unmerged ts = child-unmerged ts c e in onward-lower w m.top.levels m.below (suc m.rank) (m.rank + unmerged ts) q (omega arith) (up q (after-region w ts k q h))

  region-stage : (stage : Stage) → t.remaining ≡ Runs stage → StepRegion t.origin (Runs stage) (stage_step t stage)
  region-stage (Running m) at = by_end (move t.plan path m).items (move t.plan path m).ending (moves-on t.plan path m) (move_starts t.plan path m)
    where
      path : List ℕ
      path = path_of (own_instance t.origin)

      by_end : (ts : List Effect) (e : Result Reached Fault) → MovesOn path m ts e → MoveStarts t.plan path (strand_at path m) (children ts) e → StepRegion t.origin (Runs (Running m)) (step_result t ts e)
      by_end ts (Ok (Stands k)) up h = region-at m ts k (child_in ts) refl up h
      by_end ts (Ok (Gives v)) up h = λ q g. absurd g
      by_end ts (Err f) up h = λ q g. absurd g
  region-stage (AtSync m) at = region-waits (Runs (AtSync m)) at
  region-stage (AtLoop m) at = region-waits (Runs (AtLoop m)) at
  region-stage (Ended (Ok v)) at = region-returned (Runs (Ended (Ok v))) t.origin v
  region-stage (Ended (Err (Own f))) at = region-faults (Runs (Ended (Err (Own f)))) at t.trace.unmerged f
  region-stage (Ended (Err (ChildFaulted f))) at = region-ends (Runs (Ended (Err (ChildFaulted f)))) t.trace.fault _

  -- Loops

  last-region : (plan : PlanView) (origin : Origin) (left : Range) → IsEndOf origin left → left.hi - left.lo ≡ 1 → (q : Origin) → RemainingRegion origin (begins_last plan origin) q → RemainingRegion origin (Splits left) q
  last-region plan (Instance function args path) left is e q h = absurd is
  last-region plan (Loop function rest first path range) left is e q h = inr (last (begun-below (path ++ (range.hi - 1) ∷ []) q (function_begun plan function _) h))
    where
      last : From (path ++ (range.hi - 1) ∷ []) 0 q → Between path left q
      last f = record {
        rank = range.hi - 1;
        more = f.rank ∷ f.more;
        path_is = f.path_is ∙ append_assoc path ((range.hi - 1) ∷ []) (f.rank ∷ f.more);
        low = omega (arith, is.1);
        high = omega (arith, is.1);
      }

  -- both halves of what is left
  halves : (plan : PlanView) (origin : Origin) (left : Range) (n : ℕ) → IsEndOf origin left → left.hi - left.lo ≡ suc (suc n) → (rest : Task) → rest.plan ≡ plan → rest.origin ≡ origin → rest.remaining ≡ Splits (upper_half left) → AreApart origin (Splits left) (first_half origin left) rest
  halves plan (Instance function args path) left n is e rest a b d = absurd is
  halves plan (Loop function more first path range) left n is e rest a b d = record {
    own = inl (record { path_is = refl; low = omega arith; some = omega arith; high = omega arith; shorter = omega arith });
    below = λ q h. lower q h;
    later = λ q h. upper q (up q h);
    not_later = λ h. never (up c h);
    apart = λ q h g. apart q h (up q g);
  }
    where
      c : Origin
      c = Loop function more first path (lower_half left)

      up : (q : Origin) → Region rest q → SplitRegion path (upper_half left) q
      up q h = subst (λ (x : Remaining). RemainingRegion (Loop function more first path range) x q) d (subst (λ (x : Origin). RemainingRegion x rest.remaining q) b h)

      lower : (q : Origin) → SplitRegion path (lower_half left) q → IsShorter path left q ⊎ Between path left q
      lower q (inl s) = inl (record { path_is = s.path_is; low = s.low; some = s.some; high = omega (arith, s.high); shorter = omega (arith, s.shorter) })
      lower q (inr f) = inr (record { rank = f.rank; more = f.more; path_is = f.path_is; low = f.low; high = omega (arith, f.high) })

      upper : (q : Origin) → SplitRegion path (upper_half left) q → IsShorter path left q ⊎ Between path left q
      upper q (inl s) = inl (record { path_is = s.path_is; low = omega (arith, s.low); some = s.some; high = s.high; shorter = omega (arith, s.shorter) })
      upper q (inr f) = inr (record { rank = f.rank; more = f.more; path_is = f.path_is; low = omega (arith, f.low); high = f.high })

      never : SplitRegion path (upper_half left) c → ⊥
      never (inl s) = absurd (omega (arith, s.low))
      never (inr f) = longer path f.more f.rank f.path_is

      apart : (q : Origin) → SplitRegion path (lower_half left) q → SplitRegion path (upper_half left) q → ⊥
      apart q (inl s) (inl r) = absurd (omega (arith, s.high, s.some, r.low))
      apart q (inl s) (inr f) = longer path f.more f.rank (sym s.path_is ∙ f.path_is)
      apart q (inr f) (inl s) = longer path f.more f.rank (sym s.path_is ∙ f.path_is)
      apart q (inr f) (inr g) = let e : f.rank ≡ g.rank = same-rank path f.more g.more f.rank g.rank (sym f.path_is ∙ g.path_is) in absurd (omega (arith, f.high, g.low))

  region-split : (left : Range) (n : ℕ) → t.remaining ≡ Splits left → IsEndOf t.origin left → left.hi - left.lo ≡ n → StepRegion t.origin (Splits left) (split_step t left n)
  region-split left zero at is e = region-ends (Splits left) t.trace.fault _
  region-split left (suc zero) at is e = last-region t.plan t.origin left is e
  region-split left (suc (suc n)) at is e =
      halves t.plan t.origin left n is e (record t { trace = add_child (first_half t.origin left) Half t.trace; remaining = Splits (upper_half left); advanced = true }) refl refl refl

  region-over : (v : Value) (origin : Origin) → t.remaining ≡ Finished v false → StepRegion t.origin (Finished v false) (over_step t v origin)
  region-over v (Instance function args path) at = region-ends (Finished v false) t.trace.fault _
  region-over v (Loop function rest first path range) at = by_size (range.hi - range.lo) refl
    where
      by_size : (n : ℕ) → range.hi - range.lo ≡ n → StepRegion t.origin (Finished v false) (over_step t v (Loop function rest first path range))
      by_size zero g = rw g (region-ends (Finished v false) t.trace.fault _)
      by_size (suc zero) g = rw g (region-ends (Finished v false) t.trace.fault _)
      by_size (suc (suc n)) g = rw g (region-waits (Finished v false) at)

  region-remaining : (remaining : Remaining) → t.remaining ≡ remaining → IsSoundRemaining t.plan t.origin t.trace.unmerged remaining → StepRegion t.origin remaining (remaining_step t remaining)
  region-remaining (Splits left) at is = region-split left (left.hi - left.lo) at is.0 refl
  region-remaining (Runs stage) at is = region-stage stage at
  region-remaining (Finished v true) at is = region-ends (Finished v true) t.trace.fault _
  region-remaining (Finished v false) at is = region-over v t.origin at

  region-step : StepRegion t.origin t.remaining (step t)
  region-step = region-remaining t.remaining refl is.remaining

abbrev pub StopRegion : Task → Stop → Type 0
StopRegion t stop = StepRegion t.origin t.remaining (Stops stop)

region-further : (t next : Task) (stop : Stop) → ((q : Origin) → Region next q → Region t q) → StopRegion next stop → StopRegion t stop
region-further t next (Spawn c rest) up a = record {
  own = up c a.own;
  below = λ q h. up q (a.below q h);
  later = λ q h. up q (a.later q h);
  not_later = a.not_later;
  apart = a.apart;
}
region-further t next (Wait rest) up h = λ q g. up q (h q g)
region-further t next (End out ended) up h = tt

pub stop-region : (t : Task) (stop : Stop) → IsTask t → IsNext t stop → StopRegion t stop
stop-region t stop is (Now h) = subst (StepRegion t.origin t.remaining) h (region-step t is)
stop-region t stop is (Later next h n) =
    region-further t next stop (subst (StepRegion t.origin t.remaining) h (region-step t is)) (stop-region next stop (subst (IsSoundStep t) h (steps_are_sound t is)) n)

-- Answers

-- A frame that takes an answer has the same scopes open.
module _ (change : Frame → Frame) (keeps : (a : Frame) → (change a).levels ≡ a.levels) (w : List ℕ) where
  changed-present : (height : ℕ) (below : List Frame) → present w (changed_at height change below) ≡ present w below
  changed-present height [] = refl
  changed-present height (a ∷ below) = by_test (nat_eq height (length below)) (changed-present height below)
    where
      by_test : (b : Bool) → present w (changed_at height change below) ≡ present w below → present w (if b then change a ∷ below else a ∷ changed_at height change below) ≡ inside_of (present w below) a.levels
      by_test true same = ap (inside_of (present w below)) (keeps a)
      by_test false same = ap (λ p. inside_of p a.levels) same

  module _ (q : Origin) where
    changed-scopes : (height : ℕ) (below : List Frame) → AfterScopes w (changed_at height change below) q → AfterScopes w below q
    changed-scopes height [] x = x
    changed-scopes height (a ∷ below) x = by_test (nat_eq height (length below)) (changed-scopes height below) x
      where
        by_test : (b : Bool) → (AfterScopes w (changed_at height change below) q → AfterScopes w below q) →
            AfterScopes w (if b then change a ∷ below else a ∷ changed_at height change below) q → AfterScopes w (a ∷ below) q
        by_test true later (inl y) = inl (subst (λ (ls : List Level). AfterLevels (present w below) ls q) (keeps a) y)
        by_test true later (inr y) = inr y
        by_test false later (inl y) = inl (subst (λ p. AfterLevels p a.levels q) (changed-present height below) y)
        by_test false later (inr y) = inr (later y)

    changed-onward : (height : ℕ) (m : Machine) → Onward w (changed height change m) (changed height change m).rank q → Onward w m m.rank q
    changed-onward height m x = by_test (nat_eq height (length m.below)) x
      where
        by_test : (b : Bool) → (let n : Machine = if b then record m { top = change m.top } else record m { below = changed_at height change m.below } in Onward w n n.rank q) → Onward w m m.rank q
        by_test true y = subst (λ (ls : List Level). OnwardAt w ls m.below m.rank q) (keeps m.top) y
        by_test false (inl f) = inl (subst (λ p. From (inside_of p m.top.levels) m.rank q) (changed-present height m.below) f)
        by_test false (inr (inl y)) = inr (inl (subst (λ p. AfterLevels p m.top.levels q) (changed-present height m.below) y))
        by_test false (inr (inr y)) = inr (inr (changed-scopes height m.below y))

same-levels : (target : Option Name) (ended : Result (List Value) Fault) (a : Frame) → (frame_with_answer target ended a).levels ≡ a.levels
same-levels target (Ok vs) a = refl
same-levels target (Err f) a = refl

module _ (w : List ℕ) (q : Origin) where
  takes-region : (destination : Destination) (ended : Result (List Value) Fault) (stage : Stage) → StageRegion w (takes destination ended stage) q → StageRegion w stage q
  takes-region (Spawned height target) ended (Running m) h = changed-onward (frame_with_answer target ended) (same-levels target ended) w q height m h
  takes-region (Spawned height target) ended (AtSync m) h = changed-onward (frame_with_answer target ended) (same-levels target ended) w q height m h
  takes-region (Spawned height target) ended (AtLoop m) h = changed-onward (frame_with_answer target ended) (same-levels target ended) w q height m h
  takes-region (Spawned height target) ended (Ended e) h = absurd h
  takes-region (Looped target) (Ok vs) (Running m) h = h
  takes-region (Looped target) (Ok vs) (AtSync m) h = h
  takes-region (Looped target) (Ok vs) (AtLoop m) h = h
  takes-region (Looped target) (Ok vs) (Ended e) h = absurd h
  takes-region (Looped target) (Err f) stage h = absurd h
  takes-region Half ended stage h = h

  all-region : (ps : List AwaitedChild) (answers : List Evaluation) (stage : Stage) → StageRegion w (takes_all ps answers stage) q → StageRegion w stage q
  all-region [] answers stage h = h
  all-region (p ∷ ps) [] stage h = h
  all-region (p ∷ ps) (answer ∷ answers) stage h = takes-region p.destination answer.ending stage (all-region ps answers (takes p.destination answer.ending stage) h)

  joins-region : (f : Option Fault) (m : Machine) → StageRegion w (pass_sync f m) q → Onward w m m.rank q
  joins-region None m h = h
  joins-region (Some f) m h = absurd h

  resumed-region : (stage : Stage) → StageRegion w (resumed stage) q → StageRegion w stage q
  resumed-region (Running m) h = h
  resumed-region (AtSync m) h = joins-region m.top.faulted m h
  resumed-region (AtLoop m) h = h
  resumed-region (Ended e) h = absurd h

pub on-region : (t : Task) (q : Origin) → Region (resumed_task t) q → Region t q
on-region t q h = by_remaining t.remaining h
  where
    by_remaining : (remaining : Remaining) → RemainingRegion t.origin (resumed_remaining t.trace.unmerged (evaluations (eval t.plan) t.trace.unmerged) remaining) q → RemainingRegion t.origin remaining q
    by_remaining (Splits left) h = h
    by_remaining (Runs stage) h =
        let w = path_of (own_instance t.origin) in all-region w q t.trace.unmerged (evaluations (eval t.plan) t.trace.unmerged) stage (resumed-region w q (takes_all t.trace.unmerged (evaluations (eval t.plan) t.trace.unmerged) stage) h)
    by_remaining (Finished v gone) h = absurd h
