-- The choices of a simulation, by kind, and the one at an index.
use Rattle.std.proofs.Common.{◌≡◌, ℕ, zero, suc, ◌%◌, ◌<◌, Bor, Bool, true, false, cond, ◌&&◌, ◌||◌, not, Contains, List, [], ◌∷◌, ◌++◌, Option, Some, None, IfSome, is_some, nat_lt, option_copied, length, map, filter, flat_map, slice_get, slice_index_or, refl, sym, ap, ◌∙◌, arith}
use Rattle.std.proofs.lemmas.Bool.{false≢true}
use Rattle.std.proofs.lemmas.Bool.Decides.{Decides-ltb}
use Rattle.std.proofs.lemmas.Nat.{mod_below}
use Rattle.std.proofs.lemmas.Option.{slice_get_read}
use Rattle.std.specs.List.{list_any}
use Rattle.serial_meaning.specs.Eval.{main_origin}
use Rattle.serial_meaning.specs.declared.origin.Origin.{Origin}
use Rattle.sched_meaning.specs.Core.{Core, IsRootAnswered, answered}
use Rattle.sched_meaning.specs.Same.{same_origin}
use Rattle.sched_meaning.specs.Simulation.{all_events, choices, is_progress, is_answered, is_choice, picked_of, stalled_places}
use Rattle.sched_meaning.specs.declared.event.CoreEvent.{CoreEvent}
use Rattle.sched_meaning.specs.declared.event.CoreEvent.TheVariants.{Run, Pop, Steal, Look}
use Rattle.sched_meaning.proofs.BegunOnce.Begun.{contains-at}
use Rattle.sched_meaning.proofs.OneCore.SameOrigin.{same-origin}
use Rattle.sched_core.specs.Chosen.{looks, numbers, pops, runs, steals}

filter-same : {A : Type 0} (p q : A → Bool) → ((x : A) → p x ≡ q x) → (xs : List A) → filter p xs ≡ filter q xs
filter-same p q h [] = refl
filter-same p q h (x ∷ xs) = ap (λ b. cond b (x ∷ filter p xs) (filter p xs)) (h x) ∙ ap (λ l. cond (q x) (x ∷ l) l) (filter-same p q h xs)

cond-append : {A : Type 0} (b : Bool) (x : A) (xs ys : List A) → cond b (x ∷ (xs ++ ys)) (xs ++ ys) ≡ cond b (x ∷ xs) xs ++ ys
cond-append true x xs ys = refl
cond-append false x xs ys = refl

filter-more : {A : Type 0} (p : A → Bool) (xs ys : List A) → filter p (xs ++ ys) ≡ filter p xs ++ filter p ys
filter-more p [] ys = refl
filter-more p (x ∷ xs) ys = ap (λ l. cond (p x) (x ∷ l) l) (filter-more p xs ys) ∙ cond-append (p x) x (filter p xs) (filter p ys)

filter-flat : {A B : Type 0} (p : B → Bool) (f : A → List B) (xs : List A) → filter p (flat_map f xs) ≡ flat_map (λ x. filter p (f x)) xs
filter-flat p f [] = refl
filter-flat p f (x ∷ xs) = filter-more p (f x) (flat_map f xs) ∙ ap (λ l. filter p (f x) ++ l) (filter-flat p f xs)

pub any-in : (o : Origin) (os : List Origin) → list_any (same_origin o) os ≡ true → Contains os o
any-in o [] h = absurd (cc)
any-in o (p ∷ os) h = by_test (same_origin o p) refl h (any-in o os)
  where
    by_test : (b : Bool) → same_origin o p ≡ b → (b || list_any (same_origin o) os) ≡ true → (list_any (same_origin o) os ≡ true → Contains os o) → Contains (p ∷ os) o
    by_test true e g later = contains-at o (p ∷ os) 0 (ap (λ x. Some x) (sym ((same-origin o p).0 e)))
    by_test false e g later = let c = later g in (suc c.0, omega (arith, c.1), c.2)

-- Choices, by kind, where the root isn't answered
module _ (c : Core) (unanswered : IsRootAnswered c → ⊥) where
  abbrev run_events : List CoreEvent
  run_events = map (λ w. Run w) (numbers c)

  abbrev pop_events : List CoreEvent
  pop_events = map (λ w. Pop w) (numbers c)

  abbrev steal_events : List CoreEvent
  steal_events = flat_map (λ thief. map (λ victim. Steal thief victim) (numbers c)) (numbers c)

  abbrev look_events : List CoreEvent
  look_events = flat_map (λ w. map (λ place. Look w place) (stalled_places (slice_get c.workers w))) (numbers c)

  open-root : is_answered c (main_origin c.plan) ≡ false
  open-root = by_test (is_answered c (main_origin c.plan)) refl
    where
      by_test : (b : Bool) → is_answered c (main_origin c.plan) ≡ b → b ≡ false
      by_test true e = absurd (unanswered (any-in (main_origin c.plan) (answered c) e))
      by_test false e = refl

  pub choices-are : choices c ≡ ((runs c (numbers c) ++ pops c (numbers c)) ++ steals c (numbers c)) ++ looks c (numbers c)
  choices-are =
      filter-same (is_choice c) (is_progress c) (λ e. ap (λ b. not b && is_progress c e) open-root) (all_events c)
      ∙ filter-more (is_progress c) ((run_events ++ pop_events) ++ steal_events) look_events
      ∙ ap (λ l. l ++ filter (is_progress c) look_events) (filter-more (is_progress c) (run_events ++ pop_events) steal_events ∙ ap (λ l. l ++ filter (is_progress c) steal_events) (filter-more (is_progress c) run_events pop_events))
      ∙ ap (λ l. ((runs c (numbers c) ++ pops c (numbers c)) ++ l) ++ filter (is_progress c) look_events) (filter-flat (is_progress c) (λ thief. map (λ victim. Steal thief victim) (numbers c)) (numbers c))
      ∙ ap (λ l. ((runs c (numbers c) ++ pops c (numbers c)) ++ steals c (numbers c)) ++ l) (filter-flat (is_progress c) (λ w. map (λ place. Look w place) (stalled_places (slice_get c.workers w))) (numbers c))

-- none is picked of no choices, and else the one at the word's index
pub picked-none : (es : List CoreEvent) (word : ℕ) → length es ≡ 0 → picked_of es word ≡ None
picked-none [] word h = refl
picked-none (e ∷ es) word h = absurd (omega arith)

pub picked-at : (es : List CoreEvent) (word n : ℕ) → length es ≡ n → (n ≡ 0 → ⊥) → slice_get es (word % n) ≡ picked_of es word
picked-at [] word n h some = absurd (some (sym h))
picked-at (e ∷ es) word n h some = ap (λ m. slice_get (e ∷ es) (word % m)) (sym h)

copied-at : (r : Option (Bor CoreEvent)) (es : List CoreEvent) (i : ℕ) → is_some r ≡ nat_lt i (length es) → IfSome r (λ x. x.now ≡ slice_index_or es i x.now) → i < length es → option_copied r ≡ slice_get es i
copied-at None es i is at below = absurd (false≢true (is ∙ (Decides-ltb i (length es)).1 below))
copied-at (Some x) es i is at below = sym (slice_get_read es (length es) i x.now refl below at)

-- what `get` gave at a word's index is what the word picks
pub picked-so : (r : Option (Bor CoreEvent)) (seen es : List CoreEvent) (word n : ℕ) → seen ≡ es → length es ≡ n → (n ≡ 0 → ⊥) → is_some r ≡ nat_lt (word % n) (length seen) → IfSome r (λ x. x.now ≡ slice_index_or seen (word % n) x.now) →
    option_copied r ≡ picked_of es word
picked-so r seen es word n same many some is at = copied-at r seen (word % n) is at below ∙ ap (λ l. slice_get l (word % n)) same ∙ picked-at es word n many some
  where
    above : (k : ℕ) → (k ≡ 0 → ⊥) → 0 < k
    above zero h = absurd (h refl)
    above (suc k) h = omega arith

    below : word % n < length seen
    below = let l : length seen ≡ n = ap length same ∙ many in let m : word % n < n = mod_below word n (above n some) in rw l m
