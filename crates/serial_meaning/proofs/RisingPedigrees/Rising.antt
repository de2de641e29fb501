-- Runs whose pedigrees rise.
use Rattle.std.proofs.Common.{◌≡◌, ℕ, zero, suc, ◌<◌, ◌≤◌, List, [], ◌∷◌, ◌++◌, Result, Ok, Err, ◌⊎◌, inl, length, get_or, max, refl, sym, ap, subst, arith}
use Rattle.std.specs.Prelude.{AllPairs}
use Rattle.ped_path.specs.Path.{IsBefore}
use Rattle.serial_meaning.specs.Laws.{raising_pedigrees}
use Rattle.serial_meaning.specs.Runs.{Run, continued, ◌then◌}
use Rattle.serial_meaning.proofs.Equations.Each.{Each, each-append}
use Rattle.serial_meaning.proofs.RisingPedigrees.Order.{before-by_rank}
use Rattle.serial_meaning.specs.declared.event.Fault.{Fault}
use Rattle.serial_meaning.specs.declared.event.Event.{Event}
use Rattle.serial_meaning.specs.declared.event.Event.TheVariants as event

abbrev pub BeforeAll : List ℕ → List (List ℕ) → Type 0
BeforeAll j [] = Unit {0}
BeforeAll j (k ∷ ks) = IsBefore j k × BeforeAll j ks

-- each is before all that follow
abbrev pub Rise : List (List ℕ) → Type 0
Rise [] = Unit {0}
Rise (j ∷ js) = BeforeAll j js × Rise js

before_all-at : (j : List ℕ) (ks : List (List ℕ)) (i : ℕ) (d : List ℕ) → BeforeAll j ks → i < length ks → IsBefore j (get_or ks i d)
before_all-at j [] i d b h = absurd (omega arith)
before_all-at j (k ∷ ks) zero d b h = b.0
before_all-at j (k ∷ ks) (suc i) d b h = before_all-at j ks i d b.1 (omega arith)

pub rise-pairs : (js : List (List ℕ)) → Rise js → AllPairs IsBefore js
rise-pairs [] r i k d h g = absurd (omega arith)
rise-pairs (j ∷ js) r zero zero d h g = absurd (omega arith)
rise-pairs (j ∷ js) r zero (suc k) d h g = before_all-at j js k d r.0 (omega arith)
rise-pairs (j ∷ js) r (suc i) zero d h g = absurd (omega arith)
rise-pairs (j ∷ js) r (suc i) (suc k) d h g = rise-pairs js r.1 i k d (omega arith) (omega arith)

-- each begins with the path and a rank from lo on and below hi
abbrev pub Within : List ℕ → ℕ → ℕ → List (List ℕ) → Type 0
Within path lo hi [] = Unit {0}
Within path lo hi (j ∷ js) = ((k : ℕ) × (more : List ℕ) × (j ≡ path ++ k ∷ more) × (lo ≤ k) × (k < hi)) × Within path lo hi js

before_within : (path : List ℕ) (j : ℕ) (xs : List ℕ) (lo hi : ℕ) (ks : List (List ℕ)) → j < lo → Within path lo hi ks → BeforeAll (path ++ j ∷ xs) ks
before_within path j xs lo hi [] h w = tt
before_within path j xs lo hi (k ∷ ks) h w =
    (let a = w.0 in rw a.2 (before-by_rank path j a.0 xs a.1 (omega (arith, a.3))), before_within path j xs lo hi ks h w.1)

before-append : (j : List ℕ) (xs ys : List (List ℕ)) → BeforeAll j xs → BeforeAll j ys → BeforeAll j (xs ++ ys)
before-append j [] ys a b = b
before-append j (x ∷ xs) ys a b = (a.0, before-append j xs ys a.1 b)

-- What stays below a rank and then what stays above it rises as a whole.
pub rise-append : (path : List ℕ) (lo mid hi : ℕ) (xs ys : List (List ℕ)) → Within path lo mid xs → Within path mid hi ys → Rise xs → Rise ys → Rise (xs ++ ys)
rise-append path lo mid hi [] ys w v r t = t
rise-append path lo mid hi (x ∷ xs) ys w v r t = (before-append x xs ys r.0 (let a = w.0 in rw a.2 (before_within path a.0 a.1 mid hi ys (omega (arith, a.4)) v)), rise-append path lo mid hi xs ys w.1 v r.1 t)

pub places-append : (xs ys : List Event) → raising_pedigrees (xs ++ ys) ≡ raising_pedigrees xs ++ raising_pedigrees ys
places-append [] ys = refl
places-append (event.Print j v ∷ xs) ys = places-append xs ys
places-append (event.Draw j n ∷ xs) ys = ap (λ l. j ∷ l) (places-append xs ys)
places-append (event.New j ∷ xs) ys = ap (λ l. j ∷ l) (places-append xs ys)
places-append (event.Spawn j ∷ xs) ys = ap (λ l. j ∷ l) (places-append xs ys)
places-append (event.Sync j ∷ xs) ys = ap (λ l. j ∷ l) (places-append xs ys)
places-append (event.Loop j ∷ xs) ys = ap (λ l. j ∷ l) (places-append xs ys)

pub within-wider : (path : List ℕ) (lo lo' hi hi' : ℕ) (js : List (List ℕ)) → lo' ≤ lo → hi ≤ hi' → Within path lo hi js → Within path lo' hi' js
within-wider path lo lo' hi hi' [] a b w = tt
within-wider path lo lo' hi hi' (j ∷ js) a b w =
    (let x = w.0 in (x.0, x.1, x.2, omega (arith, x.3), omega (arith, x.4)), within-wider path lo lo' hi hi' js a b w.1)

within-append : (path : List ℕ) (lo hi : ℕ) (xs ys : List (List ℕ)) → Within path lo hi xs → Within path lo hi ys → Within path lo hi (xs ++ ys)
within-append path lo hi [] ys a b = b
within-append path lo hi (x ∷ xs) ys a b = (a.0, within-append path lo hi xs ys a.1 b)

-- it is before the place or is the place
abbrev pub AtMost : List ℕ → List ℕ → Type 0
AtMost at j = IsBefore j at ⊎ (j ≡ at)

-- what stands below the rank of a place is before it
at_most-below : (path : List ℕ) (lo hi k : ℕ) (more at : List ℕ) → at ≡ path ++ k ∷ more → hi ≤ k → (js : List (List ℕ)) → Within path lo hi js → Each (AtMost at) js
at_most-below path lo hi k more at e h [] w = tt
at_most-below path lo hi k more at e h (j ∷ js) w =
    (inl (let x = w.0 in subst (λ z. IsBefore z at) (sym x.2) (subst (IsBefore (path ++ x.0 ∷ x.1)) (sym e) (before-by_rank path x.0 k x.1 more (omega (arith, x.4))))), at_most-below path lo hi k more at e h js w.1)

-- the rank with which a run ends; a fault stands below the path at a rank from the first one on, and after it stands no event
abbrev pub Below : {A : Type 0} → List ℕ → (A → ℕ) → ℕ → ℕ → List (List ℕ) → Result A Fault → Type 0
Below path rank lo hi js (Ok a) = (hi ≡ rank a) × (lo ≤ hi)
Below path rank lo hi js (Err f) = (k : ℕ) × (more : List ℕ) × (f.at ≡ path ++ k ∷ more) × (lo ≤ k) × Each (AtMost f.at) js

-- The events of a run rise, and stand between the rank with which it began and the one with which it ended.
pub record Rising {A : Type 0} (path : List ℕ) (rank : A → ℕ) (lo : ℕ) (r : Run Event Fault A) : Type 0 where
  pub hi : ℕ
  pub below : Below path rank lo hi (raising_pedigrees r.items) r.ending
  pub within : Within path lo hi (raising_pedigrees r.items)
  pub rise : Rise (raising_pedigrees r.items)

pub rising-then : {A B : Type 0} (path : List ℕ) (f-rank : A → ℕ) (g-rank : B → ℕ) (lo : ℕ) (r : Run Event Fault A) (f : A → Run Event Fault B) →
    Rising path f-rank lo r → ((a : A) → Rising path g-rank (f-rank a) (f a)) → Rising path g-rank lo (r then f)
rising-then {A = A} {B = B} path f-rank g-rank lo r f h k = from r.items r.ending h.hi h.below h.within h.rise
  where
    from : (items : List Event) (e : Result A Fault) (hi : ℕ) → Below path f-rank lo hi (raising_pedigrees items) e → Within path lo hi (raising_pedigrees items) → Rise (raising_pedigrees items) → Rising path g-rank lo (continued items e f)
    from items (Err e) hi b w s = record { hi = hi; below = b; within = w; rise = s }
    from items (Ok a) hi b w s = record {
      hi = max hi (k a).hi;
      below = rw (places-append items (f a).items) (below (f a).ending (k a).below);
      within = rw (places-append items (f a).items) (within-append path lo (max hi (k a).hi) (raising_pedigrees items) (raising_pedigrees (f a).items) (within-wider path lo lo hi (max hi (k a).hi) (raising_pedigrees items) (omega arith) (omega arith) w) (within-wider path (f-rank a) lo (k a).hi (max hi (k a).hi) (raising_pedigrees (f a).items) (omega arith) (omega arith) (k a).within));
      rise = rw (places-append items (f a).items) (rise-append path lo hi (k a).hi (raising_pedigrees items) (raising_pedigrees (f a).items) w (rw b.0 (k a).within) s (k a).rise);
    }
      where
        below : (e : Result B Fault) → Below path g-rank (f-rank a) (k a).hi (raising_pedigrees (f a).items) e → Below path g-rank lo (max hi (k a).hi) (raising_pedigrees items ++ raising_pedigrees (f a).items) e
        below (Ok x) c = (omega arith, omega arith)
        below (Err e) c = (
          c.0,
          c.1,
          c.2,
          omega (arith, c.3),
          each-append (AtMost e.at) (raising_pedigrees items) (raising_pedigrees (f a).items) (at_most-below path lo hi c.0 c.1 e.at c.2 (omega (arith, c.3, b.0)) (raising_pedigrees items) w) c.4,
        )
