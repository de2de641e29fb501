-- Which events a part of a run has, by their numbers, and where they belong.
use Rattle.std.proofs.Common.{◌≡◌, ◌≤◌, ◌<◌, ◌+◌, ◌⊎◌, inl, inr, ℕ, zero, suc, Bool, true, false, nat_lt, List, [], ◌∷◌, ◌++◌, Some, length, length-append, refl, sym, ◌∙◌, ap, subst, arith, append_assoc}
use Rattle.std.proofs.lemmas.Bool.Decides.{nat_tests}
use Rattle.std.specs.Prelude.{slice_get}
use Rattle.serial_meaning.proofs.Equations.Each.{Each, each-append, each-map}
use Rattle.serial_meaning.proofs.LeastFault.Left.{rank-same}
use Rattle.serial_meaning.specs.declared.event.Event.{Event}
use Rattle.serial_meaning.specs.declared.event.Event.TheVariants as event
use Rattle.span_report.specs.Series.{pedigree_of, Begins, BeginsProperly, IsEvent, IsInstancePath, IsEventOf}
use Rattle.span_report.specs.Nested.{Whose, Instance, Iterations}
use Rattle.span_report.proofs.Nested.Clear.{too-long, step-at, IsClear, Ends, Prints, Steps, Spawns, Loops, Iterates, Scopes}
use Rattle.span_report.proofs.Belonging.Homes.{event-unique, of-unique, begins-length, fronts}

pub split-at : (i n : ℕ) → (i < n) ⊎ (n ≤ i)
split-at i n = by (nat_lt i n) refl
  where
    by : (t : Bool) → nat_lt i n ≡ t → (i < n) ⊎ (n ≤ i)
    by true g = inl (grind (arith, nat_tests))
    by false g = inr (grind (arith, nat_tests))

get-at : (n : ℕ) (front : List Event) (e : Event) (es : List Event) → n ≡ length front → slice_get (front ++ e ∷ es) n ≡ Some e
get-at zero [] e es l = refl
get-at (suc n) [] e es l = absurd (omega (arith, l))
get-at zero (x ∷ xs) e es l = absurd (omega (arith, l))
get-at (suc n) (x ∷ xs) e es l = get-at n xs e es (omega (arith, l))

pub index-in : (es : List Event) (n : ℕ) (e : Event) → slice_get es n ≡ Some e → n < length es
index-in [] n e h = absurd (cc)
index-in (x ∷ es) zero e h = omega arith
index-in (x ∷ es) (suc n) e h = let l = index-in es n e h in omega (arith, l)

pub get-event : (es : List Event) (n : ℕ) → n < length es → (e : Event) × (slice_get es n ≡ Some e)
get-event [] n l = absurd (omega (arith, l))
get-event (x ∷ es) zero l = (x, refl)
get-event (x ∷ es) (suc n) l = get-event es n (omega (arith, l))

-- with the rank that the path is followed by
pub goes-below : (path : List ℕ) (rank : ℕ) (j : List ℕ) → BeginsProperly (path ++ rank ∷ []) j → BeginsProperly path j
goes-below path rank j b = (rank, b.0 ∷ b.1, b.2 ∙ append_assoc path (rank ∷ []) (b.0 ∷ b.1))

abbrev Below : List ℕ → Event → Type 0
Below path e = BeginsProperly path (pedigree_of e)

-- What begins with a path doesn't begin an instance's path that the path begins with, and go on.
pub home-short : (home path : List ℕ) (r : ℕ) (more : List ℕ) → Begins home path → home ≡ path ++ r ∷ more → ⊥
home-short home path r more b e =
    let l : length home ≡ length (path ++ r ∷ more) = ap (λ (p : List ℕ). length p) e in
    let m = begins-length home path b in absurd (omega (arith, l, m, length-append path (r ∷ more)))

module _ (all : List Event) where
  -- what stands below a rank of a path, and what stands after that
  both : (path : List ℕ) (rank : ℕ) (xs ys : List Event) → Each (Below (path ++ rank ∷ [])) xs → Each (Below path) ys → Each (Below path) (xs ++ ys)
  both path rank xs ys a b = each-append (Below path) xs ys (each-map xs (λ e c. goes-below path rank (pedigree_of e) c) a) b

  -- The events of an instance at a present path, and of all below it, have pedigrees that begin with that path; those of a loop's iterations
  -- begin with the loop's.
  pub nested-begins : (whose : Whose) (path : List ℕ) (rank : ℕ) (es : List Event) → IsClear all whose path rank es → Each (λ e. BeginsProperly path (pedigree_of e)) es
  nested-begins w p r es (Ends whose path rank) = tt
  nested-begins w p r es (Prints home path rank v rest n) = ((rank, [], refl), nested-begins (Instance home) path rank rest n)
  nested-begins w p r es (Steps home path rank e rest s n) = ((rank, [], step-at (path ++ rank ∷ []) e s), nested-begins (Instance home) path (rank + 1) rest n)
  nested-begins w p r es (Spawns home path rank child rest c n) = ((rank, [], refl), both path rank child rest (nested-begins (Instance (path ++ rank ∷ [])) (path ++ rank ∷ []) 0 child c) (nested-begins (Instance home) path (rank + 1) rest n))
  nested-begins w p r es (Loops home path rank inner rest i n) = ((rank, [], refl), both path rank inner rest (nested-begins Iterations (path ++ rank ∷ []) 0 inner i) (nested-begins (Instance home) path (rank + 1) rest n))
  nested-begins w p r es (Iterates path k turn rest t n) = both path k turn rest (nested-begins (Instance (path ++ k ∷ [])) (path ++ k ∷ []) 0 turn t) (nested-begins Iterations path (k + 1) rest n)
  nested-begins w p r es (Scopes home path rank inner rest free i n) = both path rank inner rest (nested-begins (Instance home) (path ++ rank ∷ []) 0 inner i) (nested-begins (Instance home) path (rank + 1) rest n)

  -- These events stand in the run from number n on.
  abbrev pub At : ℕ → List Event → Type 0
  At n [] = Unit {0}
  At n (e ∷ es) = IsEvent all n e × At (n + 1) es

  pub at-front : (n : ℕ) (xs ys : List Event) → At n (xs ++ ys) → At n xs
  at-front n [] ys a = tt
  at-front n (x ∷ xs) ys a = (a.0, at-front (n + 1) xs ys a.1)

  pub at-back : (n m : ℕ) (xs ys : List Event) → At n (xs ++ ys) → m ≡ n + length xs → At m ys
  at-back n m [] ys a e = subst (λ (k : ℕ). At k ys) (omega (arith, e)) a
  at-back n m (x ∷ xs) ys a e = at-back (n + 1) m xs ys a.1 (omega (arith, e))

  pub at-all : (n : ℕ) (front es : List Event) → n ≡ length front → all ≡ front ++ es → At n es
  at-all n front [] l s = tt
  at-all n front (e ∷ es) l s = (subst (λ (w : List Event). slice_get w n ≡ Some e) (sym s) (get-at n front e es l), at-all (n + 1) (front ++ e ∷ []) es (let k = length-append front (e ∷ []) in omega (arith, l, k)) (s ∙ sym (append_assoc front (e ∷ []) es)))

  pub at-each : (T : Event → Type 0) (es : List Event) (n : ℕ) → At n es → Each T es → (i : ℕ) (e : Event) → n ≤ i → i < n + length es → IsEvent all i e → T e
  at-each T [] n a h i e l u g = absurd (omega (arith, l, u))
  at-each T (x ∷ es) n a h i e l u g = from (split-at n i) (λ s. at-each T es (n + 1) a.1 h.1 i e (omega (arith, s)) (omega (arith, u)) g)
    where
      from : (n < i) ⊎ (i ≤ n) → (n < i → T e) → T e
      from (inl s) later = later s
      from (inr s) later = subst T (event-unique all i x e (subst (λ (k : ℕ). IsEvent all k x) (omega (arith, s, l)) a.0) g) h.0

  -- The instance of an event that begins with a path of an instance begins with it too.
  pub home-begins : (path own : List ℕ) (i : ℕ) (e : Event) → IsInstancePath all path → BeginsProperly path (pedigree_of e) → IsEventOf all own i e → Begins path own
  home-begins path own i e h b k = let l = k.belongs.longest path h b in let c = k.belongs.begins in fronts path own (b.0 ∷ b.1) (c.0 ∷ c.1) (sym b.2 ∙ c.2) l

  -- No event before number n is of an instance at or below a rank of the path from this one on, nor spawns one. The path is a present one, or a
  -- loop's pedigree.
  pub record Fresh (n : ℕ) (path : List ℕ) (rank : ℕ) : Type 0 where
    pub homes : (i : ℕ) (own : List ℕ) (e : Event) → i < n → IsEventOf all own i e → (r : ℕ) (more : List ℕ) → own ≡ path ++ r ∷ more → r < rank
    pub spawns : (i : ℕ) (j : List ℕ) → i < n → IsEvent all i (event.Spawn j) → (r : ℕ) (more : List ℕ) → j ≡ path ++ r ∷ more → r < rank

  pub fresh-start : Fresh 0 [] 0
  fresh-start = record { homes = λ i own e l. absurd (omega (arith, l)); spawns = λ i j l. absurd (omega (arith, l)) }

  -- After events at and below this rank.
  pub fresh-on : (n m : ℕ) (path : List ℕ) (rank : ℕ) → Fresh n path rank → ((i : ℕ) (e : Event) → n ≤ i → i < m → IsEvent all i e → (tail : List ℕ) × (pedigree_of e ≡ path ++ rank ∷ tail)) → Fresh m path (rank + 1)
  fresh-on n m path rank f g = record { homes = homes; spawns = spawns }
    where
      homes : (i : ℕ) (own : List ℕ) (e : Event) → i < m → IsEventOf all own i e → (r : ℕ) (more : List ℕ) → own ≡ path ++ r ∷ more → r < rank + 1
      homes i own e l h r more q = from (split-at i n)
        where
          from : (i < n) ⊎ (n ≤ i) → r < rank + 1
          from (inl s) = let k = f.homes i own e s h r more q in omega (arith, k)
          from (inr s) =
              let t = g i e s l h.numbered in
              let b = h.belongs.begins in
              let w : path ++ r ∷ (more ++ b.0 ∷ b.1) ≡ path ++ rank ∷ t.0 = sym (append_assoc path (r ∷ more) (b.0 ∷ b.1)) ∙ ap (λ (l : List ℕ). l ++ b.0 ∷ b.1) (sym q) ∙ sym b.2 ∙ t.1 in
              let k = rank-same path r rank (more ++ b.0 ∷ b.1) t.0 w in omega (arith, k)

      spawns : (i : ℕ) (j : List ℕ) → i < m → IsEvent all i (event.Spawn j) → (r : ℕ) (more : List ℕ) → j ≡ path ++ r ∷ more → r < rank + 1
      spawns i j l h r more q = from (split-at i n)
        where
          from : (i < n) ⊎ (n ≤ i) → r < rank + 1
          from (inl s) = let k = f.spawns i j s h r more q in omega (arith, k)
          from (inr s) = let t = g i (event.Spawn j) s l h in let k = rank-same path r rank more t.0 (sym q ∙ t.1) in omega (arith, k)

  -- After an event of the instance itself that spawns nothing.
  pub fresh-same : (n : ℕ) (home path : List ℕ) (rank : ℕ) (e : Event) → Begins home path → Fresh n path rank → IsEventOf all home n e → ((j : List ℕ) → e ≡ event.Spawn j → ⊥) → Fresh (n + 1) path rank
  fresh-same n home path rank e b f h never = record { homes = homes; spawns = spawns }
    where
      homes : (i : ℕ) (own : List ℕ) (x : Event) → i < n + 1 → IsEventOf all own i x → (r : ℕ) (more : List ℕ) → own ≡ path ++ r ∷ more → r < rank
      homes i own x l k r more q = from (split-at i n)
        where
          from : (i < n) ⊎ (n ≤ i) → r < rank
          from (inl s) = f.homes i own x s k r more q
          from (inr s) = absurd (home-short home path r more b (of-unique all n home own e x h (subst (λ (m : ℕ). IsEventOf all own m x) (omega (arith, s, l)) k) ∙ q))

      spawns : (i : ℕ) (j : List ℕ) → i < n + 1 → IsEvent all i (event.Spawn j) → (r : ℕ) (more : List ℕ) → j ≡ path ++ r ∷ more → r < rank
      spawns i j l k r more q = from (split-at i n)
        where
          from : (i < n) ⊎ (n ≤ i) → r < rank
          from (inl s) = f.spawns i j s k r more q
          from (inr s) = absurd (never j (event-unique all n e (event.Spawn j) h.numbered (subst (λ (m : ℕ). IsEvent all m (event.Spawn j)) (omega (arith, s, l)) k)))

  -- for what begins at this rank
  pub fresh-below : (n : ℕ) (path : List ℕ) (rank : ℕ) → Fresh n path rank → Fresh n (path ++ rank ∷ []) 0
  fresh-below n path rank f = record {
    homes = λ i own e l h r more q. absurd (let k : rank < rank = f.homes i own e l h rank (r ∷ more) (q ∙ append_assoc path (rank ∷ []) (r ∷ more)) in omega (arith, k));
    spawns = λ i j l h r more q. absurd (let k : rank < rank = f.spawns i j l h rank (r ∷ more) (q ∙ append_assoc path (rank ∷ []) (r ∷ more)) in omega (arith, k));
  }

  -- the same after the event with which it begins
  pub fresh-child : (n : ℕ) (home path : List ℕ) (rank : ℕ) (e : Event) → Begins home path → Fresh n path rank → IsEventOf all home n e → pedigree_of e ≡ path ++ rank ∷ [] → Fresh (n + 1) (path ++ rank ∷ []) 0
  fresh-child n home path rank e b f h p = record { homes = homes; spawns = spawns }
    where
      g : Fresh n (path ++ rank ∷ []) 0
      g = fresh-below n path rank f

      homes : (i : ℕ) (own : List ℕ) (x : Event) → i < n + 1 → IsEventOf all own i x → (r : ℕ) (more : List ℕ) → own ≡ (path ++ rank ∷ []) ++ r ∷ more → r < 0
      homes i own x l k r more q = from (split-at i n)
        where
          from : (i < n) ⊎ (n ≤ i) → r < 0
          from (inl s) = g.homes i own x s k r more q
          from (inr s) = absurd (home-short home path rank (r ∷ more) b (of-unique all n home own e x h (subst (λ (m : ℕ). IsEventOf all own m x) (omega (arith, s, l)) k) ∙ q ∙ append_assoc path (rank ∷ []) (r ∷ more)))

      spawns : (i : ℕ) (j : List ℕ) → i < n + 1 → IsEvent all i (event.Spawn j) → (r : ℕ) (more : List ℕ) → j ≡ (path ++ rank ∷ []) ++ r ∷ more → r < 0
      spawns i j l k r more q = from (split-at i n)
        where
          from : (i < n) ⊎ (n ≤ i) → r < 0
          from (inl s) = g.spawns i j s k r more q
          from (inr s) = absurd (too-long (path ++ rank ∷ []) r more (sym p ∙ ap (λ (x : Event). pedigree_of x) (event-unique all n e (event.Spawn j) h.numbered (subst (λ (m : ℕ). IsEvent all m (event.Spawn j)) (omega (arith, s, l)) k)) ∙ q))

  -- so nothing lies there
  pub none-below : (n : ℕ) (home path : List ℕ) (rank : ℕ) (e : Event) → Begins home path → Fresh n path rank → IsEventOf all home n e → (i : ℕ) → i < n + 1 → (own : List ℕ) (x : Event) → IsEventOf all own i x → Begins (path ++ rank ∷ []) own → ⊥
  none-below n home path rank e a f h i l own x k b = from (split-at i n)
    where
      from : (i < n) ⊎ (n ≤ i) → ⊥
      from (inl s) = absurd (let q : rank < rank = f.homes i own x s k rank b.0 (b.1 ∙ append_assoc path (rank ∷ []) b.0) in omega (arith, q))
      from (inr s) = home-short home path rank b.0 a (of-unique all n home own e x h (subst (λ (m : ℕ). IsEventOf all own m x) (omega (arith, s, l)) k) ∙ b.1 ∙ append_assoc path (rank ∷ []) b.0)
