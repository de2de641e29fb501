-- What is in series before all that an instance does next, and how that changes with an event.
use Rattle.std.proofs.Common.{◌≡◌, ◌≤◌, ◌<◌, ◌+◌, ◌⊎◌, inl, inr, ℕ, Bool, true, false, nat_lt, List, [], ◌∷◌, ◌++◌, length, length-append, append-nil, append_assoc, refl, sym, ◌∙◌, subst, arith}
use Rattle.std.proofs.lemmas.Bool.Decides.{nat_tests}
use Rattle.serial_meaning.specs.declared.event.Event.{Event}
use Rattle.serial_meaning.specs.declared.event.Event.TheVariants as event
use Rattle.span_report.specs.Series.{Begins, BeginsProperly, IsInstancePath, IsEventOf, IsMeet, PrecedesAtMeet, OfMeet, InLoop, BeforeSync, PrecedesFrom}
use Rattle.span_report.proofs.LongestChains.Chains.{IsPending, HasSynced}
use Rattle.span_report.proofs.Belonging.Homes.{begins-begins, fronts, get-contained, event-unique, of-unique, meet-below, IsPresent}

-- a number below the next one
pub below-or : (i n : ℕ) → i < n + 1 → (i < n) ⊎ (i ≡ n)
below-or i n h = by (nat_lt i n) refl
  where
    by : (t : Bool) → nat_lt i n ≡ t → (i < n) ⊎ (i ≡ n)
    by true g = inl (grind (arith, nat_tests))
    by false g = let l : n ≤ i = grind (arith, nat_tests) in inr (omega (arith, l, h))

pub properly-begins : (a b c : List ℕ) → BeginsProperly a b → Begins b c → Begins a c
properly-begins a b c h k = begins-begins a b c (h.0 ∷ h.1, h.2) k

-- What begins both with and without this rank after a path is no longer than the path.
pub short-front : (front home : List ℕ) (r : ℕ) (more own : List ℕ) → Begins front own → Begins front (home ++ r ∷ more) → (Begins (home ++ r ∷ []) own → ⊥) → length front ≤ length home
short-front front home r more own b c never = by (nat_lt (length home) (length front)) refl
  where
    long : length home < length front → ⊥
    long l =
        let k = length-append home (r ∷ []) in
        never (begins-begins (home ++ r ∷ []) front own (fronts (home ++ r ∷ []) front more c.0 (append_assoc home (r ∷ []) more ∙ c.1) (omega (arith, l, k))) b)

    by : (t : Bool) → nat_lt (length home) (length front) ≡ t → length front ≤ length home
    by true g = absurd (long (grind (arith, nat_tests)))
    by false g = grind (arith, nat_tests)

module _ (all : List Event) where
  -- What is so at a number is so later.
  awaited-later : (n : ℕ) (a b meet : List ℕ) → PrecedesAtMeet all n a b meet → PrecedesAtMeet all (n + 1) a b meet
  awaited-later n a b meet (OfMeet e) = OfMeet e
  awaited-later n a b meet (InLoop c j h p out) = InLoop c j h p out
  awaited-later n a b meet (BeforeSync c s j at h p k l m) = BeforeSync c s j at h p k l (omega (arith, m))

  pub ready-later : (i n : ℕ) (home : List ℕ) → PrecedesFrom all i n home → PrecedesFrom all i (n + 1) home
  ready-later i n home r = record { earlier = let h = r.earlier in omega (arith, h); e = r.e; own = r.own; meet = r.meet; placed = r.placed; parting = r.parting; awaited = awaited-later n r.own home r.meet r.awaited }

  -- An instance's event is so for what it does later.
  pub ready-self : (n : ℕ) (home : List ℕ) (e : Event) → IsEventOf all home n e → PrecedesFrom all n (n + 1) home
  ready-self n home e h = record {
    earlier = omega arith;
    e = e;
    own = home;
    meet = home;
    placed = h;
    parting = subst (λ (l : List ℕ). IsMeet all l home home) (append-nil home) (meet-below all home [] h.belongs.instance);
    awaited = OfMeet refl;
  }

  -- The same as before number n, unless that is the number of a sync of the instance where the two part.
  pub earlier-awaited : (n : ℕ) (a b meet : List ℕ) → ((at : List ℕ) → IsEventOf all meet n (event.Sync at) → ⊥) → PrecedesAtMeet all (n + 1) a b meet → PrecedesAtMeet all n a b meet
  earlier-awaited n a b meet never (OfMeet e) = OfMeet e
  earlier-awaited n a b meet never (InLoop c j h p out) = InLoop c j h p out
  earlier-awaited n a b meet never (BeforeSync c s j at h p k l m) = from (below-or s n m)
    where
      from : (s < n) ⊎ (s ≡ n) → PrecedesAtMeet all n a b meet
      from (inl g) = BeforeSync c s j at h p k l g
      from (inr g) = absurd (never at (subst (λ (i : ℕ). IsEventOf all meet i (event.Sync at)) g k))

  -- After an event that is no sync of its own, what is ready is what was, and that event.
  pub ready-own : (i n : ℕ) (home : List ℕ) (e : Event) → IsEventOf all home n e → ((at : List ℕ) → e ≡ event.Sync at → ⊥) → PrecedesFrom all i (n + 1) home → PrecedesFrom all i n home ⊎ (i ≡ n)
  ready-own i n home e h never r = from (below-or i n r.earlier)
    where
      from : (i < n) ⊎ (i ≡ n) → PrecedesFrom all i n home ⊎ (i ≡ n)
      from (inr g) = inr g
      from (inl g) = inl (record {
        earlier = g;
        e = r.e;
        own = r.own;
        meet = r.meet;
        placed = r.placed;
        parting = r.parting;
        awaited = earlier-awaited n r.own home r.meet (λ at k. never at (event-unique all n e (event.Sync at) h.numbered k.numbered)) r.awaited;
      })

  -- A child's events are ready after its parent's next sync.
  pub pending-ready : (i m n : ℕ) (home at : List ℕ) → IsEventOf all home n (event.Sync at) → IsPending all m n home i → PrecedesFrom all i (n + 1) home
  pending-ready i m n home at h p = record {
    earlier = let l = p.earlier in omega (arith, l);
    e = p.e;
    own = p.own;
    meet = home;
    placed = p.placed;
    parting = let b = properly-begins home p.child p.own p.spawn.belongs.begins p.below in subst (λ (l : List ℕ). IsMeet all l home home) (sym b.1) (meet-below all home b.0 h.belongs.instance);
    awaited = BeforeSync p.by n p.child at p.spawn p.below h p.before (omega arith);
  }

  spawn-no-sync : (n : ℕ) (home other j at : List ℕ) → IsEventOf all home n (event.Spawn j) → IsEventOf all other n (event.Sync at) → ⊥
  spawn-no-sync n home other j at h k = let e : event.Spawn j ≡ event.Sync at = event-unique all n (event.Spawn j) (event.Sync at) h.numbered k.numbered in absurd (cc)

  -- After a sync of its own, what is ready is what was, that event, and what it waited for.
  pub ready-synced : (i m n : ℕ) (home at : List ℕ) → IsEventOf all home n (event.Sync at) → HasSynced all m n home → PrecedesFrom all i (n + 1) home →
      PrecedesFrom all i n home ⊎ (IsPending all m n home i ⊎ (i ≡ n))
  ready-synced i m n home at h past r = from (below-or i n r.earlier)
    where
      known : PrecedesAtMeet all n r.own home r.meet → i < n → PrecedesFrom all i n home
      known a g = record { earlier = g; e = r.e; own = r.own; meet = r.meet; placed = r.placed; parting = r.parting; awaited = a }

      -- a child that was spawned before the last sync
      earlier-sync : (c : ℕ) (j : List ℕ) → IsEventOf all r.meet c (event.Spawn j) → Begins j r.own → r.meet ≡ home → c < m → i < n → HasSynced all m n home → PrecedesFrom all i n home
      earlier-sync c j k b e l g (inl z) = absurd (omega (arith, l, z))
      earlier-sync c j k b e l g (inr s) =
          known (BeforeSync c s.0 j s.1 k b (subst (λ (p : List ℕ). IsEventOf all p s.0 (event.Sync s.1)) (sym e) s.2) (apart (below-or c s.0 (omega (arith, l, s.4)))) s.3) g
        where
          apart : (c < s.0) ⊎ (c ≡ s.0) → c < s.0
          apart (inl d) = d
          apart (inr d) = absurd (spawn-no-sync c r.meet home j s.1 k (subst (λ (o : ℕ). IsEventOf all home o (event.Sync s.1)) (sym d) s.2))

      by_sync : (c : ℕ) (j : List ℕ) → IsEventOf all r.meet c (event.Spawn j) → Begins j r.own → r.meet ≡ home → c < n → i < n → (t : Bool) → nat_lt c m ≡ t → PrecedesFrom all i n home ⊎ (IsPending all m n home i ⊎ (i ≡ n))
      by_sync c j k b e l g true q = let s : c < m = grind (arith, nat_tests) in inl (earlier-sync c j k b e s g past)
      by_sync c j k b e l g false q = let s : m ≤ c = grind (arith, nat_tests) in
          inr (inl (record { earlier = g; e = r.e; own = r.own; placed = r.placed; by = c; child = j; spawn = subst (λ (p : List ℕ). IsEventOf all p c (event.Spawn j)) e k; since = s; before = l; below = b }))

      old : i < n → PrecedesAtMeet all (n + 1) r.own home r.meet → PrecedesFrom all i n home ⊎ (IsPending all m n home i ⊎ (i ≡ n))
      old g (OfMeet e) = inl (known (OfMeet e) g)
      old g (InLoop c j k p out) = inl (known (InLoop c j k p out) g)
      old g (BeforeSync c s j to k b f l q) = at_sync (below-or s n q)
        where
          at_sync : (s < n) ⊎ (s ≡ n) → PrecedesFrom all i n home ⊎ (IsPending all m n home i ⊎ (i ≡ n))
          at_sync (inl d) = inl (known (BeforeSync c s j to k b f l d) g)
          at_sync (inr d) = by_sync c j k b (of-unique all n r.meet home (event.Sync to) (event.Sync at) (subst (λ (o : ℕ). IsEventOf all r.meet o (event.Sync to)) d f) h) (omega (arith, l, d)) g (nat_lt c m) refl

      from : (i < n) ⊎ (i ≡ n) → PrecedesFrom all i n home ⊎ (IsPending all m n home i ⊎ (i ≡ n))
      from (inl g) = old g r.awaited
      from (inr g) = inr (inr g)

  -- What lies neither at nor below a rank of an instance is ready for what lies there exactly where it is for the instance. So a child, and
  -- an iteration of a loop, begins after what its parent's next event is after.
  module _ (i n : ℕ) (home path : List ℕ) (r : ℕ) (more : List ℕ) (here : IsPresent all home path) (longest : (other : List ℕ) → IsInstancePath all other → Begins other path → length other ≤ length home)
      (none : (own : List ℕ) (e : Event) → IsEventOf all own i e → Begins (path ++ r ∷ []) own → ⊥) where
    front-path : (own : List ℕ) (e : Event) → IsEventOf all own i e → (front : List ℕ) → Begins front own → Begins front (path ++ r ∷ more) → Begins front path
    front-path own e h front b c = fronts front path c.0 (r ∷ more) (sym c.1) (short-front front path r more own b c (none own e h))

    front-home : (front : List ℕ) → Begins front path → length front ≤ length home → Begins front home
    front-home front b l = fronts front home b.0 here.begins.0 (sym b.1 ∙ here.begins.1) l

    home-below : Begins home (path ++ r ∷ more)
    home-below = begins-begins home path (path ++ r ∷ more) here.begins (r ∷ more, refl)

    pub ready-outside : PrecedesFrom all i n (path ++ r ∷ more) → PrecedesFrom all i n home
    ready-outside x = record { earlier = x.earlier; e = x.e; own = x.own; meet = x.meet; placed = x.placed; parting = parts; awaited = waits x.awaited }
      where
        parts : IsMeet all x.own home x.meet
        parts = record {
          instance = x.parting.instance;
          first = x.parting.first;
          second = let b = front-path x.own x.e x.placed x.meet x.parting.first x.parting.second in front-home x.meet b (longest x.meet x.parting.instance b);
          longest = λ other k b c. x.parting.longest other k b (begins-begins other home (path ++ r ∷ more) c home-below);
        }

        waits : PrecedesAtMeet all n x.own (path ++ r ∷ more) x.meet → PrecedesAtMeet all n x.own home x.meet
        waits (OfMeet e) = OfMeet e
        waits (InLoop c j h p out) = InLoop c j h p (λ b. out (begins-begins j home (path ++ r ∷ more) b home-below))
        waits (BeforeSync c s j at h p k l m) = BeforeSync c s j at h p k l m

    pub ready-inside : PrecedesFrom all i n home → PrecedesFrom all i n (path ++ r ∷ more)
    ready-inside x = record { earlier = x.earlier; e = x.e; own = x.own; meet = x.meet; placed = x.placed; parting = parts; awaited = waits x.awaited }
      where
        parts : IsMeet all x.own (path ++ r ∷ more) x.meet
        parts = record {
          instance = x.parting.instance;
          first = x.parting.first;
          second = begins-begins x.meet home (path ++ r ∷ more) x.parting.second home-below;
          longest = λ other k b c. (let d = front-path x.own x.e x.placed other b c in x.parting.longest other k b (front-home other d (longest other k d)));
        }

        waits : PrecedesAtMeet all n x.own home x.meet → PrecedesAtMeet all n x.own (path ++ r ∷ more) x.meet
        waits (OfMeet e) = OfMeet e
        waits (InLoop c j h p out) =
            InLoop c j h p (λ b. (let d = front-path x.own x.e x.placed j (properly-begins j x.own x.own p ([], sym (append-nil x.own))) b in out (front-home j d (here.clear (event.Loop j) j (get-contained all c (event.Loop j) h.numbered) refl d))))
        waits (BeforeSync c s j at h p k l m) = BeforeSync c s j at h p k l m
