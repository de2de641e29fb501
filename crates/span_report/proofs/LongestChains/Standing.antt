-- How an open instance's numbers stand to the events so far, and what an event, a child and a loop do to that.
use Rattle.std.proofs.Common.{◌≡◌, ◌≤◌, ◌<◌, ◌+◌, ◌⊎◌, inl, inr, ℕ, List, [], ◌∷◌, ◌++◌, Some, length, max, refl, sym, subst, arith}
use Rattle.serial_meaning.specs.Laws.{raising_pedigrees}
use Rattle.serial_meaning.proofs.RisingPedigrees.Rising.{Rise}
use Rattle.serial_meaning.specs.declared.event.Event.{Event}
use Rattle.serial_meaning.specs.declared.event.Event.TheVariants as event
use Rattle.span_report.specs.declared.instance.OpenInstance.{OpenInstance}
use Rattle.span_report.specs.declared.instance.Begun.{Begun}
use Rattle.span_report.specs.declared.instance.Begun.TheVariants.{Spawned, Iterated}
use Rattle.span_report.specs.Series.{pedigree_of, Begins, IsEventOf, PrecedesFrom, InSeries}
use Rattle.span_report.proofs.LongestChains.Chains.{IsMost, IsPending, HasSynced}
use Rattle.span_report.specs.Nested.{Instance}
use Rattle.span_report.proofs.Nested.Clear.{IsClear}
use Rattle.span_report.specs.Opens.{new_open_instance, after_child_end, went_on, synced, looping_at}
use Rattle.span_report.proofs.Belonging.Homes.{series-ready, ready-series, IsPresent}
use Rattle.span_report.proofs.LongestChains.Most.{most-none, most-as, most-either, most-next}
use Rattle.span_report.proofs.LongestChains.Ready.{ready-later, ready-self, ready-own, pending-ready, ready-synced}
use Rattle.span_report.proofs.Belonging.Positions.{split-at, index-in, Fresh}
use Rattle.span_report.proofs.LongestChains.Ranges.{Between, AreBelow, AreTurns, ready-on, pending-on, pending-step, pending-none, pending-fresh, synced-on, child-ready, child-pending, pending-child, turn-inside, turn-outside, turns-below, loop-ready, ready-loop, loop-pending}

module _ (all : List Event) where
  -- The instance of a path began before event number `from`, and its last sync is before number m (0 if there is none). All below it that
  -- stands before number n has ended.
  pub record Holds (from n m : ℕ) (o : OpenInstance) (path : List ℕ) : Type 0 where
    pub at : o.path ≡ path
    pub ready : IsMost all (λ i. PrecedesFrom all i n path) (max o.before o.looped)
    pub spawned : IsMost all (λ i. IsPending all m n path i) o.spawned
    pub synced : HasSynced all m n path
    pub within : IsMost all (λ i. Between all from n i) o.within

  -- The same where the instance is in the loop with this pedigree, whose first event would be number `first`.
  pub record HoldsLoop (from first n m : ℕ) (o : OpenInstance) (path loop : List ℕ) : Type 0 where
    pub at : o.path ≡ path
    pub looping : o.looping ≡ Some loop
    pub before : IsMost all (λ i. PrecedesFrom all i first path) o.before
    pub looped : IsMost all (λ i. Between all first n i) o.looped
    pub spawned : IsMost all (λ i. IsPending all m first path i) o.spawned
    pub synced : HasSynced all m first path
    pub within : IsMost all (λ i. Between all from n i) o.within

  most-is : (P : ℕ → Type 0) (a b : ℕ) → a ≡ b → IsMost all P a → IsMost all P b
  most-is P a b e h = subst (IsMost all P) e h

  -- An event after a range.
  between-next : (from n : ℕ) (a b : ℕ) → from ≤ n → n < length all → IsMost all (λ i. Between all from n i) a → IsMost all (λ i. i ≡ n) b → IsMost all (λ i. Between all from (n + 1) i) (max a b)
  between-next from n a b l u h k = most-either all (λ i. Between all from n i) (λ i. i ≡ n) (λ i. Between all from (n + 1) i) a b h k first second out
    where
      first : (i : ℕ) → Between all from n i → Between all from (n + 1) i
      first i x = (x.0, (let y = x.1 in omega (arith, y)), x.2)

      second : (i : ℕ) → i ≡ n → Between all from (n + 1) i
      second i x = ((omega (arith, x, l)), (omega (arith, x)), (omega (arith, x, u)))

      out : (i : ℕ) → Between all from (n + 1) i → Between all from n i ⊎ (i ≡ n)
      out i x = by (split-at i n)
        where
          by : (i < n) ⊎ (n ≤ i) → Between all from n i ⊎ (i ≡ n)
          by (inl s) = inl (x.0, s, x.2)
          by (inr s) = inr (let y = x.1 in omega (arith, y, s))

  -- A range after a range.
  between-both : (from n m : ℕ) (a b : ℕ) → from ≤ n → n ≤ m → IsMost all (λ i. Between all from n i) a → IsMost all (λ i. Between all n m i) b → IsMost all (λ i. Between all from m i) (max a b)
  between-both from n m a b l u h k = most-either all (λ i. Between all from n i) (λ i. Between all n m i) (λ i. Between all from m i) a b h k first second out
    where
      first : (i : ℕ) → Between all from n i → Between all from m i
      first i x = (x.0, (let y = x.1 in omega (arith, y, u)), x.2)

      second : (i : ℕ) → Between all n m i → Between all from m i
      second i x = ((let y = x.0 in omega (arith, y, l)), x.1, x.2)

      out : (i : ℕ) → Between all from m i → Between all from n i ⊎ Between all n m i
      out i x = by (split-at i n)
        where
          by : (i < n) ⊎ (n ≤ i) → Between all from n i ⊎ Between all n m i
          by (inl s) = inl (x.0, s, x.2)
          by (inr s) = inr (s, x.1, x.2)

  between-none : (n : ℕ) → IsMost all (λ i. Between all n n i) 0
  between-none n = most-none all (λ i. Between all n n i) (λ i b. (let x = b.0 in let y = b.1 in absurd (omega (arith, x, y))))

  module _ (from n m : ℕ) (o : OpenInstance) (path there : List ℕ) (rank : ℕ) (e : Event) (b : Begins path there) (h : IsEventOf all path n e) (p : pedigree_of e ≡ there ++ rank ∷ []) (f : Fresh all n there rank) (l : from ≤ n) (s : Holds from n m o path) where
    abbrev x : ℕ
    x = max o.before o.looped

    in-all : n < length all
    in-all = index-in all n e h.numbered

    -- the event's own longest chain
    one : IsMost all (λ i. i ≡ n) (x + 1)
    one = most-next all n x in-all (most-as all (λ i. PrecedesFrom all i n path) (λ i. InSeries all i n) x s.ready (λ i r. ready-series all i n path e h r) (λ i r. series-ready all i n path e h r))

    self : (i : ℕ) → i ≡ n → PrecedesFrom all i (n + 1) path
    self i q = subst (λ (k : ℕ). PrecedesFrom all k (n + 1) path) (sym q) (ready-self all n path e h)

    pub holds-went : ((at : List ℕ) → e ≡ event.Sync at → ⊥) → Holds from (n + 1) m (went_on o) path
    holds-went never = record {
      at = s.at;
      ready = most-is (λ i. PrecedesFrom all i (n + 1) path) (max x (x + 1)) (max (x + 1) 0) (omega arith) (most-either all (λ i. PrecedesFrom all i n path) (λ i. i ≡ n) (λ i. PrecedesFrom all i (n + 1) path) x (x + 1) s.ready one (λ i r. ready-later all i n path r) self (λ i r. ready-own all i n path e h never r));
      spawned = most-as all (λ i. IsPending all m n path i) (λ i. IsPending all m (n + 1) path i) o.spawned s.spawned (λ i r. pending-on all i m n (n + 1) path (omega arith) r) (λ i r. pending-step all m n i path there rank e b h p f r);
      synced = synced-on all m n (n + 1) path (omega arith) s.synced;
      within = between-next from n o.within (x + 1) l in-all s.within one;
    }

    pub holds-synced : (at : List ℕ) → IsEventOf all path n (event.Sync at) → Holds from (n + 1) (n + 1) (synced o) path
    holds-synced at k = record {
      at = s.at;
      ready = most-is (λ i. PrecedesFrom all i (n + 1) path) (max x (max (x + 1) o.spawned)) (max (max (x + 1) o.spawned) 0) (omega arith) (most-either all (λ i. PrecedesFrom all i n path) Later (λ i. PrecedesFrom all i (n + 1) path) x (max (x + 1) o.spawned) s.ready later (λ i r. ready-later all i n path r) into out);
      spawned = most-none all (λ i. IsPending all (n + 1) (n + 1) path i) (λ i r. pending-none all (n + 1) i path r);
      synced = inr (n, at, k, omega arith, refl);
      within = between-next from n o.within (x + 1) l in-all s.within one;
    }
      where
        Later : ℕ → Type 0
        Later i = IsPending all m n path i ⊎ (i ≡ n)

        swap : (i : ℕ) → Later i → (i ≡ n) ⊎ IsPending all m n path i
        swap i (inl a) = inr a
        swap i (inr a) = inl a

        later : IsMost all Later (max (x + 1) o.spawned)
        later = most-either all (λ i. i ≡ n) (λ i. IsPending all m n path i) Later (x + 1) o.spawned one s.spawned (λ i a. inr a) (λ i a. inl a) swap

        into : (i : ℕ) → Later i → PrecedesFrom all i (n + 1) path
        into i (inl a) = pending-ready all i m n path at k a
        into i (inr a) = self i a

        out : (i : ℕ) → PrecedesFrom all i (n + 1) path → PrecedesFrom all i n path ⊎ Later i
        out i r = ready-synced all i m n path at k s.synced r

  -- where an instance begins
  pub holds-begun : (n b : ℕ) (path : List ℕ) (how : Begun) → Fresh all n path 0 → IsMost all (λ i. PrecedesFrom all i n path) b → Holds n n 0 (new_open_instance path how b) path
  holds-begun n b path how f r = record {
    at = refl;
    ready = most-is (λ i. PrecedesFrom all i n path) b (max b 0) (omega arith) r;
    spawned = most-none all (λ i. IsPending all 0 n path i) (λ i p. pending-fresh all 0 n i path f p);
    synced = inl refl;
    within = between-none n;
  }

  -- where a loop begins
  pub loop-begun : (from n m : ℕ) (o : OpenInstance) (path loop : List ℕ) → o.looped ≡ 0 → Holds from n m o path → HoldsLoop from n n m (looping_at loop o) path loop
  loop-begun from n m o path loop z s = record {
    at = s.at;
    looping = refl;
    before = most-is (λ i. PrecedesFrom all i n path) (max o.before o.looped) o.before (omega (arith, z)) s.ready;
    looped = most-is (λ i. Between all n n i) 0 o.looped (sym z) (between-none n);
    spawned = s.spawned;
    synced = s.synced;
    within = s.within;
  }

  -- after an iteration of it
  pub loop-turned : (from first n to m : ℕ) (o : OpenInstance) (path loop : List ℕ) (within : ℕ) → from ≤ n → first ≤ n → n ≤ to → HoldsLoop from first n m o path loop → IsMost all (λ i. Between all n to i) within →
      HoldsLoop from first to m (after_child_end o Iterated within) path loop
  loop-turned from first n to m o path loop within l u q s w = record {
    at = s.at;
    looping = s.looping;
    before = s.before;
    looped = between-both first n to o.looped within u q s.looped w;
    spawned = s.spawned;
    synced = s.synced;
    within = between-both from n to o.within within l q s.within w;
  }

  -- Event number n is the one by which an instance began a child or a loop at a present path, whose events go on up to number `to`.
  module _ (nested : IsClear all (Instance []) [] 0 all) (rise : Rise (raising_pedigrees all)) (from n to m : ℕ) (home path : List ℕ) (rank : ℕ) (here : IsPresent all home path) (f : Fresh all n path rank) (l : from ≤ n) (u : n + 1 ≤ to) where
    pub child-ended : (o : OpenInstance) (within : ℕ) → m ≤ n → IsEventOf all home n (event.Spawn (path ++ rank ∷ [])) → AreBelow all (n + 1) to (path ++ rank ∷ []) → Holds from (n + 1) m o home →
        IsMost all (λ i. Between all (n + 1) to i) within → Holds from to m (after_child_end o Spawned within) home
    child-ended o within q h below s w = record {
      at = s.at;
      ready = most-as all (λ i. PrecedesFrom all i (n + 1) home) (λ i. PrecedesFrom all i to home) (max o.before o.looped) s.ready (λ i r. ready-on all i (n + 1) to home u r) (λ i r. child-ready all nested rise n to home path rank here f i h below r);
      spawned = most-either all (λ i. IsPending all m (n + 1) home i) (λ i. Between all (n + 1) to i) (λ i. IsPending all m to home i) o.spawned within s.spawned w (λ i p. pending-on all i m (n + 1) to home u p) (λ i b. pending-child all nested rise n to home path rank here f m i q h below b) (λ i p. child-pending all nested rise n to home path rank here f m i below p);
      synced = synced-on all m (n + 1) to home u s.synced;
      within = between-both from (n + 1) to o.within within (omega (arith, l)) u s.within w;
    }

    -- before each iteration of the loop
    pub turn-before : (k b : ℕ) → IsEventOf all home n (event.Loop (path ++ rank ∷ [])) → AreTurns all nested rise n to home path rank here f k → IsMost all (λ i. PrecedesFrom all i (n + 1) home) b → IsMost all (λ i. PrecedesFrom all i to (path ++ rank ∷ k ∷ [])) b
    turn-before k b h turns s = most-as all (λ i. PrecedesFrom all i (n + 1) home) (λ i. PrecedesFrom all i to (path ++ rank ∷ k ∷ [])) b s (λ i r. turn-inside all nested rise n to home path rank here f k i u h r) (λ i r. turn-outside all nested rise n to home path rank here f k i h turns r)

    pub loop-ended : (k : ℕ) (o : OpenInstance) → IsEventOf all home n (event.Loop (path ++ rank ∷ [])) → AreTurns all nested rise n to home path rank here f k → HoldsLoop from (n + 1) to m o home (path ++ rank ∷ []) → Holds from to m o home
    loop-ended k o h turns s = record {
      at = s.at;
      ready = most-either all (λ i. PrecedesFrom all i (n + 1) home) (λ i. Between all (n + 1) to i) (λ i. PrecedesFrom all i to home) o.before o.looped s.before s.looped (λ i r. ready-on all i (n + 1) to home u r) (λ i b. ready-loop all nested rise n to home path rank here f k i h turns b) (λ i r. loop-ready all nested rise n to home path rank here f i below r);
      spawned = most-as all (λ i. IsPending all m (n + 1) home i) (λ i. IsPending all m to home i) o.spawned s.spawned (λ i p. pending-on all i m (n + 1) to home u p) (λ i p. loop-pending all nested rise n to home path rank here f m i h below p);
      synced = synced-on all m (n + 1) to home u s.synced;
      within = s.within;
    }
      where
        below : AreBelow all (n + 1) to (path ++ rank ∷ [])
        below = turns-below all nested rise n to home path rank here f k turns
