-- How what is ready, and what is pending, changes with a run of events: an instance's own, those of a child, those of a loop.
use Rattle.std.proofs.Common.{◌≡◌, ◌≤◌, ◌<◌, ◌+◌, ◌⊎◌, inl, inr, ℕ, List, [], ◌∷◌, ◌++◌, length, length-append, append-nil, refl, sym, ◌∙◌, ap, subst, arith, append_assoc}
use Rattle.std.specs.Prelude.{Contains}
use Rattle.serial_meaning.specs.Laws.{raising_pedigrees}
use Rattle.serial_meaning.proofs.RisingPedigrees.Rising.{Rise}
use Rattle.serial_meaning.proofs.LeastFault.Left.{rank-same}
use Rattle.serial_meaning.specs.declared.event.Event.{Event}
use Rattle.serial_meaning.specs.declared.event.Event.TheVariants as event
use Rattle.span_report.specs.Series.{pedigree_of, Begins, IsEvent, IsEventOf, IsMeet, PrecedesAtMeet, OfMeet, InLoop, BeforeSync, PrecedesFrom}
use Rattle.span_report.proofs.LongestChains.Chains.{IsPending, HasSynced}
use Rattle.span_report.specs.Nested.{Instance}
use Rattle.span_report.proofs.Nested.Clear.{IsClear}
use Rattle.span_report.proofs.Belonging.Homes.{begins-begins, begins-length, get-contained, event-unique, of-unique, meet-unique, meet-below, IsPresent}
use Rattle.span_report.proofs.LongestChains.Ready.{below-or, properly-begins, ready-outside, ready-inside}
use Rattle.span_report.proofs.Nested.Apart.{spawn-no-loop, longest, event-of, meet-turns}
use Rattle.span_report.proofs.Belonging.Above.{begins-child, not-awaited-child, not-awaited-turn}
use Rattle.span_report.proofs.Belonging.Positions.{split-at, index-in, get-event, Fresh, none-below}

-- numbers of events from m on and before n
abbrev pub Between : List Event → ℕ → ℕ → ℕ → Type 0
Between all m n i = (m ≤ i) × (i < n) × (i < length all)

module _ (all : List Event) where
  awaited-on : (n m : ℕ) (a b meet : List ℕ) → n ≤ m → PrecedesAtMeet all n a b meet → PrecedesAtMeet all m a b meet
  awaited-on n m a b meet l (OfMeet e) = OfMeet e
  awaited-on n m a b meet l (InLoop c j h p out) = InLoop c j h p out
  awaited-on n m a b meet l (BeforeSync c s j at h p k d q) = BeforeSync c s j at h p k d (omega (arith, l, q))

  -- What is ready at a number is so later.
  pub ready-on : (i n m : ℕ) (to : List ℕ) → n ≤ m → PrecedesFrom all i n to → PrecedesFrom all i m to
  ready-on i n m to l r = record { earlier = (let h = r.earlier in omega (arith, l, h)); e = r.e; own = r.own; meet = r.meet; placed = r.placed; parting = r.parting; awaited = awaited-on n m r.own to r.meet l r.awaited }

  awaited-back : (n m : ℕ) (a b meet : List ℕ) → ((s : ℕ) (at : List ℕ) → n ≤ s → s < m → IsEventOf all meet s (event.Sync at) → ⊥) → PrecedesAtMeet all m a b meet → PrecedesAtMeet all n a b meet
  awaited-back n m a b meet never (OfMeet e) = OfMeet e
  awaited-back n m a b meet never (InLoop c j h p out) = InLoop c j h p out
  awaited-back n m a b meet never (BeforeSync c s j at h p k l q) = from (split-at s n)
    where
      from : (s < n) ⊎ (n ≤ s) → PrecedesAtMeet all n a b meet
      from (inl d) = BeforeSync c s j at h p k l d
      from (inr d) = absurd (never s at d q k)

  -- Earlier events become ready by no event of an instance that this one isn't and doesn't stand below.
  pub ready-back : (i n m : ℕ) (to : List ℕ) → ((s : ℕ) (own : List ℕ) (e : Event) → n ≤ s → s < m → IsEventOf all own s e → Begins own to → ⊥) → i < n → PrecedesFrom all i m to → PrecedesFrom all i n to
  ready-back i n m to silent h r = record { earlier = h; e = r.e; own = r.own; meet = r.meet; placed = r.placed; parting = r.parting; awaited = awaited-back n m r.own to r.meet (λ s at l q k. silent s r.meet (event.Sync at) l q k r.parting.second) r.awaited }

  -- where two instances are known to part
  awaited-at : (i m : ℕ) (own to meet : List ℕ) (e : Event) → IsEventOf all own i e → IsMeet all own to meet → PrecedesFrom all i m to → PrecedesAtMeet all m own to meet
  awaited-at i m own to meet e h p r =
      subst (λ (k : List ℕ). PrecedesAtMeet all m own to k) (meet-unique all own to r.meet meet (subst (λ (k : List ℕ). IsMeet all k to r.meet) same r.parting) p) (subst (λ (k : List ℕ). PrecedesAtMeet all m k to r.meet) same r.awaited)
    where
      same : r.own ≡ own
      same = of-unique all i r.own own r.e e r.placed h

  pub pending-on : (i k n m : ℕ) (home : List ℕ) → n ≤ m → IsPending all k n home i → IsPending all k m home i
  pending-on i k n m home l p = record {
    earlier = (let h = p.earlier in omega (arith, l, h));
    e = p.e;
    own = p.own;
    placed = p.placed;
    by = p.by;
    child = p.child;
    spawn = p.spawn;
    since = p.since;
    before = (let h = p.before in omega (arith, l, h));
    below = p.below;
  }

  -- What lies below a child that an instance spawned isn't the instance's own.
  pending-own : (k n i : ℕ) (home : List ℕ) (e : Event) → IsEventOf all home i e → IsPending all k n home i → ⊥
  pending-own k n i home e h p =
      let b = properly-begins home p.child p.own p.spawn.belongs.begins p.below in
      let s = p.spawn.belongs.begins in
      let x : length p.child ≡ length (home ++ s.0 ∷ s.1) = ap (λ (l : List ℕ). length l) s.2 in
      let y = begins-length p.child p.own p.below in
      let z : length p.own ≡ length home = ap (λ (l : List ℕ). length l) (of-unique all i p.own home p.e e p.placed h) in
      absurd (omega (arith, x, y, z, length-append home (s.0 ∷ s.1)))

  -- No event of the instance itself makes more pending.
  pub pending-step : (k n i : ℕ) (home path : List ℕ) (rank : ℕ) (e : Event) → Begins home path → IsEventOf all home n e → pedigree_of e ≡ path ++ rank ∷ [] → Fresh all n path rank → IsPending all k (n + 1) home i → IsPending all k n home i
  pending-step k n i home path rank e a h q f p = from (below-or i n p.earlier) (below-or p.by n p.before)
    where
      from : (i < n) ⊎ (i ≡ n) → (p.by < n) ⊎ (p.by ≡ n) → IsPending all k n home i
      from (inr s) _ = absurd (pending-own k (n + 1) i home e (subst (λ (m : ℕ). IsEventOf all home m e) (sym s) h) p)
      from (inl l) (inl b) = record { earlier = l; e = p.e; own = p.own; placed = p.placed; by = p.by; child = p.child; spawn = p.spawn; since = p.since; before = b; below = p.below }
      from (inl l) (inr b) =
          let s : e ≡ event.Spawn p.child = event-unique all n e (event.Spawn p.child) h.numbered (subst (λ (m : ℕ). IsEvent all m (event.Spawn p.child)) b p.spawn.numbered) in
          let c : path ++ rank ∷ [] ≡ p.child = sym q ∙ ap (λ (x : Event). pedigree_of x) s in
          absurd (none-below all n home path rank e a f h i (omega (arith, l)) p.own p.e p.placed (subst (λ (l : List ℕ). Begins l p.own) (sym c) p.below))

  pub pending-none : (n i : ℕ) (home : List ℕ) → IsPending all n n home i → ⊥
  pending-none n i home p = let a = p.since in let b = p.before in absurd (omega (arith, a, b))

  -- where an instance begins
  pub pending-fresh : (k n i : ℕ) (home : List ℕ) → Fresh all n home 0 → IsPending all k n home i → ⊥
  pending-fresh k n i home f p =
      let b = properly-begins home p.child p.own p.spawn.belongs.begins p.below in
      let s = p.spawn.belongs.begins in
      let l : s.0 < 0 = f.homes i p.own p.e p.earlier p.placed s.0 (s.1 ++ p.below.0) (p.below.1 ∙ ap (λ (l : List ℕ). l ++ p.below.0) s.2 ∙ append_assoc home (s.0 ∷ s.1) p.below.0) in absurd (omega (arith, l))

  pub synced-on : (k n m : ℕ) (home : List ℕ) → n ≤ m → HasSynced all k n home → HasSynced all k m home
  synced-on k n m home l (inl z) = inl z
  synced-on k n m home l (inr s) = inr (s.0, s.1, s.2, (let h = s.3 in omega (arith, l, h)), s.4)

  pub synced-below : (k n : ℕ) (home : List ℕ) → HasSynced all k n home → k ≤ n
  synced-below k n home (inl z) = omega (arith, z)
  synced-below k n home (inr s) = let a = s.3 in let b = s.4 in omega (arith, a, b)

  -- the instance that events of a part of the run, from number n on, stand below
  abbrev pub AreBelow : ℕ → ℕ → List ℕ → Type 0
  AreBelow n m path = (s : ℕ) (own : List ℕ) (e : Event) → n ≤ s → s < m → IsEventOf all own s e → Begins path own

  -- They aren't the parent's.
  below-silent : (n m : ℕ) (home path : List ℕ) (rank : ℕ) → Begins home path → AreBelow n m (path ++ rank ∷ []) → (s : ℕ) (own : List ℕ) (e : Event) → n ≤ s → s < m → IsEventOf all own s e → Begins own home → ⊥
  below-silent n m home path rank a below s own e l q h b =
      let x = begins-length own home b in
      let y = begins-length (path ++ rank ∷ []) own (below s own e l q h) in
      let z = begins-length home path a in absurd (omega (arith, x, y, z, length-append path (rank ∷ [])))

  module _ (nested : IsClear all (Instance []) [] 0 all) (rise : Rise (raising_pedigrees all)) where
    -- Event number n is the one by which an instance began a child or a loop, at this rank of a present path. Up to number m there are the
    -- events below it.
    module _ (n m : ℕ) (home path : List ℕ) (rank : ℕ) (here : IsPresent all home path) (fresh : Fresh all n path rank) where
      -- The instance and what lies below the present path part at the instance.
      meet-home : (more : List ℕ) → IsMeet all (path ++ more) home home
      meet-home more = let b = begins-begins home path (path ++ more) here.begins (more, refl) in subst (λ (l : List ℕ). IsMeet all l home home) (sym b.1) (meet-below all home b.0 here.instance)

      -- Of a child nothing is ready for its parent.
      pub child-ready : (i : ℕ) → IsEventOf all home n (event.Spawn (path ++ rank ∷ [])) → AreBelow (n + 1) m (path ++ rank ∷ []) → PrecedesFrom all i m home → PrecedesFrom all i (n + 1) home
      child-ready i h below r = from (split-at i (n + 1))
        where
          silent : (s : ℕ) (own : List ℕ) (e : Event) → n + 1 ≤ s → s < m → IsEventOf all own s e → Begins own home → ⊥
          silent = below-silent (n + 1) m home path rank here.begins below

          early : (s : ℕ) (e : Event) → s < m → IsEventOf all home s e → s < n + 1
          early s e l k = by (split-at s (n + 1))
            where
              by : (s < n + 1) ⊎ (n + 1 ≤ s) → s < n + 1
              by (inl d) = d
              by (inr d) = absurd (silent s home e d l k ([], sym (append-nil home)))

          unsynced : (c s : ℕ) (at : List ℕ) → IsEventOf all home c (event.Spawn (path ++ rank ∷ [])) → IsEventOf all home s (event.Sync at) → c < s → s < m → ⊥
          unsynced c s at k t d l =
              let e = early s (event.Sync at) l t in
              let f : rank < rank = fresh.spawns c (path ++ rank ∷ []) (omega (arith, d, e)) k.numbered rank [] refl in absurd (omega (arith, f))

          late : n + 1 ≤ i → ⊥
          late l =
              let b = below i r.own r.e l r.earlier r.placed in
              let q : r.own ≡ path ++ rank ∷ b.0 = b.1 ∙ append_assoc path (rank ∷ []) b.0 in
              let k : IsEventOf all (path ++ rank ∷ b.0) i r.e = subst (λ (p : List ℕ). IsEventOf all p i r.e) q r.placed in
              not-awaited-child all nested rise m home path rank b.0 here (get-contained all n (event.Spawn (path ++ rank ∷ [])) h.numbered) unsynced (awaited-at i m (path ++ rank ∷ b.0) home home r.e k (meet-home (rank ∷ b.0)) r)

          from : (i < n + 1) ⊎ (n + 1 ≤ i) → PrecedesFrom all i (n + 1) home
          from (inl l) = ready-back i (n + 1) m home silent l r
          from (inr l) = absurd (late l)

      -- What is pending after a child has ended, besides what was: the child.
      pub child-pending : (k i : ℕ) → AreBelow (n + 1) m (path ++ rank ∷ []) → IsPending all k m home i → IsPending all k (n + 1) home i ⊎ Between all (n + 1) m i
      child-pending k i below p = from (split-at i (n + 1)) (split-at p.by (n + 1))
        where
          from : (i < n + 1) ⊎ (n + 1 ≤ i) → (p.by < n + 1) ⊎ (n + 1 ≤ p.by) → IsPending all k (n + 1) home i ⊎ Between all (n + 1) m i
          from (inr l) _ = inr (l, p.earlier, index-in all i p.e p.placed.numbered)
          from (inl l) (inl b) = inl (record { earlier = l; e = p.e; own = p.own; placed = p.placed; by = p.by; child = p.child; spawn = p.spawn; since = p.since; before = b; below = p.below })
          from (inl l) (inr b) = absurd (below-silent (n + 1) m home path rank here.begins below p.by home (event.Spawn p.child) b p.before p.spawn ([], sym (append-nil home)))

      pub pending-child : (k i : ℕ) → k ≤ n → IsEventOf all home n (event.Spawn (path ++ rank ∷ [])) → AreBelow (n + 1) m (path ++ rank ∷ []) → Between all (n + 1) m i → IsPending all k m home i
      pending-child k i l t below b =
          let g = get-event all i b.2 in
          let o = event-of all nested rise i g.0 g.1 in
          record {
            earlier = b.1;
            e = g.0;
            own = o.0.home;
            placed = o.1;
            by = n;
            child = path ++ rank ∷ [];
            spawn = t;
            since = l;
            before = (let x = b.0 in let y = b.1 in omega (arith, x, y));
            below = below i o.0.home g.0 b.0 b.1 o.1;
          }

      -- So far a loop's iterations before number k went on.
      abbrev pub AreTurns : ℕ → Type 0
      AreTurns k = (s : ℕ) (own : List ℕ) (e : Event) → n + 1 ≤ s → s < m → IsEventOf all own s e → (t : ℕ) × (rest : List ℕ) × (own ≡ path ++ rank ∷ t ∷ rest) × (t < k)

      pub turns-below : (k : ℕ) → AreTurns k → AreBelow (n + 1) m (path ++ rank ∷ [])
      turns-below k turns s own e l q h = let t = turns s own e l q h in (t.0 ∷ t.1, t.2 ∙ sym (append_assoc path (rank ∷ []) (t.0 ∷ t.1)))

      -- The next iteration begins after what the loop began after.
      pub turn-inside : (k i : ℕ) → n + 1 ≤ m → IsEventOf all home n (event.Loop (path ++ rank ∷ [])) → PrecedesFrom all i (n + 1) home → PrecedesFrom all i m (path ++ rank ∷ k ∷ [])
      turn-inside k i l h r = ready-on i (n + 1) m (path ++ rank ∷ k ∷ []) l (ready-inside all i (n + 1) home path rank (k ∷ []) here (longest all nested rise home path here) (none-below all n home path rank (event.Loop (path ++ rank ∷ [])) here.begins fresh h i r.earlier) r)

      pub turn-outside : (k i : ℕ) → IsEventOf all home n (event.Loop (path ++ rank ∷ [])) → AreTurns k → PrecedesFrom all i m (path ++ rank ∷ k ∷ []) → PrecedesFrom all i (n + 1) home
      turn-outside k i h turns r = from (split-at i (n + 1))
        where
          silent : (s : ℕ) (own : List ℕ) (e : Event) → n + 1 ≤ s → s < m → IsEventOf all own s e → Begins own (path ++ rank ∷ k ∷ []) → ⊥
          silent s own e l q o b =
              let t = turns s own e l q o in
              let w : (path ++ rank ∷ []) ++ t.0 ∷ (t.1 ++ b.0) ≡ (path ++ rank ∷ []) ++ k ∷ [] =
              append_assoc path (rank ∷ []) (t.0 ∷ (t.1 ++ b.0)) ∙ sym (append_assoc path (rank ∷ t.0 ∷ t.1) b.0) ∙ ap (λ (p : List ℕ). p ++ b.0) (sym t.2) ∙ sym b.1 ∙ sym (append_assoc path (rank ∷ []) (k ∷ [])) in
              let x = rank-same (path ++ rank ∷ []) t.0 k (t.1 ++ b.0) [] w in
              let y = t.3 in absurd (omega (arith, x, y))

          late : n + 1 ≤ i → ⊥
          late l =
              let t = turns i r.own r.e l r.earlier r.placed in
              let o : IsEventOf all (path ++ rank ∷ t.0 ∷ t.1) i r.e = subst (λ (p : List ℕ). IsEventOf all p i r.e) t.2 r.placed in
              let c : Contains all (event.Loop (path ++ rank ∷ [])) = get-contained all n (event.Loop (path ++ rank ∷ [])) h.numbered in
              let d : t.0 ≡ k → ⊥ = λ z. (let y = t.3 in absurd (omega (arith, y, z))) in
              let p : IsMeet all ((path ++ rank ∷ []) ++ t.0 ∷ t.1) ((path ++ rank ∷ []) ++ k ∷ []) home = meet-turns all nested rise home path (path ++ rank ∷ []) rank t.0 k t.1 [] here refl c d in
              let q : IsMeet all (path ++ rank ∷ t.0 ∷ t.1) (path ++ rank ∷ k ∷ []) home =
              subst (λ (a : List ℕ). IsMeet all (path ++ rank ∷ t.0 ∷ t.1) a home) (append_assoc path (rank ∷ []) (k ∷ [])) (subst (λ (a : List ℕ). IsMeet all a ((path ++ rank ∷ []) ++ k ∷ []) home) (append_assoc path (rank ∷ []) (t.0 ∷ t.1)) p) in
              not-awaited-turn all nested rise m home path rank t.0 k t.1 here c (awaited-at i m (path ++ rank ∷ t.0 ∷ t.1) (path ++ rank ∷ k ∷ []) home r.e o q r)

          from : (i < n + 1) ⊎ (n + 1 ≤ i) → PrecedesFrom all i (n + 1) home
          from (inl l) = ready-outside all i (n + 1) home path rank (k ∷ []) here (longest all nested rise home path here) (none-below all n home path rank (event.Loop (path ++ rank ∷ [])) here.begins fresh h i l) (ready-back i (n + 1) m (path ++ rank ∷ k ∷ []) silent l r)
          from (inr l) = absurd (late l)

      -- After a loop all of it is ready, besides what was before it.
      pub loop-ready : (i : ℕ) → AreBelow (n + 1) m (path ++ rank ∷ []) → PrecedesFrom all i m home → PrecedesFrom all i (n + 1) home ⊎ Between all (n + 1) m i
      loop-ready i below r = from (split-at i (n + 1))
        where
          from : (i < n + 1) ⊎ (n + 1 ≤ i) → PrecedesFrom all i (n + 1) home ⊎ Between all (n + 1) m i
          from (inl l) = inl (ready-back i (n + 1) m home (below-silent (n + 1) m home path rank here.begins below) l r)
          from (inr l) = inr (l, r.earlier, index-in all i r.e r.placed.numbered)

      pub ready-loop : (k i : ℕ) → IsEventOf all home n (event.Loop (path ++ rank ∷ [])) → AreTurns k → Between all (n + 1) m i → PrecedesFrom all i m home
      ready-loop k i h turns b =
          let g = get-event all i b.2 in
          let o = event-of all nested rise i g.0 g.1 in
          let t = turns i o.0.home g.0 b.0 b.1 o.1 in
          record {
            earlier = b.1;
            e = g.0;
            own = o.0.home;
            meet = home;
            placed = o.1;
            parting = subst (λ (p : List ℕ). IsMeet all p home home) (sym t.2) (meet-home (rank ∷ t.0 ∷ t.1));
            awaited = InLoop n (path ++ rank ∷ []) h (t.0, t.1, t.2 ∙ sym (append_assoc path (rank ∷ []) (t.0 ∷ t.1))) (λ c. (let x = begins-length (path ++ rank ∷ []) home c in let y = begins-length home path here.begins in absurd (omega (arith, x, y, length-append path (rank ∷ [])))));
          }

      pub loop-pending : (k i : ℕ) → IsEventOf all home n (event.Loop (path ++ rank ∷ [])) → AreBelow (n + 1) m (path ++ rank ∷ []) → IsPending all k m home i → IsPending all k (n + 1) home i
      loop-pending k i h below p = from (split-at i (n + 1)) (split-at p.by (n + 1))
        where
          late : n + 1 ≤ i → ⊥
          late l =
              let b = below i p.own p.e l p.earlier p.placed in
              let c : p.child ≡ path ++ rank ∷ [] = begins-child all nested rise home path p.child rank b.0 p.by (event.Spawn p.child) (event.Loop (path ++ rank ∷ [])) here p.spawn refl (get-contained all n (event.Loop (path ++ rank ∷ [])) h.numbered) refl (subst (λ (o : List ℕ). Begins p.child o) (b.1 ∙ append_assoc path (rank ∷ []) b.0) p.below) in
              spawn-no-loop all nested rise (path ++ rank ∷ []) (get-contained all p.by (event.Spawn (path ++ rank ∷ [])) (subst (λ (o : List ℕ). IsEvent all p.by (event.Spawn o)) c p.spawn.numbered)) (get-contained all n (event.Loop (path ++ rank ∷ [])) h.numbered)

          from : (i < n + 1) ⊎ (n + 1 ≤ i) → (p.by < n + 1) ⊎ (n + 1 ≤ p.by) → IsPending all k (n + 1) home i
          from (inr l) _ = absurd (late l)
          from (inl l) (inl b) = record { earlier = l; e = p.e; own = p.own; placed = p.placed; by = p.by; child = p.child; spawn = p.spawn; since = p.since; before = b; below = p.below }
          from (inl l) (inr b) = absurd (below-silent (n + 1) m home path rank here.begins below p.by home (event.Spawn p.child) b p.before p.spawn ([], sym (append-nil home)))
