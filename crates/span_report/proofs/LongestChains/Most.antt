-- Lengths of longest chains: of no event, of one among two properties, of the next event, of all events.
use Rattle.std.proofs.Common.{◌≡◌, ◌<◌, ◌≤◌, ◌+◌, ◌⊎◌, inl, inr, ℕ, Bool, true, false, nat_lt, List, [], ◌∷◌, length, max, refl, sym, ◌∙◌, subst, arith}
use Rattle.std.proofs.lemmas.Bool.Decides.{nat_tests}
use Rattle.serial_meaning.specs.declared.event.Event.{Event}
use Rattle.span_report.specs.Series.{InSeries, IsChain, IsSpan}
use Rattle.span_report.proofs.LongestChains.Chains.{Reaches, IsMost}

module _ (events : List Event) where
  -- Where no event is such, it is 0.
  pub most-none : (P : ℕ → Type 0) → ((i : ℕ) → P i → ⊥) → IsMost events P 0
  most-none P never = record { reached = inl refl; longest = λ i js c p. absurd (never i p) }

  reaches-as : (P R : ℕ → Type 0) (p : ℕ) → Reaches events P p → ((i : ℕ) → P i → R i) → Reaches events R p
  reaches-as P R p r go = record { last = r.last; others = r.others; chained = r.chained; such = go r.last r.such; long = r.long }

  -- The same events, told in another way.
  pub most-as : (P R : ℕ → Type 0) (p : ℕ) → IsMost events P p → ((i : ℕ) → P i → R i) → ((i : ℕ) → R i → P i) → IsMost events R p
  most-as P R p a go back = record { reached = from a.reached; longest = λ i js c r. a.longest i js c (back i r) }
    where
      from : (p ≡ 0) ⊎ Reaches events P p → (p ≡ 0) ⊎ Reaches events R p
      from (inl e) = inl e
      from (inr r) = inr (reaches-as P R p r go)

  -- Events of two kinds: the greater length.
  pub most-either : (P Q R : ℕ → Type 0) (p q : ℕ) → IsMost events P p → IsMost events Q q → ((i : ℕ) → P i → R i) → ((i : ℕ) → Q i → R i) → ((i : ℕ) → R i → P i ⊎ Q i) →
      IsMost events R (max p q)
  most-either P Q R p q a b first second out = record { reached = by_order (nat_lt p q) refl; longest = λ i js c r. bound i js c (out i r) }
    where
      bound : (i : ℕ) (js : List ℕ) → IsChain events (i ∷ js) → P i ⊎ Q i → length js + 1 ≤ max p q
      bound i js c (inl x) = let h = a.longest i js c x in omega (arith, h)
      bound i js c (inr x) = let h = b.longest i js c x in omega (arith, h)

      of_first : p ≡ max p q → (p ≡ 0) ⊎ Reaches events P p → (max p q ≡ 0) ⊎ Reaches events R (max p q)
      of_first e (inl z) = inl (sym e ∙ z)
      of_first e (inr r) = inr (subst (Reaches events R) e (reaches-as P R p r first))

      of_second : q ≡ max p q → (q ≡ 0) ⊎ Reaches events Q q → (max p q ≡ 0) ⊎ Reaches events R (max p q)
      of_second e (inl z) = inl (sym e ∙ z)
      of_second e (inr r) = inr (subst (Reaches events R) e (reaches-as Q R q r second))

      by_order : (t : Bool) → nat_lt p q ≡ t → (max p q ≡ 0) ⊎ Reaches events R (max p q)
      by_order true h = let l : p < q = grind (arith, nat_tests) in of_second (omega (arith, l)) b.reached
      by_order false h = let l : q ≤ p = grind (arith, nat_tests) in of_first (omega (arith, l)) a.reached

  -- The chains that end in an event go on from those that end in what is in series before it.
  pub most-next : (n b : ℕ) → n < length events → IsMost events (λ i. InSeries events i n) b → IsMost events (λ i. i ≡ n) (b + 1)
  most-next n b h m = record { reached = inr (from m.reached); longest = λ i js c e. bound i js c e }
    where
      from : (b ≡ 0) ⊎ Reaches events (λ i. InSeries events i n) b → Reaches events (λ i. i ≡ n) (b + 1)
      from (inl z) = record { last = n; others = []; chained = (h, tt, tt); such = refl; long = omega (arith, z) }
      from (inr r) = record { last = n; others = r.last ∷ r.others; chained = (h, r.such, r.chained); such = refl; long = omega (arith, r.long) }

      bound : (i : ℕ) (js : List ℕ) → IsChain events (i ∷ js) → i ≡ n → length js + 1 ≤ b + 1
      bound i [] c e = omega arith
      bound i (j ∷ js) c e = let l = m.longest j js c.2 (subst (λ (k : ℕ). InSeries events j k) e c.1) in omega (arith, l)

  -- The longest of all chains is the span.
  pub most-span : (m : ℕ) → IsMost events (λ i. i < length events) m → IsSpan events m
  most-span m a = from a.reached
    where
      bound : (other : List ℕ) → IsChain events other → length other ≤ m
      bound [] c = omega arith
      bound (i ∷ js) c = let l = a.longest i js c c.0 in omega (arith, l)

      from : (m ≡ 0) ⊎ Reaches events (λ i. i < length events) m → IsSpan events m
      from (inl z) = record { chain = []; chained = tt; long = sym z; longest = bound }
      from (inr r) = record { chain = r.last ∷ r.others; chained = r.chained; long = omega (arith, r.long); longest = bound }
