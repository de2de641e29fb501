-- What is left of a lawful state. Where all thieves came back, the entries left are those whose numbers the owner doesn't know to be taken.
use Rattle.std.proofs.Common.{◌≡◌, ◌≢◌, ℕ, zero, suc, ◌+◌, ◌<◌, ◌≤◌, List, [], ◌∷◌, ◌++◌, length, sym, refl, ap, ◌∙◌, subst, arith, eq-eqb, ne_eqb}
use mathlib.Core.Option.{some, some-injective}
use mathlib.Core.Logic.{dite}
use native.Mathlib.Decide.{ℕ_discrete}
use lib.ListN.{get_elem?}
use Rattle.steal_deck.specs.Accounts.{one_if, times, EachOnce, AreEntriesOf, unless, left_from, left_of}
use Rattle.steal_deck.specs.History.{DeckState}
use Rattle.steal_deck.specs.Steps.{party_taken}
use Rattle.steal_deck.proofs.Weights.{only, below, weigh, thieves, Above, Rising, Lawful}
use Rattle.steal_deck.proofs.Entries.{in_range, weigh_both, weigh_more, named_both, none_out}

only_same : (n k : ℕ) → k ≡ n → only n k ≡ 1
only_same n k e = ap one_if (eq-eqb k n e)

only_other : (n k : ℕ) → k ≢ n → only n k ≡ 0
only_other n k ne = ap one_if (ne_eqb k n ne)

below_out : (n m : ℕ) → m ≤ n → below (only n) m ≡ 0
below_out n zero le = refl
below_out n (suc m) le = omega (arith, below_out n m (omega arith), only_other n m (λ e. omega arith))

below_in : (n m : ℕ) → n < m → below (only n) m ≡ 1
below_in n zero lt = absurd (omega arith)
below_in n (suc m) lt = dite (ℕ_discrete m n) (λ e. omega (arith, below_out n m (omega arith), only_same n m e)) (λ ne. omega (arith, below_in n m (omega arith), only_other n m ne))

module _ {T : Type 0} where
  times_is : (n : ℕ) (es : List (ℕ × T)) → times n es ≡ weigh (only n) es
  times_is n [] = refl
  times_is n (e ∷ es) = ap (λ k. only n e.0 + k) (times_is n es)

  -- the numbers of the entries are n or above
  abbrev From : ℕ → List (ℕ × T) → Type 0
  From n [] = Unit {0}
  From n (e ∷ es) = (n ≤ e.0) × From n es

  from_above : (n m : ℕ) (es : List (ℕ × T)) → n < m + 1 → Above m es → From (suc n) es
  from_above n m [] lt a = tt
  from_above n m (e ∷ es) lt a = (omega (arith, a.0), from_above n m es lt a.1)

  none_of : (n : ℕ) (es : List (ℕ × T)) → From (suc n) es → times n es ≡ 0
  none_of n [] f = refl
  none_of n (e ∷ es) f = let le = f.0 in omega (arith, only_other n e.0 (λ q. omega arith), none_of n es f.1)

  from_zero : (es : List (ℕ × T)) → From 0 es
  from_zero [] = tt
  from_zero (e ∷ es) = (omega arith, from_zero es)

  -- rising entries of the pushes p, from the number n on, are what `left_from` gives where each number is in them or in `gone`
  left_is : (p : List T) (gone : List (ℕ × T)) (xs : List T) (n : ℕ) (es : List (ℕ × T)) → Rising es → From n es → AreEntriesOf p es → n + length xs ≡ length p
      → ((k : ℕ) → get_elem? xs k ≡ get_elem? p (n + k)) → ((k : ℕ) → n ≤ k → k < length p → times k es + times k gone ≡ 1) → es ≡ left_from n xs gone
  left_is p gone [] n [] r f m len at once = refl
  left_is p gone [] n (e ∷ es) r f m len at once = let b = in_range p e.0 e.1 m.0 in let c = f.0 in absurd (omega arith)
  left_is p gone (x ∷ xs) n [] r f m len at once =
      let o = once n (omega arith) (omega arith) in
      let g : times n gone ≡ suc 0 = omega arith in
      subst (λ (c : ℕ). [] ≡ unless c (n, x) (left_from (suc n) xs gone)) (sym g)
      (left_is p gone xs (suc n) [] tt tt tt (omega arith) (λ k. at (suc k) ∙ ap (get_elem? p) (omega arith)) (λ k le lt. once k (omega arith) lt))
  left_is p gone (x ∷ xs) n (e ∷ es) r f m len at once = dite (ℕ_discrete e.0 n)
      (λ same.
      let o = once n (omega arith) (omega arith) in
      let one = only_same n e.0 same in
      let g : times n gone ≡ 0 = omega arith in
      let here : some e.1 ≡ some x = sym m.0 ∙ ap (get_elem? p) (omega arith) ∙ sym (at 0) in
      let is : e ≡ (n, x) = λ k. (same k, some-injective e.1 x here k) in
      let rest = left_is p gone xs (suc n) es r.1 (from_above n e.0 es (omega arith) r.0) m.1 (omega arith) (λ k. at (suc k) ∙ ap (get_elem? p) (omega arith))
      (λ k le lt. let w = once k (omega arith) lt in let z = only_other k e.0 (λ q. omega arith) in omega arith) in
      subst (λ (c : ℕ). e ∷ es ≡ unless c (n, x) (left_from (suc n) xs gone)) (sym g) (λ k. is k ∷ rest k))
      (λ other.
      let o = once n (omega arith) (omega arith) in
      let le = f.0 in
      let far : n < e.0 = omega arith in
      let all : From (suc n) (e ∷ es) = (omega arith, from_above n e.0 es (omega arith) r.0) in
      let nothing = none_of n (e ∷ es) all in
      let g : times n gone ≡ suc 0 = omega arith in
      subst (λ (c : ℕ). e ∷ es ≡ unless c (n, x) (left_from (suc n) xs gone)) (sym g)
      (left_is p gone xs (suc n) (e ∷ es) r all m (omega arith) (λ k. at (suc k) ∙ ap (get_elem? p) (omega arith)) (λ k le lt. once k (omega arith) lt)))

  times_both : (n : ℕ) (es fs : List (ℕ × T)) → times n (es ++ fs) ≡ times n es + times n fs
  times_both n es fs = omega (arith, times_is n (es ++ fs), times_is n es, times_is n fs, weigh_both (only n) es fs)

  -- where all thieves came back, each number is left or in the owner's lists, once
  once_home : (s : DeckState T) → Lawful s → s.owner.made ≡ s.owner.came → (n : ℕ) → n < length s.owner.pushed → times n s.left + times n (party_taken s.owner) ≡ 1
  once_home s d home n lt =
      let v = s.owner in
      let none : thieves s.others ≡ 0 = omega (arith, d.parties) in
      let o = d.once (only n) in
      omega (arith, times_is n s.left, times_is n (party_taken v), weigh_both (only n) v.taken v.back, none_out (only n) s.others none d.idle, below_in n (length v.pushed) lt)

  pub all_home : (s : DeckState T) → Lawful s → s.owner.made ≡ s.owner.came → s.left ≡ left_of s.owner.pushed (party_taken s.owner)
  all_home s d home =
      let v = s.owner in
      left_is v.pushed (party_taken v) v.pushed 0 s.left d.rising (from_zero s.left) d.named.0 (omega arith) (λ k. ap (get_elem? v.pushed) (omega arith))
      (λ k le lt. once_home s d home k lt)

  pub each_home : (s : DeckState T) → Lawful s → s.owner.made ≡ s.owner.came → EachOnce (length s.owner.pushed) (s.left ++ party_taken s.owner)
  each_home s d home = λ n lt. omega (arith, times_both n s.left (party_taken s.owner), once_home s d home n lt)

  pub all_are : (s : DeckState T) → Lawful s → AreEntriesOf s.owner.pushed (s.left ++ party_taken s.owner)
  all_are s d = let v = s.owner in named_both v.pushed s.left (party_taken v) d.named.0 (named_both v.pushed v.taken v.back d.named.1 d.named.2)

  -- the last entry left is a push that the owner doesn't know to be taken
  pub last_fresh : (s : DeckState T) (left : List (ℕ × T)) (e : ℕ × T) → s.left ≡ left ++ e ∷ [] → get_elem? s.owner.pushed e.0 ≡ some e.1 → Lawful s
      → (get_elem? s.owner.pushed e.0 ≡ some e.1) × (e.0 < length s.owner.pushed) × (times e.0 (party_taken s.owner) ≡ 0)
  last_fresh s left e q at d =
      let v = s.owner in
      let n = e.0 in
      let within : n < length v.pushed = in_range v.pushed n e.1 at in
      let o = d.once (only n) in
      (at, within, omega (arith, times_is n (party_taken v), weigh_both (only n) v.taken v.back, ap (weigh (only n)) q, weigh_more (only n) left e, only_same n n refl, below_in n (length v.pushed) within))
