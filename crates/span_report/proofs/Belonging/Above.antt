-- What lies below an open child, or in an open loop, isn't ready for what its parent, or the loop's next iteration, does next.
use Rattle.std.proofs.Common.{◌≡◌, ◌≤◌, ◌<◌, ◌+◌, ◌⊎◌, inl, inr, ℕ, Bool, true, false, nat_lt, List, [], ◌∷◌, ◌++◌, length, length-append, refl, sym, ◌∙◌, ap, subst, arith, append_assoc}
use Rattle.std.proofs.lemmas.Bool.Decides.{nat_tests}
use Rattle.std.specs.Prelude.{Contains}
use Rattle.serial_meaning.specs.Laws.{raising_pedigrees}
use Rattle.serial_meaning.proofs.RisingPedigrees.Rising.{Rise}
use Rattle.serial_meaning.specs.declared.event.Event.{Event}
use Rattle.serial_meaning.specs.declared.event.Event.TheVariants as event
use Rattle.span_report.specs.Series.{Begins, BeginsProperly, IsEventOf, PrecedesAtMeet, OfMeet, InLoop, BeforeSync}
use Rattle.span_report.specs.Nested.{Instance}
use Rattle.span_report.proofs.Nested.Clear.{Raises, raises-at, IsClear}
use Rattle.span_report.proofs.Belonging.Homes.{of-unique, same-front, begins-length, fronts, get-contained, IsPresent}
use Rattle.span_report.proofs.Belonging.Places.{IsPlaced}
use Rattle.span_report.proofs.Nested.Apart.{spawn-no-loop, event-of}

pub properly : (a b : List ℕ) → BeginsProperly a b → Begins a b
properly a b h = (h.0 ∷ h.1, h.2)

module _ (all : List Event) (nested : IsClear all (Instance []) [] 0 all) (rise : Rise (raising_pedigrees all)) where
  -- Of an instance's events that raise the rank only one begins what lies at or below a rank of a present path, where such an event stands.
  pub begins-child : (home path j : List ℕ) (r : ℕ) (rest : List ℕ) (c : ℕ) (e x : Event) → IsPresent all home path → IsEventOf all home c e → Raises e j → Contains all x → Raises x (path ++ r ∷ []) → Begins j (path ++ r ∷ rest) → j ≡ path ++ r ∷ []
  begins-child home path j r rest c e x h o raises k at b = by (split (length j) (length path))
    where
      q : path ++ r ∷ rest ≡ (path ++ r ∷ []) ++ rest
      q = sym (append_assoc path (r ∷ []) rest)

      placed : (p : IsPlaced all e) × IsEventOf all p.home c e
      placed = event-of all nested rise c e o.numbered

      there : IsPresent all home placed.0.path
      there = subst (λ (l : List ℕ). IsPresent all l placed.0.path) (of-unique all c placed.0.home home e e placed.1 o) placed.0.present

      at-j : j ≡ placed.0.path ++ placed.0.rank ∷ []
      at-j = sym (raises-at e j raises) ∙ placed.0.at

      long : length home < length j
      long =
          let s = o.belongs.begins in
          let l : length j ≡ length (home ++ s.0 ∷ s.1) = ap (λ (l : List ℕ). length l) (sym (raises-at e j raises) ∙ s.2) in
          omega (arith, l, length-append home (s.0 ∷ s.1))

      split : (m n : ℕ) → (m ≤ n) ⊎ ((m ≡ n + 1) ⊎ (n + 1 < m))
      split m n = lower (nat_lt n m) refl
        where
          higher : (t : Bool) → nat_lt (n + 1) m ≡ t → n < m → (m ≤ n) ⊎ ((m ≡ n + 1) ⊎ (n + 1 < m))
          higher true g l = inr (inr (grind (arith, nat_tests)))
          higher false g l = let u : m ≤ n + 1 = grind (arith, nat_tests) in inr (inl (omega (arith, l, u)))

          lower : (t : Bool) → nat_lt n m ≡ t → (m ≤ n) ⊎ ((m ≡ n + 1) ⊎ (n + 1 < m))
          lower true g = higher (nat_lt (n + 1) m) refl (grind (arith, nat_tests))
          lower false g = inl (grind (arith, nat_tests))

      by : (length j ≤ length path) ⊎ ((length j ≡ length path + 1) ⊎ (length path + 1 < length j)) → j ≡ path ++ r ∷ []
      by (inl l) = let m = h.clear e j (get-contained all c e o.numbered) raises (fronts j path b.0 (r ∷ rest) (sym b.1) l) in absurd (omega (arith, m, long))
      by (inr (inl l)) = same-front j (path ++ r ∷ []) b.0 rest (sym b.1 ∙ q) (let m = length-append path (r ∷ []) in omega (arith, l, m))
      by (inr (inr l)) =
          let u = length-append path (r ∷ []) in
          let v = length-append placed.0.path (placed.0.rank ∷ []) in
          let w : length j ≡ length (placed.0.path ++ placed.0.rank ∷ []) = ap (λ (k : List ℕ). length k) at-j in
          let s : (path ++ r ∷ []) ++ rest ≡ placed.0.path ++ (placed.0.rank ∷ b.0) = sym q ∙ b.1 ∙ ap (λ (k : List ℕ). k ++ b.0) at-j ∙ append_assoc placed.0.path (placed.0.rank ∷ []) b.0 in
          let m = there.clear x (path ++ r ∷ []) k at (fronts (path ++ r ∷ []) placed.0.path rest (placed.0.rank ∷ b.0) s (omega (arith, l, u, v, w))) in
          let n = begins-length home path h.begins in absurd (omega (arith, m, n, u))

  -- Below a child that was spawned, and since which its parent made no sync.
  pub not-awaited-child : (n : ℕ) (home path : List ℕ) (r : ℕ) (rest : List ℕ) → IsPresent all home path → Contains all (event.Spawn (path ++ r ∷ [])) →
      ((c s : ℕ) (at : List ℕ) → IsEventOf all home c (event.Spawn (path ++ r ∷ [])) → IsEventOf all home s (event.Sync at) → c < s → s < n → ⊥) → PrecedesAtMeet all n (path ++ r ∷ rest) home home → ⊥
  not-awaited-child n home path r rest here child silent (OfMeet z) =
      let l : length (path ++ r ∷ rest) ≡ length home = ap (λ (p : List ℕ). length p) z in let m = begins-length home path here.begins in omega (arith, l, m, length-append path (r ∷ rest))
  not-awaited-child n home path r rest here child silent (InLoop c j h p out) =
      let b = begins-child home path j r rest c (event.Loop j) (event.Spawn (path ++ r ∷ [])) here h refl child refl (properly j (path ++ r ∷ rest) p) in
      spawn-no-loop all nested rise (path ++ r ∷ []) child (subst (λ (l : List ℕ). Contains all (event.Loop l)) b (get-contained all c (event.Loop j) h.numbered))
  not-awaited-child n home path r rest here child silent (BeforeSync c s j at h b k l m) =
      silent c s at (subst (λ (p : List ℕ). IsEventOf all home c (event.Spawn p)) (begins-child home path j r rest c (event.Spawn j) (event.Spawn (path ++ r ∷ [])) here h refl child refl b) h) k l m

  -- In a loop, for an iteration of it.
  pub not-awaited-turn : (n : ℕ) (home path : List ℕ) (r t k : ℕ) (rest : List ℕ) → IsPresent all home path → Contains all (event.Loop (path ++ r ∷ [])) → PrecedesAtMeet all n (path ++ r ∷ t ∷ rest) (path ++ r ∷ k ∷ []) home → ⊥
  not-awaited-turn n home path r t k rest here loop (OfMeet z) =
      let l : length (path ++ r ∷ t ∷ rest) ≡ length home = ap (λ (p : List ℕ). length p) z in let m = begins-length home path here.begins in omega (arith, l, m, length-append path (r ∷ t ∷ rest))
  not-awaited-turn n home path r t k rest here loop (InLoop c j h p out) =
      let b = begins-child home path j r (t ∷ rest) c (event.Loop j) (event.Loop (path ++ r ∷ [])) here h refl loop refl (properly j (path ++ r ∷ t ∷ rest) p) in
      out (k ∷ [], sym (append_assoc path (r ∷ []) (k ∷ [])) ∙ ap (λ (l : List ℕ). l ++ k ∷ []) (sym b))
  not-awaited-turn n home path r t k rest here loop (BeforeSync c s j at h b w l m) =
      let q = begins-child home path j r (t ∷ rest) c (event.Spawn j) (event.Loop (path ++ r ∷ [])) here h refl loop refl b in
      spawn-no-loop all nested rise j (get-contained all c (event.Spawn j) h.numbered) (subst (λ (p : List ℕ). Contains all (event.Loop p)) (sym q) loop)
