-- No spawn and no loop share a pedigree, and no loop's pedigree is an instance's path.
use Rattle.std.proofs.Common.{◌≡◌, ◌≤◌, ◌<◌, ◌⊎◌, inl, inr, ℕ, zero, suc, Bool, true, false, nat_lt, List, [], ◌∷◌, ◌++◌, length, length-append, append-nil, refl, sym, ◌∙◌, ap, subst, arith, append_assoc}
use Rattle.std.proofs.lemmas.Bool.Decides.{nat_tests}
use Rattle.std.specs.Prelude.{Contains}
use Rattle.ped_path.specs.Path.{IsBefore}
use Rattle.serial_meaning.specs.Laws.{raising_pedigrees}
use Rattle.serial_meaning.specs.Plan.{PlanView}
use Rattle.serial_meaning.specs.Eval.{main_origin, elision}
use Rattle.serial_meaning.proofs.Equations.Each.{each-contained}
use Rattle.serial_meaning.proofs.RisingPedigrees.Order.{not_before_itself}
use Rattle.serial_meaning.proofs.OriginFaults.Origins.{cons-contained}
use Rattle.serial_meaning.proofs.RisingPedigrees.Rising.{BeforeAll, Rise, places-append}
use Rattle.serial_meaning.proofs.RisingPedigrees.RisingExec.{eval-rises}
use Rattle.serial_meaning.specs.declared.event.Event.{Event}
use Rattle.serial_meaning.specs.declared.event.Event.TheVariants as event
use Rattle.span_report.specs.Series.{Begins, IsEvent, IsInstancePath, Main, Child, Iteration, IsHome, IsEventOf, IsMeet}
use Rattle.span_report.specs.Nested.{Instance}
use Rattle.span_report.proofs.Nested.Clear.{IsClear}
use Rattle.span_report.proofs.Belonging.Homes.{same-front, apart-length, begins-begins, begins-length, begins-short, begins-rank, fronts, IsPresent}
use Rattle.span_report.proofs.Belonging.Places.{IsPlaced, all-placed, each-get}

before-back : (i : List ℕ) (xs ys : List (List ℕ)) → BeforeAll i (xs ++ ys) → BeforeAll i ys
before-back i [] ys b = b
before-back i (x ∷ xs) ys b = before-back i xs ys b.1

rise-back : (xs ys : List (List ℕ)) → Rise (xs ++ ys) → Rise ys
rise-back [] ys r = r
rise-back (x ∷ xs) ys r = rise-back xs ys r.1

before-contained : (i : List ℕ) (es : List Event) (e : Event) (j : List ℕ) → raising_pedigrees (e ∷ []) ≡ j ∷ [] → Contains es e → BeforeAll i (raising_pedigrees es) → IsBefore i j
before-contained i [] e j p c b = absurd (omega (arith, c.1))
before-contained i (x ∷ es) e j p c b = from (cons-contained x e es c) (λ d. before-contained i es e j p d (before-back i (raising_pedigrees (x ∷ [])) (raising_pedigrees es) parts))
  where
    parts : BeforeAll i (raising_pedigrees (x ∷ []) ++ raising_pedigrees es)
    parts = subst (BeforeAll i) (places-append (x ∷ []) es) b

    from : (x ≡ e) ⊎ Contains es e → (Contains es e → IsBefore i j) → IsBefore i j
    from (inl q) later = (subst (λ (l : List (List ℕ)). BeforeAll i (l ++ raising_pedigrees es)) (ap (λ (y : Event). raising_pedigrees (y ∷ [])) q ∙ p) parts).0
    from (inr d) later = later d

-- Where pedigrees rise, two different events that are no prints have different ones.
apart : (es : List Event) (a b : Event) (j : List ℕ) → raising_pedigrees (a ∷ []) ≡ j ∷ [] → raising_pedigrees (b ∷ []) ≡ j ∷ [] → (a ≡ b → ⊥) → Rise (raising_pedigrees es) → Contains es a → Contains es b → ⊥
apart [] a b j p q d r c k = absurd (omega (arith, c.1))
apart (x ∷ es) a b j p q d r c k = from (cons-contained x a es c) (cons-contained x b es k) (λ m n. apart es a b j p q d (rise-back (raising_pedigrees (x ∷ [])) (raising_pedigrees es) parts) m n)
  where
    parts : Rise (raising_pedigrees (x ∷ []) ++ raising_pedigrees es)
    parts = subst Rise (places-append (x ∷ []) es) r

    first : (e : Event) → x ≡ e → raising_pedigrees (e ∷ []) ≡ j ∷ [] → BeforeAll j (raising_pedigrees es)
    first e s t = (subst (λ (l : List (List ℕ)). Rise (l ++ raising_pedigrees es)) (ap (λ (y : Event). raising_pedigrees (y ∷ [])) s ∙ t) parts).0

    from : (x ≡ a) ⊎ Contains es a → (x ≡ b) ⊎ Contains es b → (Contains es a → Contains es b → ⊥) → ⊥
    from (inl e) (inl f) later = d (sym e ∙ f)
    from (inl e) (inr m) later = not_before_itself j (before-contained j es b j q m (first a e p))
    from (inr m) (inl f) later = not_before_itself j (before-contained j es a j p m (first b f q))
    from (inr m) (inr n) later = later m n

no-end : (xs : List ℕ) (y : ℕ) → [] ≡ xs ++ y ∷ [] → ⊥
no-end xs y e = let l : length {A = ℕ} [] ≡ length (xs ++ y ∷ []) = ap (λ (k : List ℕ). length k) e in omega (arith, l, length-append xs (y ∷ []))

module _ (all : List Event) (nested : IsClear all (Instance []) [] 0 all) (rise : Rise (raising_pedigrees all)) where
  pub spawn-no-loop : (j : List ℕ) → Contains all (event.Spawn j) → Contains all (event.Loop j) → ⊥
  spawn-no-loop j c k = apart all (event.Spawn j) (event.Loop j) j refl refl (λ e. absurd (cc)) rise c k

  placed-loop : (j : List ℕ) → Contains all (event.Loop j) → IsPlaced all (event.Loop j)
  placed-loop j c = each-contained (IsPlaced all) all (event.Loop j) (all-placed all nested) c

  -- where one loop's pedigree is an iteration of another's
  loop-home : (j : List ℕ) (k : ℕ) → Contains all (event.Loop (j ++ k ∷ [])) → Contains all (event.Loop j) → IsInstancePath all j
  loop-home j k c d = let p = placed-loop (j ++ k ∷ []) c in own p.home (subst (IsPresent all p.home) (same p.path p.rank p.at) p.present)
    where
      same : (path : List ℕ) (rank : ℕ) → j ++ k ∷ [] ≡ path ++ rank ∷ [] → path ≡ j
      same path rank e =
          let l : length (j ++ k ∷ []) ≡ length (path ++ rank ∷ []) = ap (λ (m : List ℕ). length m) e in
          same-front path j (rank ∷ []) (k ∷ []) (sym e) (omega (arith, l, length-append j (k ∷ []), length-append path (rank ∷ [])))

      own : (home : List ℕ) → IsPresent all home j → IsInstancePath all j
      own home h =
          let l = h.clear (event.Loop j) j d refl ([], sym (append-nil j)) in
          let m = begins-length home j h.begins in
          subst (IsInstancePath all) (same-front home j h.begins.0 [] (sym h.begins.1 ∙ sym (append-nil j)) (omega (arith, l, m))) h.instance

  no-loop-within : (n : ℕ) (path : List ℕ) → length path ≤ n → IsInstancePath all path → Contains all (event.Loop path) → ⊥
  no-loop-within n path h Main c = let p = placed-loop [] c in no-end p.path p.rank p.at
  no-loop-within n path h (Child j s) c = spawn-no-loop j s c
  no-loop-within zero path h (Iteration j k s) c = let l = length-append j (k ∷ []) in absurd (omega (arith, l, h))
  no-loop-within (suc n) path h (Iteration j k s) c = no-loop-within n j (let l = length-append j (k ∷ []) in omega (arith, l, h)) (loop-home j k c s) s

  pub instance-no-loop : (path : List ℕ) → IsInstancePath all path → Contains all (event.Loop path) → ⊥
  instance-no-loop path h c = no-loop-within (length path) path (omega arith) h c

  -- No instance's path stands between an instance's and a present path of it.
  pub longest : (home path : List ℕ) → IsPresent all home path → (other : List ℕ) → IsInstancePath all other → Begins other path → length other ≤ length home
  longest home path h other Main b = omega arith
  longest home path h other (Child j s) b = h.clear (event.Spawn j) j s refl b
  longest home path h other (Iteration j k s) b = by (nat_lt (length j) (length home)) refl
    where
      l : length j ≤ length home
      l = h.clear (event.Loop j) j s refl (begins-begins j (j ++ k ∷ []) path (k ∷ [], refl) b)

      equal : length j ≡ length home → ⊥
      equal e =
          let q : home ++ h.begins.0 ≡ j ++ k ∷ b.0 = sym h.begins.1 ∙ b.1 ∙ append_assoc j (k ∷ []) b.0 in
          instance-no-loop j (subst (IsInstancePath all) (same-front home j h.begins.0 (k ∷ b.0) q (sym e)) h.instance) s

      by : (t : Bool) → nat_lt (length j) (length home) ≡ t → length (j ++ k ∷ []) ≤ length home
      by true g = let m : length j < length home = grind (arith, nat_tests) in let n = length-append j (k ∷ []) in omega (arith, m, n)
      by false g = let m : length home ≤ length j = grind (arith, nat_tests) in absurd (equal (omega (arith, l, m)))

  -- An instance's own strands belong to it.
  pub home-is : (home path : List ℕ) (rank : ℕ) → IsPresent all home path → IsHome all (path ++ rank ∷ []) home
  home-is home path rank h = record { instance = h.instance; begins = begins-rank home path rank h.begins; longest = λ other i b. longest home path h other i (begins-short other path rank b) }

  -- So each event belongs to the instance of whose present paths its pedigree's path is one.
  pub event-of : (n : ℕ) (e : Event) → IsEvent all n e → (p : IsPlaced all e) × IsEventOf all p.home n e
  event-of n e h =
      let p = each-get (IsPlaced all) all n e (all-placed all nested) h in
      (p, record { numbered = h; belongs = subst (λ (j : List ℕ). IsHome all j p.home) (sym p.at) (home-is p.home p.path p.rank p.present) })

  -- Two iterations of a loop of an instance part at that instance.
  pub meet-turns : (home path j : List ℕ) (r k l : ℕ) (xs ys : List ℕ) → IsPresent all home path → j ≡ path ++ r ∷ [] → Contains all (event.Loop j) → (k ≡ l → ⊥) → IsMeet all (j ++ k ∷ xs) (j ++ l ∷ ys) home
  meet-turns home path j r k l xs ys h e c d = record { instance = h.instance; first = begins k xs; second = begins l ys; longest = λ other i a b. longest home path h other i (short other i a b) }
    where
      after : (m : ℕ) (zs : List ℕ) → j ++ m ∷ zs ≡ path ++ r ∷ m ∷ zs
      after m zs = ap (λ (p : List ℕ). p ++ m ∷ zs) e ∙ append_assoc path (r ∷ []) (m ∷ zs)

      begins : (m : ℕ) (zs : List ℕ) → Begins home (j ++ m ∷ zs)
      begins m zs = begins-begins home path (j ++ m ∷ zs) h.begins (r ∷ m ∷ zs, after m zs)

      long : (other : List ℕ) → IsInstancePath all other → Begins other (j ++ k ∷ xs) → Begins other (j ++ l ∷ ys) → length path < length other → ⊥
      long other i a b g =
          let m = apart-length other j k l xs ys d a b in
          let n : length j ≡ length (path ++ r ∷ []) = ap (λ (p : List ℕ). length p) e in
          instance-no-loop j (subst (IsInstancePath all) (same-front other j a.0 (k ∷ xs) (sym a.1) (omega (arith, m, n, g, length-append path (r ∷ [])))) i) c

      short : (other : List ℕ) → IsInstancePath all other → Begins other (j ++ k ∷ xs) → Begins other (j ++ l ∷ ys) → Begins other path
      short other i a b = by (nat_lt (length path) (length other)) refl
        where
          by : (t : Bool) → nat_lt (length path) (length other) ≡ t → Begins other path
          by true g = absurd (long other i a b (grind (arith, nat_tests)))
          by false g = fronts other path a.0 (r ∷ k ∷ xs) (sym a.1 ∙ after k xs) (grind (arith, nat_tests))

-- The elision is such a list.
pub elision-rise : (plan : PlanView) → Rise (raising_pedigrees (elision plan).items)
elision-rise plan = (eval-rises plan (main_origin plan)).rise
