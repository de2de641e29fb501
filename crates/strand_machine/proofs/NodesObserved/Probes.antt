-- What is seen of a pedigree, item by item.
use Rattle.std.proofs.Common.{◌≡◌, ℕ, zero, suc, ◌+◌, ◌-◌, ◌<◌, ◌≤◌, Bool, true, false, ◌||◌, ◌&&◌, nat_eq, nat_lt, bytes_eq, List, [], ◌∷◌, ◌++◌, Option, Some, None, refl, sym, ap, ◌∙◌, arith, if◌then◌else◌}
use Rattle.std.proofs.lemmas.Bool.{eq-eqb, eqb-true, lt-ltb, ltb-false, ltb-true}
use Rattle.serial_meaning.specs.Open.{Item, Happened, Child, Opened, Closed, led_to, raised, without_last}
use Rattle.serial_meaning.specs.declared.event.Event.TheVariants as event
use Rattle.serial_meaning.specs.declared.event.Event.{Event}
use Rattle.strand_meaning.specs.Strands.{ended_before, is_one_of, last_pedigree, own_events, pedigree_of}
use Rattle.strand_meaning.proofs.Unfilled.Clears.{or-assoc}
use Rattle.strand_machine.specs.Probes.{ahead_of, goes_to, is_none_ahead, less, probe_after, rises, rises_to}
use Rattle.strand_machine.specs.declared.probe.StrandProbe.{StrandProbe}

pub looks-append : (j : List ℕ) (probe : StrandProbe) (xs ys : List Item) → probe_after j probe (xs ++ ys) ≡ probe_after j (probe_after j probe xs) ys
looks-append j probe [] ys = refl
looks-append j probe (Happened e ∷ xs) ys = looks-append j (rises e (record probe { past = ended_before (pedigree_of e) j })) xs ys
looks-append j probe (Child o ∷ xs) ys = looks-append j probe xs ys
looks-append j probe (Opened k ∷ xs) ys = looks-append j (goes_to (ahead_of (k ++ 0 ∷ []) j) probe) xs ys
looks-append j probe (Closed k ∷ xs) ys = looks-append j (goes_to (ahead_of (raised k) j) probe) xs ys

pub own-append : (xs ys : List Item) → own_events (xs ++ ys) ≡ own_events xs ++ own_events ys
own-append [] ys = refl
own-append (Happened e ∷ xs) ys = ap (λ (es : List Event). e ∷ es) (own-append xs ys)
own-append (Child o ∷ xs) ys = own-append xs ys
own-append (Opened k ∷ xs) ys = own-append xs ys
own-append (Closed k ∷ xs) ys = own-append xs ys

-- A strand and a pedigree, by their paths and ranks

last-first : (xs : List ℕ) (r : ℕ) → (k : ℕ) × ((ks : List ℕ) × (xs ++ r ∷ [] ≡ k ∷ ks))
last-first [] r = (r, ([], refl))
last-first (x ∷ xs) r = (x, (xs ++ r ∷ [], refl))

pub risen-last : (xs : List ℕ) (r : ℕ) → raised (xs ++ r ∷ []) ≡ xs ++ (r + 1) ∷ []
risen-last [] r = refl
risen-last (x ∷ xs) r = let t = last-first xs r in from (xs ++ r ∷ []) t.0 t.1.0 t.1.1 ∙ ap (λ (l : List ℕ). x ∷ l) (risen-last xs r)
  where
    from : (l : List ℕ) (k : ℕ) (ks : List ℕ) → l ≡ k ∷ ks → raised (x ∷ l) ≡ x ∷ raised l
    from l k ks e = rw e refl

ahead-later : (x y : ℕ) (ms ns : List ℕ) (k t : ℕ) (ks ts : List ℕ) → ms ≡ k ∷ ks → ns ≡ t ∷ ts → ahead_of (x ∷ ms) (y ∷ ns) ≡ (if nat_eq x y then ahead_of ms ns else None)
ahead-later x y ms ns k t ks ts e f = rw (e, f) refl

ahead-tails : (x y : ℕ) (p q : List ℕ) (r s : ℕ) → ahead_of (x ∷ (p ++ r ∷ [])) (y ∷ (q ++ s ∷ [])) ≡ (if nat_eq x y then ahead_of (p ++ r ∷ []) (q ++ s ∷ []) else None)
ahead-tails x y p q r s =
    let a = last-first p r in
    let b = last-first q s in
    ahead-later x y (p ++ r ∷ []) (q ++ s ∷ []) a.0 b.0 a.1.0 b.1.0 a.1.1 b.1.1

pub ahead-same : (p : List ℕ) (r s : ℕ) → ahead_of (p ++ r ∷ []) (p ++ s ∷ []) ≡ rises_to r s
ahead-same [] r s = refl
ahead-same (x ∷ p) r s =
    ahead-tails x x p p r s ∙ ap (λ (b : Bool). if b then ahead_of (p ++ r ∷ []) (p ++ s ∷ []) else None) (eq-eqb x x refl) ∙ ahead-same p r s

pub rises-within : (r s : ℕ) → r ≤ s → rises_to r s ≡ Some (s - r)
rises-within r s h = by_order (nat_lt s r) refl
  where
    by_order : (b : Bool) → nat_lt s r ≡ b → rises_to r s ≡ Some (s - r)
    by_order true e = let l : s < r = ltb-true s r e in absurd (omega arith)
    by_order false e = rw e refl

rises-past : (r s : ℕ) → s < r → rises_to r s ≡ None
rises-past r s h = let e : nat_lt s r ≡ true = lt-ltb s r h in rw e refl

-- a strand comes to a pedigree on its own path alone, and to none that it has passed
pub ahead-past : (p q : List ℕ) (r s : ℕ) → (p ≡ q → s < r) → ahead_of (p ++ r ∷ []) (q ++ s ∷ []) ≡ None
ahead-past [] [] r s h = rises-past r s (h refl)
ahead-past [] (y ∷ q) r s h = let b = last-first q s in from (q ++ s ∷ []) b.0 b.1.0 b.1.1
  where
    from : (l : List ℕ) (k : ℕ) (ks : List ℕ) → l ≡ k ∷ ks → ahead_of (r ∷ []) (y ∷ l) ≡ None
    from l k ks e = rw e refl
ahead-past (x ∷ p) [] r s h = let a = last-first p r in from (p ++ r ∷ []) a.0 a.1.0 a.1.1
  where
    from : (l : List ℕ) (k : ℕ) (ks : List ℕ) → l ≡ k ∷ ks → ahead_of (x ∷ l) (s ∷ []) ≡ None
    from l k ks e = rw e refl
ahead-past (x ∷ p) (y ∷ q) r s h = ahead-tails x y p q r s ∙ by_first (ahead-past p q r s) (nat_eq x y) refl
  where
    by_first : ((p ≡ q → s < r) → ahead_of (p ++ r ∷ []) (q ++ s ∷ []) ≡ None) → (b : Bool) → nat_eq x y ≡ b → (if b then ahead_of (p ++ r ∷ []) (q ++ s ∷ []) else None) ≡ None
    by_first rest true e = rest (λ f. h (ap (λ (n : ℕ). n ∷ p) (eqb-true x y e) ∙ ap (λ (l : List ℕ). y ∷ l) f))
    by_first rest false e = refl

pub ahead-other : (p q : List ℕ) (r s : ℕ) → (p ≡ q → ⊥) → ahead_of (p ++ r ∷ []) (q ++ s ∷ []) ≡ None
ahead-other p q r s h = ahead-past p q r s (λ e. absurd (h e))

-- the strand after one
pub ahead-after : (p q : List ℕ) (r s : ℕ) → p ≡ q → r < s → ahead_of (raised (p ++ r ∷ [])) (q ++ s ∷ []) ≡ Some (s - r - 1)
ahead-after p q r s e l =
    let n : s - (r + 1) ≡ s - r - 1 = omega arith in
    ap (λ (k : List ℕ). ahead_of k (q ++ s ∷ [])) (risen-last p r)
    ∙ ap (λ (x : List ℕ). ahead_of (x ++ (r + 1) ∷ []) (q ++ s ∷ [])) e
    ∙ ahead-same q (r + 1) s
    ∙ rises-within (r + 1) s (omega arith)
    ∙ ap (λ (k : ℕ). Some k) n

pub ahead-after-past : (p q : List ℕ) (r s : ℕ) → (p ≡ q → s ≤ r) → ahead_of (raised (p ++ r ∷ [])) (q ++ s ∷ []) ≡ None
ahead-after-past p q r s h =
    ap (λ (k : List ℕ). ahead_of k (q ++ s ∷ [])) (risen-last p r) ∙ ahead-past p q (r + 1) s (λ e. let l = h e in omega arith)

-- A rise of the rank

rises-less : (r s : ℕ) → rises_to (r + 1) s ≡ less (rises_to r s)
rises-less r s = by_order (nat_lt r s) refl
  where
    less-of : (n : ℕ) → 0 < n → less (Some n) ≡ Some (n - 1)
    less-of zero h = absurd (omega arith)
    less-of (suc n) h = let e : suc n - 1 ≡ n = omega arith in rw e refl

    none : (r s : ℕ) → s ≤ r → less (rises_to r s) ≡ None
    none r s h = by_same (nat_lt s r) refl
      where
        by_same : (b : Bool) → nat_lt s r ≡ b → less (rises_to r s) ≡ None
        by_same true e = rw e refl
        by_same false e = let z : s - r ≡ 0 = omega arith in rw (e, z) refl

    by_order : (b : Bool) → nat_lt r s ≡ b → rises_to (r + 1) s ≡ less (rises_to r s)
    by_order true e =
        let l : r < s = ltb-true r s e in
        let n : s - r - 1 ≡ s - (r + 1) = omega arith in
        rises-within (r + 1) s (omega arith) ∙ ap (λ (k : ℕ). Some k) (sym n) ∙ sym (less-of (s - r) (omega arith)) ∙ ap less (sym (rises-within r s (omega arith)))
    by_order false e = let l : s ≤ r = ltb-false r s e in rises-past (r + 1) s (omega arith) ∙ sym (none r s l)

if-less : (b : Bool) (o p : Option ℕ) → o ≡ less p → (if b then o else None) ≡ less (if b then p else None)
if-less true o p e = e
if-less false o p e = refl

pub ahead-risen : (k j : List ℕ) → ahead_of (raised k) j ≡ less (ahead_of k j)
ahead-risen [] j = refl
ahead-risen (r ∷ []) [] = refl
ahead-risen (r ∷ []) (s ∷ []) = rises-less r s
ahead-risen (r ∷ []) (s ∷ t ∷ ts) = refl
ahead-risen (r ∷ k ∷ []) [] = refl
ahead-risen (r ∷ k ∷ []) (s ∷ []) = refl
ahead-risen (r ∷ k ∷ []) (s ∷ t ∷ ts) = if-less (nat_eq r s) _ _ (ahead-risen (k ∷ []) (t ∷ ts))
ahead-risen (r ∷ k ∷ l ∷ ls) [] = refl
ahead-risen (r ∷ k ∷ l ∷ ls) (s ∷ []) = refl
ahead-risen (r ∷ k ∷ l ∷ ls) (s ∷ t ∷ ts) = if-less (nat_eq r s) _ _ (ahead-risen (k ∷ l ∷ ls) (t ∷ ts))

-- A place that is the pedigree

and-false : (b : Bool) → false ≡ (b && false)
and-false true = refl
and-false false = refl

rises-none : (r s : ℕ) → is_none_ahead (rises_to r s) ≡ (nat_eq r s && true)
rises-none r s = by_same (nat_eq r s) refl
  where
    some : (n : ℕ) → 0 < n → is_none_ahead (Some n) ≡ false
    some zero h = absurd (omega arith)
    some (suc n) h = refl

    other : (b : Bool) → nat_lt s r ≡ b → (r ≡ s → ⊥) → is_none_ahead (rises_to r s) ≡ false
    other true e h = rw e refl
    other false e h = let l : r ≤ s = ltb-false s r e in let n : 0 < s - r = omega arith in rw e (some (s - r) n)

    by_same : (b : Bool) → nat_eq r s ≡ b → is_none_ahead (rises_to r s) ≡ (b && true)
    by_same true e = let same : r ≡ s = eqb-true r s e in let z : s - r ≡ 0 = omega arith in ap is_none_ahead (rises-within r s (omega arith) ∙ ap (λ (n : ℕ). Some n) z)
    by_same false e = other (nat_lt s r) refl (λ same. let yes = eq-eqb r s same in absurd (cc))

if-none : (b c : Bool) (o : Option ℕ) → is_none_ahead o ≡ c → is_none_ahead (if b then o else None) ≡ (b && c)
if-none true c o e = e
if-none false c o e = refl

pub ahead-none : (k : List ℕ) (s : ℕ) (js : List ℕ) → is_none_ahead (ahead_of k (s ∷ js)) ≡ bytes_eq k (s ∷ js)
ahead-none [] s js = refl
ahead-none (r ∷ []) s [] = rises-none r s
ahead-none (r ∷ []) s (t ∷ ts) = and-false (nat_eq r s)
ahead-none (r ∷ k ∷ ks) s [] = and-false (nat_eq r s)
ahead-none (r ∷ k ∷ ks) s (t ∷ ts) = if-none (nat_eq r s) _ _ (ahead-none (k ∷ ks) t ts)

-- What the probe tells of the places of an instance

or-false : (b : Bool) → (b || false) ≡ b
or-false true = refl
or-false false = refl

module _ (s : ℕ) (js : List ℕ) where
  abbrev j : List ℕ
  j = s ∷ js

  step-on : (place : List ℕ) (probe : StrandProbe) (came rest : Bool) → probe.ahead ≡ ahead_of place j → came ≡ (probe.came || is_none_ahead probe.ahead) → (probe.came || (bytes_eq place j || rest)) ≡ (came || rest)
  step-on place probe came rest e c =
      or-assoc probe.came (bytes_eq place j) rest ∙ ap (λ (b : Bool). (probe.came || b) || rest) (sym (ap is_none_ahead e ∙ ahead-none place s js)) ∙ ap (λ (b : Bool). b || rest) (sym c)

  next-ahead : (place : List ℕ) (probe : StrandProbe) → probe.ahead ≡ ahead_of place j → less probe.ahead ≡ ahead_of (raised place) j
  next-ahead place probe e = ap less e ∙ sym (ahead-risen place j)

  -- whether one of the places is the pedigree
  pub places-seen : (place : List ℕ) (probe : StrandProbe) (items : List Item) → probe.ahead ≡ ahead_of place j →
      (probe.came || is_one_of j (place ∷ led_to place items)) ≡ ((probe_after j probe items).came || is_none_ahead (probe_after j probe items).ahead)
  places-seen place probe [] e = ap (λ (b : Bool). probe.came || b) (or-false (bytes_eq place j) ∙ sym (ap is_none_ahead e ∙ ahead-none place s js))
  places-seen place probe (Child o ∷ items) e = places-seen place probe items e
  places-seen place probe (Opened k ∷ items) e =
      step-on place probe _ (is_one_of j ((k ++ 0 ∷ []) ∷ led_to (k ++ 0 ∷ []) items)) e refl ∙ places-seen (k ++ 0 ∷ []) (goes_to (ahead_of (k ++ 0 ∷ []) j) probe) items refl
  places-seen place probe (Closed k ∷ items) e =
      step-on place probe _ (is_one_of j (raised k ∷ led_to (raised k) items)) e refl ∙ places-seen (raised k) (goes_to (ahead_of (raised k) j) probe) items refl
  places-seen place probe (Happened (event.Print k v) ∷ items) e = places-seen place (record probe { past = ended_before k j }) items e
  places-seen place probe (Happened (event.Draw k n) ∷ items) e =
      step-on place probe _ (is_one_of j (raised place ∷ led_to (raised place) items)) e refl
      ∙ places-seen (raised place) (goes_to (less probe.ahead) (record probe { past = ended_before k j })) items (next-ahead place probe e)
  places-seen place probe (Happened (event.New k) ∷ items) e =
      step-on place probe _ (is_one_of j (raised place ∷ led_to (raised place) items)) e refl
      ∙ places-seen (raised place) (goes_to (less probe.ahead) (record probe { past = ended_before k j })) items (next-ahead place probe e)
  places-seen place probe (Happened (event.Spawn k) ∷ items) e =
      step-on place probe _ (is_one_of j (raised place ∷ led_to (raised place) items)) e refl
      ∙ places-seen (raised place) (goes_to (less probe.ahead) (record probe { past = ended_before k j })) items (next-ahead place probe e)
  places-seen place probe (Happened (event.Sync k) ∷ items) e =
      step-on place probe _ (is_one_of j (raised place ∷ led_to (raised place) items)) e refl
      ∙ places-seen (raised place) (goes_to (less probe.ahead) (record probe { past = ended_before k j })) items (next-ahead place probe e)
  places-seen place probe (Happened (event.Loop k) ∷ items) e =
      step-on place probe _ (is_one_of j (raised place ∷ led_to (raised place) items)) e refl
      ∙ places-seen (raised place) (goes_to (less probe.ahead) (record probe { past = ended_before k j })) items (next-ahead place probe e)

  -- and whether one of them without the last one is
  pub places-without : (place : List ℕ) (probe : StrandProbe) (items : List Item) → probe.ahead ≡ ahead_of place j → (probe.came || is_one_of j (without_last (place ∷ led_to place items))) ≡ (probe_after j probe items).came
  places-without place probe [] e = or-false probe.came
  places-without place probe (Child o ∷ items) e = places-without place probe items e
  places-without place probe (Opened k ∷ items) e =
      step-on place probe _ (is_one_of j (without_last ((k ++ 0 ∷ []) ∷ led_to (k ++ 0 ∷ []) items))) e refl ∙ places-without (k ++ 0 ∷ []) (goes_to (ahead_of (k ++ 0 ∷ []) j) probe) items refl
  places-without place probe (Closed k ∷ items) e =
      step-on place probe _ (is_one_of j (without_last (raised k ∷ led_to (raised k) items))) e refl ∙ places-without (raised k) (goes_to (ahead_of (raised k) j) probe) items refl
  places-without place probe (Happened (event.Print k v) ∷ items) e = places-without place (record probe { past = ended_before k j }) items e
  places-without place probe (Happened (event.Draw k n) ∷ items) e =
      step-on place probe _ (is_one_of j (without_last (raised place ∷ led_to (raised place) items))) e refl
      ∙ places-without (raised place) (goes_to (less probe.ahead) (record probe { past = ended_before k j })) items (next-ahead place probe e)
  places-without place probe (Happened (event.New k) ∷ items) e =
      step-on place probe _ (is_one_of j (without_last (raised place ∷ led_to (raised place) items))) e refl
      ∙ places-without (raised place) (goes_to (less probe.ahead) (record probe { past = ended_before k j })) items (next-ahead place probe e)
  places-without place probe (Happened (event.Spawn k) ∷ items) e =
      step-on place probe _ (is_one_of j (without_last (raised place ∷ led_to (raised place) items))) e refl
      ∙ places-without (raised place) (goes_to (less probe.ahead) (record probe { past = ended_before k j })) items (next-ahead place probe e)
  places-without place probe (Happened (event.Sync k) ∷ items) e =
      step-on place probe _ (is_one_of j (without_last (raised place ∷ led_to (raised place) items))) e refl
      ∙ places-without (raised place) (goes_to (less probe.ahead) (record probe { past = ended_before k j })) items (next-ahead place probe e)
  places-without place probe (Happened (event.Loop k) ∷ items) e =
      step-on place probe _ (is_one_of j (without_last (raised place ∷ led_to (raised place) items))) e refl
      ∙ places-without (raised place) (goes_to (less probe.ahead) (record probe { past = ended_before k j })) items (next-ahead place probe e)

-- whether the last event is before the pedigree
pub past-seen : (j last : List ℕ) (probe : StrandProbe) (items : List Item) → probe.past ≡ ended_before last j → (probe_after j probe items).past ≡ ended_before (last_pedigree last (own_events items)) j
past-seen j last probe [] e = e
past-seen j last probe (Child o ∷ items) e = past-seen j last probe items e
past-seen j last probe (Opened k ∷ items) e = past-seen j last (goes_to (ahead_of (k ++ 0 ∷ []) j) probe) items e
past-seen j last probe (Closed k ∷ items) e = past-seen j last (goes_to (ahead_of (raised k) j) probe) items e
past-seen j last probe (Happened (event.Print k v) ∷ items) e = past-seen j k (record probe { past = ended_before k j }) items refl
past-seen j last probe (Happened (event.Draw k n) ∷ items) e = past-seen j k (goes_to (less probe.ahead) (record probe { past = ended_before k j })) items refl
past-seen j last probe (Happened (event.New k) ∷ items) e = past-seen j k (goes_to (less probe.ahead) (record probe { past = ended_before k j })) items refl
past-seen j last probe (Happened (event.Spawn k) ∷ items) e = past-seen j k (goes_to (less probe.ahead) (record probe { past = ended_before k j })) items refl
past-seen j last probe (Happened (event.Sync k) ∷ items) e = past-seen j k (goes_to (less probe.ahead) (record probe { past = ended_before k j })) items refl
past-seen j last probe (Happened (event.Loop k) ∷ items) e = past-seen j k (goes_to (less probe.ahead) (record probe { past = ended_before k j })) items refl
