-- Once a strand of an instance's own is over, what comes later stands after it: no event of that strand, no child on the way to it, and no
-- fault there or before.
use Rattle.std.proofs.Common.{◌≡◌, ℕ, ◌+◌, Bool, true, false, ◌||◌, ◌&&◌, not, bytes_eq, ◌⊎◌, inl, inr, List, [], ◌∷◌, ◌++◌, Some, None, length, length-append, take, refl, sym, ap, ◌∙◌, subst, append_assoc, if◌then◌else◌, arith}
use Rattle.std.specs.Ordering.{is_lt, nat_cmp}
use Rattle.std.specs.Cmp.Lexicographic.{slice_cmp}
use Rattle.std.specs.declared.cmp.Ordering.{Ordering}
use Rattle.std.specs.declared.cmp.Ordering.TheVariants.{Less, Equal, Greater}
use Rattle.ped_path.specs.Path.{IsBefore}
use Rattle.serial_meaning.specs.Eval.{path_of}
use Rattle.serial_meaning.specs.Open.{Item, Happened, Child, Opened, Closed, raised, led_to, without_last}
use Rattle.serial_meaning.proofs.RisingPedigrees.Order.{before-by_rank, before-prefix, not_before_itself, not_before-back, before-before}
use Rattle.serial_meaning.specs.declared.event.Event.{Event}
use Rattle.serial_meaning.specs.declared.event.Event.TheVariants as event
use Rattle.strand_meaning.specs.Strands.{pedigree_of, events_at, own_events, last_pedigree, is_below, child_on_way, ended_before, is_one_of}
use Rattle.strand_meaning.proofs.Unfilled.Variables.{same-name, is-other}
use Rattle.strand_machine.specs.Probes.{probe_after, goes_to, less, ahead_of, is_none_ahead}
use Rattle.strand_machine.specs.declared.probe.StrandProbe.{StrandProbe}
use Rattle.strand_machine.proofs.NodesObserved.Probes.{risen-last}
use Rattle.serial_runner.proofs.Below.{below-of}
use Rattle.serial_runner.proofs.Places.{IsStrand, stands, came_by, Follow}

no-strand : IsStrand [] → ⊥
no-strand s = let l : length {A = ℕ} [] ≡ length (s.0 ++ s.1 ∷ []) = ap length s.2 in absurd (omega (arith, l, length-append s.0 (s.1 ∷ [])))

-- Strands stand one after another

risen-after : (here : List ℕ) → IsStrand here → IsBefore here (raised here)
risen-after here s =
    subst (λ (l : List ℕ). IsBefore l (raised l)) (sym s.2) (subst (IsBefore (s.0 ++ s.1 ∷ [])) (sym (risen-last s.0 s.1)) (before-by_rank s.0 s.1 (s.1 + 1) [] [] (omega arith)))

scope-after : (here : List ℕ) → IsBefore here (here ++ 0 ∷ [])
scope-after here = before-prefix here 0 []

closed-after : (j : List ℕ) (rank : ℕ) → IsStrand j → IsBefore (j ++ rank ∷ []) (raised j)
closed-after j rank s =
    subst (λ (l : List ℕ). IsBefore (l ++ rank ∷ []) (raised l)) (sym s.2)
    (subst (λ (l : List ℕ). IsBefore l (raised (s.0 ++ s.1 ∷ []))) (sym (append_assoc s.0 (s.1 ∷ []) (rank ∷ [])))
    (subst (IsBefore (s.0 ++ s.1 ∷ rank ∷ [])) (sym (risen-last s.0 s.1)) (before-by_rank s.0 s.1 (s.1 + 1) (rank ∷ []) [] (omega arith))))

module _ (j : List ℕ) where
  abbrev pub AtMost : List ℕ → Type 0
  AtMost x = (j ≡ x) ⊎ IsBefore j x

  most-before : (x y : List ℕ) → AtMost x → IsBefore x y → IsBefore j y
  most-before x y (inl e) b = subst (λ (l : List ℕ). IsBefore l y) (sym e) b
  most-before x y (inr a) b = before-before j x y a b

  -- The strand with the pedigree stands before where the instance is, and not after the event that led there.
  pub record IsOver (here by : List ℕ) : Type 0 where
    pub before : IsBefore j here
    pub after : IsStrand by → AtMost by

  -- after an event that raises the rank, at the beginning of a scope, and after its end
  raise : (here k : List ℕ) → IsStrand here → k ≡ here → AtMost here → IsOver (raised here) k
  raise here k s e a = record { before = most-before here (raised here) a (risen-after here s); after = λ q. subst AtMost (sym e) a }

  enter : (here k : List ℕ) → k ≡ here → AtMost here → IsOver (k ++ 0 ∷ []) []
  enter here k e a = record { before = most-before here (k ++ 0 ∷ []) a (subst (λ (l : List ℕ). IsBefore l (k ++ 0 ∷ [])) e (scope-after k)); after = λ q. absurd (no-strand q) }

  leave : (here k : List ℕ) (rank : ℕ) → IsStrand k → here ≡ k ++ rank ∷ [] → AtMost here → IsOver (raised k) []
  leave here k rank s e a = record { before = most-before here (raised k) a (subst (λ (l : List ℕ). IsBefore l (raised k)) (sym e) (closed-after k rank s)); after = λ q. absurd (no-strand q) }

  -- once it is over, it stays so
  pub stays : (here by : List ℕ) (items : List Item) → Follow here by items → IsOver here by → IsOver (stands here items) (came_by by items)
  stays here by [] f o = o
  stays here by (Happened (event.Print k v) ∷ items) f o = stays here [] items f.2 (record { before = o.before; after = λ q. absurd (no-strand q) })
  stays here by (Happened (event.Draw k n) ∷ items) f o = stays (raised here) k items f.2 (raise here k f.1 f.0 (inr o.before))
  stays here by (Happened (event.New k) ∷ items) f o = stays (raised here) k items f.2 (raise here k f.1 f.0 (inr o.before))
  stays here by (Happened (event.Spawn k) ∷ items) f o = stays (raised here) k items f.2 (raise here k f.1 f.0 (inr o.before))
  stays here by (Happened (event.Sync k) ∷ items) f o = stays (raised here) k items f.2 (raise here k f.1 f.0 (inr o.before))
  stays here by (Happened (event.Loop k) ∷ items) f o = stays (raised here) k items f.2 (raise here k f.1 f.0 (inr o.before))
  stays here by (Child c ∷ items) f o = stays here by items f.2 o
  stays here by (Opened k ∷ items) f o = stays (k ++ 0 ∷ []) [] items f.2 (enter here k f.0 (inr o.before))
  stays here by (Closed k ∷ items) f o = stays (raised k) [] items f.2 (leave here k f.1.0 f.0 f.1.1 (inr o.before))

  -- one of the strands so far, and not the last
  either : {R : Type 0} (here : List ℕ) (rest : Bool) → (bytes_eq here j || rest) ≡ true → (AtMost here → R) → (rest ≡ true → R) → R
  either {R = R} here rest c first later = by (bytes_eq here j) refl c
    where
      by : (b : Bool) → bytes_eq here j ≡ b → (b || rest) ≡ true → R
      by true e h = first (inl (sym (same-name here j e)))
      by false e h = later h

  pub comes : (here by : List ℕ) (items : List Item) → Follow here by items → is_one_of j (without_last (here ∷ led_to here items)) ≡ true → IsOver (stands here items) (came_by by items)
  comes here by [] f c = absurd (cc)
  comes here by (Happened (event.Print k v) ∷ items) f c = comes here [] items f.2 c
  comes here by (Happened (event.Draw k n) ∷ items) f c =
      either here (is_one_of j (without_last (raised here ∷ led_to (raised here) items))) c (λ a. stays (raised here) k items f.2 (raise here k f.1 f.0 a)) (λ d. comes (raised here) k items f.2 d)
  comes here by (Happened (event.New k) ∷ items) f c =
      either here (is_one_of j (without_last (raised here ∷ led_to (raised here) items))) c (λ a. stays (raised here) k items f.2 (raise here k f.1 f.0 a)) (λ d. comes (raised here) k items f.2 d)
  comes here by (Happened (event.Spawn k) ∷ items) f c =
      either here (is_one_of j (without_last (raised here ∷ led_to (raised here) items))) c (λ a. stays (raised here) k items f.2 (raise here k f.1 f.0 a)) (λ d. comes (raised here) k items f.2 d)
  comes here by (Happened (event.Sync k) ∷ items) f c =
      either here (is_one_of j (without_last (raised here ∷ led_to (raised here) items))) c (λ a. stays (raised here) k items f.2 (raise here k f.1 f.0 a)) (λ d. comes (raised here) k items f.2 d)
  comes here by (Happened (event.Loop k) ∷ items) f c =
      either here (is_one_of j (without_last (raised here ∷ led_to (raised here) items))) c (λ a. stays (raised here) k items f.2 (raise here k f.1 f.0 a)) (λ d. comes (raised here) k items f.2 d)
  comes here by (Child o ∷ items) f c = comes here by items f.2 c
  comes here by (Opened k ∷ items) f c =
      either here (is_one_of j (without_last ((k ++ 0 ∷ []) ∷ led_to (k ++ 0 ∷ []) items))) c (λ a. stays (k ++ 0 ∷ []) [] items f.2 (enter here k f.0 a)) (λ d. comes (k ++ 0 ∷ []) [] items f.2 d)
  comes here by (Closed k ∷ items) f c =
      either here (is_one_of j (without_last (raised k ∷ led_to (raised k) items))) c (λ a. stays (raised k) [] items f.2 (leave here k f.1.0 f.0 f.1.1 a)) (λ d. comes (raised k) [] items f.2 d)

  -- What comes later

  not-below : (path : List ℕ) → AtMost path → is_below path j ≡ false
  not-below path h = by (is_below path j) refl h
    where
      begins : is_below path j ≡ true → IsBefore path j
      begins e = let b = below-of path j e in subst (IsBefore path) (sym b.2) (before-prefix path b.0 b.1)

      by : (b : Bool) → is_below path j ≡ b → AtMost path → is_below path j ≡ false
      by false e k = e
      by true e (inl k) = absurd (not_before_itself j (subst (λ (l : List ℕ). IsBefore l j) (sym k) (begins e)))
      by true e (inr k) = absurd (not_before-back j path k (begins e))

  other-event : (here : List ℕ) (e : Event) → pedigree_of e ≡ here → IsBefore j here → bytes_eq (pedigree_of e) j ≡ false
  other-event here e p b = is-other (pedigree_of e) j (λ q. not_before_itself j (subst (IsBefore j) (sym p ∙ q) b))

  -- no event of the strand, and no child on the way
  pub none-later : (here by : List ℕ) (items : List Item) → Follow here by items → IsOver here by → (events_at j (own_events items) ≡ []) × (child_on_way j items ≡ None)
  none-later here by [] f o = (refl, refl)
  none-later here by (Happened e ∷ items) f o = next (none-later (stands here (Happened e ∷ [])) (came_by by (Happened e ∷ [])) items f.2 (stays here by (Happened e ∷ []) (f.0, f.1, tt) o))
    where
      next : (events_at j (own_events items) ≡ []) × (child_on_way j items ≡ None) → (events_at j (e ∷ own_events items) ≡ []) × (child_on_way j items ≡ None)
      next h = (ap (λ (b : Bool). if b then e ∷ events_at j (own_events items) else events_at j (own_events items)) (other-event here e f.0 o.before) ∙ h.0, h.1)
  none-later here by (Child c ∷ items) f o =
      let h = none-later here by items f.2 o in
      (h.0, ap (λ (b : Bool). if b then Some c else child_on_way j items) (not-below (path_of c) (subst AtMost (sym f.0) (o.after f.1))) ∙ h.1)
  none-later here by (Opened k ∷ items) f o = none-later (k ++ 0 ∷ []) [] items f.2 (enter here k f.0 (inr o.before))
  none-later here by (Closed k ∷ items) f o = none-later (raised k) [] items f.2 (leave here k f.1.0 f.0 f.1.1 (inr o.before))

  -- an own fault isn't there, and a child's fault ends the instance after it
  pub fault-later : (here : List ℕ) (at : List ℕ) → at ≡ here → IsBefore j here → bytes_eq at j ≡ false
  fault-later here at e b = is-other at j (λ q. not_before_itself j (subst (IsBefore j) (sym e ∙ q) b))

  pub not-ended : (place : List ℕ) → AtMost place → ended_before place j ≡ false
  not-ended place a = by (slice_cmp nat_cmp place j) refl a
    where
      by : (o : Ordering) → slice_cmp nat_cmp place j ≡ o → AtMost place → (is_lt o && not (bytes_eq (take (length place) j) place)) ≡ false
      by Less e (inl k) = absurd (not_before_itself j (subst (λ (l : List ℕ). IsBefore l j) (sym k) e))
      by Less e (inr k) = absurd (not_before-back j place k e)
      by Equal e k = refl
      by Greater e k = refl

-- The event that led to where the instance stands is its last one.
pub last-led : (last by : List ℕ) (items : List Item) → (IsStrand by → last ≡ by) → IsStrand (came_by by items) → last_pedigree last (own_events items) ≡ came_by by items
last-led last by [] h s = h s
last-led last by (Happened (event.Print k v) ∷ items) h s = last-led k [] items (λ q. absurd (no-strand q)) s
last-led last by (Happened (event.Draw k n) ∷ items) h s = last-led k k items (λ q. refl) s
last-led last by (Happened (event.New k) ∷ items) h s = last-led k k items (λ q. refl) s
last-led last by (Happened (event.Spawn k) ∷ items) h s = last-led k k items (λ q. refl) s
last-led last by (Happened (event.Sync k) ∷ items) h s = last-led k k items (λ q. refl) s
last-led last by (Happened (event.Loop k) ∷ items) h s = last-led k k items (λ q. refl) s
last-led last by (Child o ∷ items) h s = last-led last by items h s
last-led last by (Opened k ∷ items) h s = last-led last [] items (λ q. absurd (no-strand q)) s
last-led last by (Closed k ∷ items) h s = last-led last [] items (λ q. absurd (no-strand q)) s

-- A strand that was over is over.
pub came-stays : (j : List ℕ) (probe : StrandProbe) (items : List Item) → probe.came ≡ true → (probe_after j probe items).came ≡ true
came-stays j probe [] h = h
came-stays j probe (Happened (event.Print k v) ∷ items) h = came-stays j (record probe { past = ended_before k j }) items h
came-stays j probe (Happened (event.Draw k n) ∷ items) h = came-stays j (goes_to (less probe.ahead) (record probe { past = ended_before k j })) items (ap (λ (b : Bool). b || is_none_ahead probe.ahead) h)
came-stays j probe (Happened (event.New k) ∷ items) h = came-stays j (goes_to (less probe.ahead) (record probe { past = ended_before k j })) items (ap (λ (b : Bool). b || is_none_ahead probe.ahead) h)
came-stays j probe (Happened (event.Spawn k) ∷ items) h = came-stays j (goes_to (less probe.ahead) (record probe { past = ended_before k j })) items (ap (λ (b : Bool). b || is_none_ahead probe.ahead) h)
came-stays j probe (Happened (event.Sync k) ∷ items) h = came-stays j (goes_to (less probe.ahead) (record probe { past = ended_before k j })) items (ap (λ (b : Bool). b || is_none_ahead probe.ahead) h)
came-stays j probe (Happened (event.Loop k) ∷ items) h = came-stays j (goes_to (less probe.ahead) (record probe { past = ended_before k j })) items (ap (λ (b : Bool). b || is_none_ahead probe.ahead) h)
came-stays j probe (Child o ∷ items) h = came-stays j probe items h
came-stays j probe (Opened k ∷ items) h = came-stays j (goes_to (ahead_of (k ++ 0 ∷ []) j) probe) items (ap (λ (b : Bool). b || is_none_ahead probe.ahead) h)
came-stays j probe (Closed k ∷ items) h = came-stays j (goes_to (ahead_of (raised k) j) probe) items (ap (λ (b : Bool). b || is_none_ahead probe.ahead) h)
