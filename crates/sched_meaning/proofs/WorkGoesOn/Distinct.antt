-- No choice stands twice among the choices.
use Rattle.std.proofs.Common.{◌≡◌, ℕ, zero, suc, ◌+◌, ◌<◌, ◌≤◌, ◌⊎◌, inl, inr, Bool, true, false, cond, List, [], ◌∷◌, ◌++◌, Option, Some, None, length, map, filter, flat_map, slice_get, refl, sym, ap, ◌∙◌, subst, arith}
use Rattle.std.specs.List.{range_with_len}
use Rattle.sched_meaning.specs.Core.{Worker, Core}
use Rattle.sched_meaning.specs.Simulation.{is_choice, stalled_places, all_events, choices}
use Rattle.sched_meaning.specs.declared.event.CoreEvent.{CoreEvent}
use Rattle.sched_meaning.specs.declared.event.CoreEvent.TheVariants.{Run, Pop, Steal, Look, Idle}
use Rattle.sched_meaning.proofs.KeptByEvents.Good.{IsIn}
use Rattle.sched_meaning.proofs.OneCore.OneStep.{some-one}

abbrev Distinct : {A : Type 0} → List A → Type 0
Distinct [] = Unit {0}
Distinct (x ∷ xs) = (IsIn xs x → ⊥) × Distinct xs

get-in : {A : Type 0} (xs : List A) (k : ℕ) (x : A) → slice_get xs k ≡ Some x → IsIn xs x
get-in [] k x h = absurd (cc)
get-in (y ∷ xs) zero x h = inl (some-one y x h)
get-in (y ∷ xs) (suc k) x h = inr (get-in xs k x h)

one-index : {A : Type 0} (xs : List A) (j k : ℕ) (x : A) → Distinct xs → slice_get xs j ≡ Some x → slice_get xs k ≡ Some x → j ≡ k
one-index [] j k x d a b = absurd (cc)
one-index (y ∷ xs) zero zero x d a b = refl
one-index (y ∷ xs) zero (suc k) x d a b = absurd (d.0 (subst (λ v. IsIn xs v) (sym (some-one y x a)) (get-in xs k x b)))
one-index (y ∷ xs) (suc j) zero x d a b = absurd (d.0 (subst (λ v. IsIn xs v) (sym (some-one y x b)) (get-in xs j x a)))
one-index (y ∷ xs) (suc j) (suc k) x d a b = ap suc (one-index xs j k x d.1 a b)

either : {A : Type 0} (xs ys : List A) (x : A) → IsIn (xs ++ ys) x → IsIn xs x ⊎ IsIn ys x
either [] ys x h = inr h
either (y ∷ xs) ys x (inl h) = inl (inl h)
either {A} (y ∷ xs) ys x (inr h) = from (either xs ys x h)
  where
    from : IsIn xs x ⊎ IsIn ys x → IsIn (y ∷ xs) x ⊎ IsIn ys x
    from (inl g) = inl (inr g)
    from (inr g) = inr g

distinct-append : {A : Type 0} (xs ys : List A) → Distinct xs → Distinct ys → ((x : A) → IsIn xs x → IsIn ys x → ⊥) → Distinct (xs ++ ys)
distinct-append [] ys d e apart = e
distinct-append {A} (x ∷ xs) ys d e apart = (λ h. from (either xs ys x h), distinct-append xs ys d.1 e (λ y a b. apart y (inr a) b))
  where
    from : IsIn xs x ⊎ IsIn ys x → ⊥
    from (inl g) = d.0 g
    from (inr g) = apart x (inl refl) g

-- where an element of a map comes from
record Comes {A B : Type 0} (f : A → B) (xs : List A) (y : B) : Type 0 where
  from : A
  there : IsIn xs from
  is : f from ≡ y

map-comes : {A B : Type 0} (f : A → B) (xs : List A) (y : B) → IsIn (map f xs) y → Comes f xs y
map-comes f [] y h = absurd h
map-comes f (x ∷ xs) y (inl h) = record { from = x; there = inl refl; is = h }
map-comes f (x ∷ xs) y (inr h) = let c = map-comes f xs y h in record { from = c.from; there = inr c.there; is = c.is }

distinct-map : {A B : Type 0} (f : A → B) → ((x y : A) → f x ≡ f y → x ≡ y) → (xs : List A) → Distinct xs → Distinct (map f xs)
distinct-map f one [] d = tt
distinct-map f one (x ∷ xs) d = (λ h. (let c = map-comes f xs (f x) h in d.0 (subst (λ v. IsIn xs v) (one c.from x c.is) c.there)), distinct-map f one xs d.1)

record Flows {A B : Type 0} (f : A → List B) (xs : List A) (y : B) : Type 0 where
  from : A
  there : IsIn xs from
  is : IsIn (f from) y

flat-comes : {A B : Type 0} (f : A → List B) (xs : List A) (y : B) → IsIn (flat_map f xs) y → Flows f xs y
flat-comes f [] y h = absurd h
flat-comes {A} {B} f (x ∷ xs) y h = by_part (either (f x) (flat_map f xs) y h) (flat-comes f xs y)
  where
    by_part : IsIn (f x) y ⊎ IsIn (flat_map f xs) y → (IsIn (flat_map f xs) y → Flows f xs y) → Flows f (x ∷ xs) y
    by_part (inl g) later = record { from = x; there = inl refl; is = g }
    by_part (inr g) later = let c = later g in record { from = c.from; there = inr c.there; is = c.is }

distinct-flat : {A B : Type 0} (f : A → List B) → ((x : A) → Distinct (f x)) → ((x y : A) (b : B) → IsIn (f x) b → IsIn (f y) b → x ≡ y) → (xs : List A) → Distinct xs → Distinct (flat_map f xs)
distinct-flat f each one [] d = tt
distinct-flat f each one (x ∷ xs) d = distinct-append (f x) (flat_map f xs) (each x) (distinct-flat f each one xs d.1)
    (λ b g h. (let c = flat-comes f xs b h in d.0 (subst (λ v. IsIn xs v) (one c.from x b c.is g) c.there)))

filter-sub : {A : Type 0} (test : A → Bool) (xs : List A) (x : A) → IsIn (filter test xs) x → IsIn xs x
filter-sub test [] x h = absurd h
filter-sub {A} test (y ∷ xs) x h = by_test (test y) h (filter-sub test xs x)
  where
    by_test : (b : Bool) → IsIn (cond b (y ∷ filter test xs) (filter test xs)) x → (IsIn (filter test xs) x → IsIn xs x) → IsIn (y ∷ xs) x
    by_test true (inl g) later = inl g
    by_test true (inr g) later = inr (later g)
    by_test false g later = inr (later g)

distinct-filter : {A : Type 0} (test : A → Bool) (xs : List A) → Distinct xs → Distinct (filter test xs)
distinct-filter test [] d = tt
distinct-filter {A} test (y ∷ xs) d = by_test (test y) (distinct-filter test xs d.1)
  where
    by_test : (b : Bool) → Distinct (filter test xs) → Distinct (cond b (y ∷ filter test xs) (filter test xs))
    by_test true e = (λ h. d.0 (filter-sub test xs y h), e)
    by_test false e = e

range-above : (lo n k : ℕ) → IsIn (range_with_len lo n) k → lo ≤ k
range-above lo zero k h = absurd h
range-above lo (suc n) k (inl h) = omega arith
range-above lo (suc n) k (inr h) = let e : lo + 1 ≤ k = range-above (lo + 1) n k h in omega arith

range-distinct : (lo n : ℕ) → Distinct (range_with_len lo n)
range-distinct lo zero = tt
range-distinct lo (suc n) = (λ h. (let e : lo + 1 ≤ lo = range-above (lo + 1) n lo h in absurd (omega arith)), range-distinct (lo + 1) n)

-- Events

-- the kinds, in their order
abbrev kind : CoreEvent → ℕ
kind (Run w) = 0
kind (Pop w) = 1
kind (Steal thief victim) = 2
kind (Look w place) = 3
kind (Idle w) = 4

run-one : (v w : ℕ) → Run v ≡ Run w → v ≡ w
run-one v w h = cc

pop-one : (v w : ℕ) → Pop v ≡ Pop w → v ≡ w
pop-one v w h = cc

victim-one : (thief v w : ℕ) → Steal thief v ≡ Steal thief w → v ≡ w
victim-one thief v w h = cc

thief-one : (t u v w : ℕ) → Steal t v ≡ Steal u w → t ≡ u
thief-one t u v w h = cc

place-one : (w j k : ℕ) → Look w j ≡ Look w k → j ≡ k
place-one w j k h = cc

looker-one : (v w j k : ℕ) → Look v j ≡ Look w k → v ≡ w
looker-one v w j k h = cc

module _ (c : Core) where
  abbrev ns : List ℕ
  ns = range_with_len 0 (length c.workers)

  abbrev runs : List CoreEvent
  runs = map (λ w. Run w) (range_with_len 0 (length c.workers))

  abbrev pops : List CoreEvent
  pops = map (λ w. Pop w) (range_with_len 0 (length c.workers))

  abbrev steals_of : ℕ → List CoreEvent
  steals_of thief = map (λ victim. Steal thief victim) (range_with_len 0 (length c.workers))

  abbrev steals : List CoreEvent
  steals = flat_map (λ thief. map (λ victim. Steal thief victim) (range_with_len 0 (length c.workers))) (range_with_len 0 (length c.workers))

  abbrev looks_of : ℕ → List CoreEvent
  looks_of w = map (λ place. Look w place) (stalled_places (slice_get c.workers w))

  abbrev looks : List CoreEvent
  looks = flat_map (λ w. map (λ place. Look w place) (stalled_places (slice_get c.workers w))) (range_with_len 0 (length c.workers))

  runs-kind : (e : CoreEvent) → IsIn runs e → kind e ≡ 0
  runs-kind e h = let m = map-comes (λ w. Run w) ns e h in sym (ap kind m.is)

  pops-kind : (e : CoreEvent) → IsIn pops e → kind e ≡ 1
  pops-kind e h = let m = map-comes (λ w. Pop w) ns e h in sym (ap kind m.is)

  steals-kind : (e : CoreEvent) → IsIn steals e → kind e ≡ 2
  steals-kind e h = let f = flat-comes (λ thief. steals_of thief) ns e h in let m = map-comes (λ victim. Steal f.from victim) ns e f.is in sym (ap kind m.is)

  looks-kind : (e : CoreEvent) → IsIn looks e → kind e ≡ 3
  looks-kind e h = let f = flat-comes (λ w. looks_of w) ns e h in let m = map-comes (λ place. Look f.from place) (stalled_places (slice_get c.workers f.from)) e f.is in sym (ap kind m.is)

  steals-distinct : Distinct steals
  steals-distinct = distinct-flat (λ thief. steals_of thief) (λ thief. distinct-map (λ victim. Steal thief victim) (victim-one thief) ns (range-distinct 0 (length c.workers))) one ns (range-distinct 0 (length c.workers))
    where
      one : (x y : ℕ) (e : CoreEvent) → IsIn (steals_of x) e → IsIn (steals_of y) e → x ≡ y
      one x y e g h = let m = map-comes (λ victim. Steal x victim) ns e g in let k = map-comes (λ victim. Steal y victim) ns e h in thief-one x y m.from k.from (m.is ∙ sym k.is)

  places-distinct : (o : Option Worker) → Distinct (stalled_places o)
  places-distinct None = tt
  places-distinct (Some w) = range-distinct 0 (length w.stalled)

  looks-distinct : Distinct looks
  looks-distinct = distinct-flat (λ w. looks_of w) (λ w. distinct-map (λ place. Look w place) (place-one w) (stalled_places (slice_get c.workers w)) (places-distinct (slice_get c.workers w))) one ns (range-distinct 0 (length c.workers))
    where
      one : (x y : ℕ) (e : CoreEvent) → IsIn (looks_of x) e → IsIn (looks_of y) e → x ≡ y
      one x y e g h =
          let m = map-comes (λ place. Look x place) (stalled_places (slice_get c.workers x)) e g in
          let k = map-comes (λ place. Look y place) (stalled_places (slice_get c.workers y)) e h in looker-one x y m.from k.from (m.is ∙ sym k.is)

  first-two : Distinct (runs ++ pops)
  first-two = distinct-append runs pops (distinct-map (λ w. Run w) run-one ns (range-distinct 0 (length c.workers))) (distinct-map (λ w. Pop w) pop-one ns (range-distinct 0 (length c.workers)))
      (λ e a b. (let x : kind e ≡ 0 = runs-kind e a in let y : kind e ≡ 1 = pops-kind e b in absurd (omega arith)))

  two-kind : (e : CoreEvent) → IsIn (runs ++ pops) e → kind e < 2
  two-kind e h = from (either runs pops e h)
    where
      from : IsIn runs e ⊎ IsIn pops e → kind e < 2
      from (inl a) = let x : kind e ≡ 0 = runs-kind e a in omega arith
      from (inr b) = let y : kind e ≡ 1 = pops-kind e b in omega arith

  first-three : Distinct (runs ++ pops ++ steals)
  first-three = distinct-append (runs ++ pops) steals first-two steals-distinct (λ e a b. (let x : kind e < 2 = two-kind e a in let y : kind e ≡ 2 = steals-kind e b in absurd (omega arith)))

  three-kind : (e : CoreEvent) → IsIn (runs ++ pops ++ steals) e → kind e < 3
  three-kind e h = from (either (runs ++ pops) steals e h)
    where
      from : IsIn (runs ++ pops) e ⊎ IsIn steals e → kind e < 3
      from (inl a) = let x : kind e < 2 = two-kind e a in omega arith
      from (inr b) = let y : kind e ≡ 2 = steals-kind e b in omega arith

  events-distinct : Distinct (runs ++ pops ++ steals ++ looks)
  events-distinct = distinct-append (runs ++ pops ++ steals) looks first-three looks-distinct (λ e a b. (let x : kind e < 3 = three-kind e a in let y : kind e ≡ 3 = looks-kind e b in absurd (omega arith)))

  pub choices_are_distinct : (e : CoreEvent) (j k : ℕ) → slice_get (choices c) j ≡ Some e → slice_get (choices c) k ≡ Some e → j ≡ k
  choices_are_distinct e j k a b = one-index (choices c) j k e (distinct-filter (is_choice c) (all_events c) events-distinct) a b
