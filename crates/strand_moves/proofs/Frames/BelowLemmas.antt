-- A change of a frame below the innermost one. The frames stand the outermost first, and the meaning has them the
-- other way round.
use Rattle.std.proofs.Common.{◌≡◌, ℕ, suc, ◌<◌, ◌≤◌, Bool, true, false, ◌⊎◌, inl, inr, nat_eq, List, [], ◌∷◌, ◌++◌, length, get_or, set, map, reverse, refl, sym, ap, ◌∙◌, arith, if◌then◌else◌}
use Rattle.std.proofs.lemmas.Bool.{eqb-true, eq-eqb}
use Rattle.std.proofs.lemmas.List.{reverse-append, reverse-reverse, length-reverse, length-map, set_at, set-append_left, get_or_at, get_or_default, get_or_append_left}
use Rattle.serial_meaning.specs.Plan.{PlanView}
use Rattle.strand_meaning.specs.Machine.{Frame, Machine}
use Rattle.strand_meaning.specs.Task.{changed, changed_at}
use Rattle.strand_moves.specs.declared.frame.Frame as own
use Rattle.strand_moves.specs.declared.instance_parts.InstanceParts.{InstanceParts}
use Rattle.strand_moves.specs.InstanceParts.{machine_of, frame_of}

module _ {X : Type 0} (view : X → Frame) (change : Frame → Frame) where
  at-top : (b : Bool) (h : ℕ) (a : Frame) (below : List Frame) → nat_eq h (length below) ≡ b → changed_at h change (a ∷ below) ≡ (if b then change a ∷ below else a ∷ changed_at h change below)
  at-top b h a below e = ap (λ (t : Bool). if t then change a ∷ below else a ∷ changed_at h change below) e

  not-top : (b : Bool) (h n : ℕ) → nat_eq h n ≡ b → h < n → b ≡ false
  not-top true h n e l = let same : h ≡ n = eqb-true h n e in absurd (omega arith)
  not-top false h n e l = refl

  below-it : (a b : ℕ) → nat_eq a b ≡ false → a < suc b → a < b
  below-it a b g k = grind (arith, eq-eqb)

  turned : (x : X) (xs : List X) → reverse (x ∷ xs) ≡ reverse xs ++ x ∷ []
  turned x xs = reverse-append (x ∷ []) xs

  -- xs are these frames, the innermost first
  abbrev Changes : (h : ℕ) (xs : List X) (y : X) → Type 0
  Changes h xs y = h < length xs → view y ≡ change (view (get_or (reverse xs) h y)) → changed_at h change (map view xs) ≡ map view (reverse (set (reverse xs) h y))

  changed-first : (h : ℕ) (x : X) (xs : List X) (y : X) → nat_eq h (length xs) ≡ true → Changes h (x ∷ xs) y
  changed-first h x xs y f l = rw (turned x xs) λ e.
      let same : h ≡ length xs = eqb-true h (length xs) f in
      let n : length (reverse xs) ≡ h = length-reverse xs ∙ sym same in
      let here : nat_eq h (length (map view xs)) ≡ true = ap (λ (k : ℕ). nat_eq h k) (length-map xs view) ∙ f in
      let value : view y ≡ change (view x) = e ∙ ap (λ (z : X). change (view z)) (get_or_at (reverse xs) x [] y h n) in
      at-top true h (view x) (map view xs) here ∙ ap (λ (a : Frame). a ∷ map view xs) (sym value)
      ∙ ap (λ (zs : List X). map view (y ∷ zs)) (sym (reverse-reverse xs))
      ∙ ap (map view) (sym (reverse-append (reverse xs) (y ∷ [])))
      ∙ ap (λ (zs : List X). map view (reverse zs)) (sym (set_at (reverse xs) x [] y h n))

  changed-later : (h : ℕ) (x : X) (xs : List X) (y : X) → nat_eq h (length xs) ≡ false → Changes h xs y → Changes h (x ∷ xs) y
  changed-later h x xs y f rest l = rw (turned x xs) λ e.
      let less : h < length xs = below-it h (length xs) f l in
      let n : h < length (reverse xs) = omega (arith, length-reverse xs) in
      let there : nat_eq h (length (map view xs)) ≡ false = ap (λ (k : ℕ). nat_eq h k) (length-map xs view) ∙ f in
      let value : view y ≡ change (view (get_or (reverse xs) h y)) = e ∙ ap (λ (z : X). change (view z)) (get_or_append_left (reverse xs) (x ∷ []) y h n) in
      at-top false h (view x) (map view xs) there ∙ ap (λ (l : List Frame). view x ∷ l) (rest less value)
      ∙ ap (map view) (sym (reverse-append (set (reverse xs) h y) (x ∷ [])))
      ∙ ap (λ (zs : List X). map view (reverse zs)) (sym (set-append_left (reverse xs) (x ∷ []) h y n))

  changes : (h : ℕ) (xs : List X) (y : X) → Changes h xs y
  changes h [] y = λ l e. absurd (omega arith)
  changes h (x ∷ xs) y = by_top (nat_eq h (length xs)) refl (changes h xs y)
    where
      by_top : (b : Bool) → nat_eq h (length xs) ≡ b → Changes h xs y → Changes h (x ∷ xs) y
      by_top true f rest = changed-first h x xs y f
      by_top false f rest = changed-later h x xs y f rest

  changed-within : (h : ℕ) (xs : List X) (y : X) → h < length xs → view y ≡ change (view (get_or (reverse xs) h y)) → changed_at h change (map view xs) ≡ map view (reverse (set (reverse xs) h y))
  changed-within h xs y = changes h xs y

-- none has so many below it
past-all : (change : Frame → Frame) (h : ℕ) (below : List Frame) → length below ≤ h → changed_at h change below ≡ below
past-all change h [] l = refl
past-all change h (a ∷ below) l = by_top (nat_eq h (length below)) refl (past-all change h below (omega arith))
  where
    by_top : (b : Bool) → nat_eq h (length below) ≡ b → changed_at h change below ≡ below → changed_at h change (a ∷ below) ≡ a ∷ below
    by_top true f rest = let same : h ≡ length below = eqb-true h (length below) f in absurd (omega arith)
    by_top false f rest = at-top {X = Frame} (λ a. a) change false h a below f ∙ ap (λ (l : List Frame). a ∷ l) rest

module _ (change : Frame → Frame) where
  below-changed : (b : Bool) (h : ℕ) (m : Machine) (below : List Frame) → nat_eq h (length m.below) ≡ b → b ≡ false → changed_at h change m.below ≡ below → record m { below = below } ≡ changed h change m
  below-changed b h m below e f g =
      sym (ap (λ (t : Bool). if t then record m { top = change m.top } else record m { below = changed_at h change m.below }) (e ∙ f) ∙ ap (λ (l : List Frame). record m { below = l }) g)

module _ (plan : PlanView) (change : Frame → Frame) (h : ℕ) (i : InstanceParts) where
  other : (n : ℕ) → h < n ⊎ n < h → nat_eq h n ≡ false
  other n l = grind (arith, eq-eqb)

  -- the innermost frame is changed
  pub changed-innermost : (a : own.Frame) → h ≡ length i.below.items → frame_of plan i.leaving a ≡ change (frame_of plan i.leaving i.top) → record (machine_of plan i) { top = frame_of plan i.leaving a } ≡ changed h change (machine_of plan i)
  changed-innermost a same e =
      let m = machine_of plan i in
      let n = length-map (reverse i.below.items) (frame_of plan false) ∙ length-reverse i.below.items in
      let f : nat_eq h (length m.below) ≡ true = eq-eqb h (length m.below) (same ∙ sym n) in
      ap (λ (top : Frame). record m { top = top }) e ∙ sym (ap (λ (t : Bool). if t then record m { top = change m.top } else record m { below = changed_at h change m.below }) f)

  -- one of the frames below is changed
  pub changed-inside : (below : List own.Frame) (old a : own.Frame) → h < length i.below.items → old ≡ get_or i.below.items h old → below ≡ set i.below.items h a → frame_of plan false a ≡ change (frame_of plan false old) →
      record (machine_of plan i) { below = map (frame_of plan false) (reverse below) } ≡ changed h change (machine_of plan i)
  changed-inside below old a l there s e =
      let xs = i.below.items in
      let n = length-map (reverse xs) (frame_of plan false) ∙ length-reverse xs in
      let twice = reverse-reverse xs in
      let within : h < length (reverse xs) = omega (arith, length-reverse xs) in
      let here : frame_of plan false a ≡ change (frame_of plan false (get_or (reverse (reverse xs)) h a)) = rw (twice, get_or_default xs h a old l) (e ∙ ap (λ (b : own.Frame). change (frame_of plan false b)) there) in
      let f : nat_eq h (length (map (frame_of plan false) (reverse xs))) ≡ false = ap (λ (k : ℕ). nat_eq h k) n ∙ other (length xs) (inl l) in
      below-changed change false h (machine_of plan i) _ f refl
      (changed-within (frame_of plan false) change h (reverse xs) a within here ∙ ap (λ (ys : List own.Frame). map (frame_of plan false) (reverse (set ys h a))) twice
      ∙ ap (λ (ys : List own.Frame). map (frame_of plan false) (reverse ys)) (sym s))

  -- none has so many below it
  pub changed-beyond : length i.below.items < h → machine_of plan i ≡ changed h change (machine_of plan i)
  changed-beyond l =
      let xs = i.below.items in
      let n : length (map (frame_of plan false) (reverse xs)) ≡ length xs = length-map (reverse xs) (frame_of plan false) ∙ length-reverse xs in
      let f : nat_eq h (length (map (frame_of plan false) (reverse xs))) ≡ false = ap (λ (k : ℕ). nat_eq h k) n ∙ other (length xs) (inr l) in
      below-changed change false h (machine_of plan i) _ f refl (past-all change h (map (frame_of plan false) (reverse xs)) (omega arith))
