-- Where a target is found among the functions of a machine, the innermost first, it is found in a frame, of which those below stand the outermost first.
use Rattle.std.proofs.Common.{◌≡◌, ℕ, ◌<◌, Bool, true, false, nat_eq, List, [], ◌∷◌, Option, length, get_or, map, reverse, refl, sym, ap, subst, ◌∙◌, arith}
use Rattle.std.proofs.lemmas.Bool.{eqb-true, eq-eqb}
use Rattle.std.proofs.lemmas.List.{reverse-append, reverse-reverse, length-reverse, length-map, get_or_at, get_or_append_left}
use Rattle.script_grammar.specs.declared.tree.Name.{Name}
use Rattle.serial_meaning.specs.Plan.{PlanView}
use Rattle.strand_meaning.specs.Found.{FindsAt, FindsTargetIn, functions_in}
use Rattle.strand_meaning.specs.Machine as meaning
use Rattle.strand_moves.specs.declared.frame.Frame.{Frame}
use Rattle.strand_moves.specs.declared.instance_parts.InstanceParts.{InstanceParts}
use Rattle.strand_moves.specs.InstanceParts.{frame_of, machine_of}

module _ (plan : PlanView) (target : Option Name) where
  -- of these frames, the innermost first
  abbrev numbers : List Frame → List ℕ
  numbers xs = map (λ (a : meaning.Frame). a.function) (map (frame_of plan false) xs)

  many : (xs : List Frame) → length (numbers xs) ≡ length xs
  many xs = length-map (map (frame_of plan false) xs) (λ (a : meaning.Frame). a.function) ∙ length-map xs (frame_of plan false)

  abbrev Finds : ℕ → List Frame → Frame → Type 0
  Finds h xs y = h < length xs → FindsAt plan h target (numbers xs) → FindsTargetIn plan target (get_or (reverse xs) h y).function

  -- the first of them has the most below it
  found-first : (h : ℕ) (x : Frame) (xs : List Frame) (y : Frame) → nat_eq h (length xs) ≡ true → Finds h (x ∷ xs) y
  found-first h x xs y f l found =
      let same : h ≡ length xs = eqb-true h (length xs) f in
      let is : get_or (reverse (x ∷ xs)) h y ≡ x =
      ap (λ (zs : List Frame). get_or zs h y) (reverse-append (x ∷ []) xs) ∙ get_or_at (reverse xs) x [] y h (length-reverse xs ∙ sym same) in
      subst (λ (a : Frame). FindsTargetIn plan target a.function) (sym is) (found.0 (same ∙ sym (many xs)))

  found-later : (h : ℕ) (x : Frame) (xs : List Frame) (y : Frame) → nat_eq h (length xs) ≡ false → Finds h xs y → Finds h (x ∷ xs) y
  found-later h x xs y f rest l found =
      let less : h < length xs = grind (arith, eq-eqb) in
      let is : get_or (reverse (x ∷ xs)) h y ≡ get_or (reverse xs) h y =
      ap (λ (zs : List Frame). get_or zs h y) (reverse-append (x ∷ []) xs) ∙ get_or_append_left (reverse xs) (x ∷ []) y h (omega (arith, length-reverse xs)) in
      subst (λ (a : Frame). FindsTargetIn plan target a.function) (sym is) (rest less found.1)

  found : (h : ℕ) (xs : List Frame) (y : Frame) → Finds h xs y
  found h [] y = λ l all. absurd (omega arith)
  found h (x ∷ xs) y = by_first (nat_eq h (length xs)) refl (found h xs y)
    where
      by_first : (b : Bool) → nat_eq h (length xs) ≡ b → Finds h xs y → Finds h (x ∷ xs) y
      by_first true f rest = found-first h x xs y f
      by_first false f rest = found-later h x xs y f rest

  module _ (i : InstanceParts) (h : ℕ) (all : FindsAt plan h target (functions_in (machine_of plan i))) where
    pub found-innermost : h ≡ length i.below.items → FindsTargetIn plan target i.top.function
    found-innermost same = all.0 (same ∙ sym (many (reverse i.below.items) ∙ length-reverse i.below.items))

    pub found-below : (a : Frame) → h < length i.below.items → a ≡ get_or i.below.items h a → FindsTargetIn plan target a.function
    found-below a within there =
        let xs = i.below.items in
        let it = found h (reverse xs) a (omega (arith, within, length-reverse xs)) all.1 in
        let is : get_or (reverse (reverse xs)) h a ≡ a = ap (λ (zs : List Frame). get_or zs h a) (reverse-reverse xs) ∙ sym there in
        subst (λ (b : Frame). FindsTargetIn plan target b.function) is it
