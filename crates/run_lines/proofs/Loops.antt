-- A list is gone through, and bytes are put for each item.
use Rattle.std.proofs.Common.{◌≡◌, ℕ, zero, suc, ◌+◌, ◌<◌, ◌≤◌, Option, Some, List, [], ◌∷◌, ◌++◌, length, get_or, slice_get, drop, flat_map, refl, sym, ap, ◌∙◌, subst, append_assoc, append-nil}
use Rattle.std.proofs.lemmas.List.{drop_more, drop_all}
use Rattle.ped_io.specs.Streams.{AppendsFront}
use Rattle.run_lines.specs.Puts.{Puts}
use Rattle.run_lines.proofs.PutLemmas.{puts_then, puts_waiting, front_more, front_then}

-- The first of some bytes were put, and these are left.
abbrev pub Going : Option (List ℕ) → Option (List ℕ) → List ℕ → List ℕ → List ℕ → List ℕ → Type 0
Going a b w v whole rest = (front : List ℕ) × Puts a b w v front × (whole ≡ front ++ rest)

pub begins : (a : Option (List ℕ)) (w whole : List ℕ) → Going a a w w whole whole
begins a w whole = ([], puts_waiting a w w [] (sym (append-nil w)), refl)

module _ (a b c : Option (List ℕ)) (w v : List ℕ) (whole rest x later : List ℕ) (split : rest ≡ x ++ later) (going : Going a b w v whole rest) where
  pub goes_on : (u : List ℕ) → Puts b c v u x → Going a c w u whole later
  goes_on u more =
      (going.0 ++ x, puts_then a b c w v u going.0 x going.1 more, going.2 ∙ ap (λ l. going.0 ++ l) split ∙ sym (append_assoc going.0 x later))

  pub front_of : AppendsFront b c (v ++ x) → AppendsFront a c (w ++ whole)
  front_of more =
      let all : w ++ whole ≡ (w ++ (going.0 ++ x)) ++ later =
      ap (λ l. w ++ l) (going.2 ∙ ap (λ l. going.0 ++ l) split ∙ sym (append_assoc going.0 x later)) ∙ sym (append_assoc w (going.0 ++ x) later) in
      subst (AppendsFront a c) (sym all) (front_more a c (w ++ (going.0 ++ x)) later (front_then a b c w v going.0 x going.1 more))

pub puts_all : (a b : Option (List ℕ)) (w v whole rest : List ℕ) → rest ≡ [] → Going a b w v whole rest → Puts a b w v whole
puts_all a b w v whole rest none (front, puts, split) = subst (Puts a b w v) (sym (split ∙ ap (λ l. front ++ l) none ∙ append-nil front)) puts

-- the next item
pub next_of : {X : Type 0} (f : X → List ℕ) (xs : List X) (i : ℕ) (d x : X) → i < length xs → x ≡ get_or xs i d → flat_map f (drop i xs) ≡ f x ++ flat_map f (drop (i + 1) xs)
next_of {X} f xs i d x within is = ap (flat_map f) (drop_more xs i d within) ∙ ap (λ y. f y ++ flat_map f (drop (i + 1) xs)) (sym is)

pub none_of : {X : Type 0} (f : X → List ℕ) (xs : List X) (i : ℕ) → length xs ≤ i → flat_map f (drop i xs) ≡ []
none_of {X} f xs i end = ap (flat_map f) (drop_all i xs end)

-- what a list has at a place
pub got : (xs : List ℕ) (i x d : ℕ) → slice_get xs i ≡ Some x → x ≡ get_or xs i d
got [] zero x d e = absurd (cc)
got [] (suc i) x d e = absurd (cc)
got (y ∷ ys) zero x d e = cc
got (y ∷ ys) (suc i) x d e = got ys i x d e
