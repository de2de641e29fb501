-- Pedigrees below a path.
use Rattle.std.proofs.Common.{◌≡◌, ℕ, zero, suc, ◌<◌, Bool, true, false, ◌&&◌, nat_lt, bytes_eq, List, [], ◌∷◌, ◌++◌, length, take, drop, sym, ap, ◌∙◌, refl, arith}
use Rattle.std.proofs.lemmas.Bool.Decides.{nat_tests}
use Rattle.std.proofs.lemmas.List.{take-append-drop}
use Rattle.strand_meaning.specs.Strands.{is_below}
use Rattle.strand_meaning.proofs.Unfilled.Variables.{same-name}

pub both : (a b : Bool) → (a && b) ≡ true → (a ≡ true) × (b ≡ true)
both true b e = (refl, e)
both false b e = absurd (cc)

some-left : (ranks : List ℕ) (n : ℕ) → n < length ranks → (k : ℕ) × (more : List ℕ) × (drop n ranks ≡ k ∷ more)
some-left [] n h = absurd (omega arith)
some-left (r ∷ ranks) zero h = (r, ranks, refl)
some-left (r ∷ ranks) (suc n) h = some-left ranks n (omega arith)

pub below-of : (path j : List ℕ) → is_below path j ≡ true → (k : ℕ) × (more : List ℕ) × (j ≡ path ++ k ∷ more)
below-of path j e =
    let b = both (nat_lt (length path) (length j)) (bytes_eq (take (length path) j) path) e in
    let longer : length path < length j = grind (arith, nat_tests, b.0) in
    let rest = some-left j (length path) longer in
    (rest.0, rest.1, sym (take-append-drop (length path) j) ∙ ap (λ l. take (length path) j ++ l) rest.2 ∙ ap (λ l. l ++ rest.0 ∷ rest.1) (same-name (take (length path) j) path b.1))
