-- Lines that are written from the last one to the first.
use Rattle.std.proofs.Common.{◌≡◌, ℕ, suc, ◌+◌, ◌<◌, List, [], ◌∷◌, ◌++◌, length, get_or, drop, flat_map, codes, refl, sym, ap, ◌∙◌, append_assoc, arith}
use Rattle.std.specs.Prelude.{decimal}
use Rattle.std.proofs.Math.Seq.{drop-cons}
use Rattle.draw_lines.specs.Lines.{number_line}

-- the digits before a line feed and what stands after it
pub line_after : (n : ℕ) (rest : List ℕ) → decimal n ++ 10 ∷ rest ≡ number_line n ++ rest
line_after n rest = sym (append_assoc (decimal n) (codes "\n") rest)

-- one more line in front
pub line_before : (xs : List ℕ) (i d n : ℕ) (text : List ℕ) → i < length xs → n ≡ get_or xs i d → text ≡ flat_map number_line (drop (i + 1) xs) → number_line n ++ text ≡ flat_map number_line (drop i xs)
line_before xs i d n text within is after =
    let next : i + 1 ≡ suc i = omega arith in
    ap (λ t. number_line n ++ t) (after ∙ ap (λ k. flat_map number_line (drop k xs)) next) ∙ ap (λ m. number_line m ++ flat_map number_line (drop (suc i) xs)) is ∙ sym (ap (flat_map number_line) (drop-cons xs i d within))
