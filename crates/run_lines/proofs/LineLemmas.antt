-- A line is a word and the ranks of a path, and then what follows them.
use Rattle.std.proofs.Common.{◌≡◌, ◌<◌, ◌≤◌, ◌^◌, ℕ, List, [], ◌∷◌, ◌++◌, length, sym, ap, ◌∙◌, append_assoc, arith}
use Rattle.std.specs.Prelude.{codes, decimal}
use Rattle.std.proofs.lemmas.Fmt.{length-decimal-le}
use Rattle.ped_path.specs.Text.{ped_text, stopped}
use Rattle.ped_path.proofs.TextLemmas.{ped_text-append}
use Rattle.serial_meaning.specs.Render.{draw_line, line}

pub digits : (n : ℕ) → n < 2 ^ 64 → length (decimal n) ≤ 20
digits n fits = length-decimal-le 20 n (omega arith) (omega (arith, fits)) fits

named : (word front rank end : List ℕ) → (word ++ (front ++ rank)) ++ end ≡ (word ++ front) ++ (rank ++ end)
named word front rank end = ap (λ l. l ++ end) (sym (append_assoc word front rank)) ∙ append_assoc (word ++ front) rank end

pub named_line : (word path j : List ℕ) (rank : ℕ) → path ++ rank ∷ [] ≡ j → line (word ++ ped_text j) ≡ (word ++ stopped path) ++ line (decimal rank)
named_line word path j rank is = ap (λ l. line (word ++ l)) (sym (ped_text-append path j rank is)) ∙ named word (stopped path) (decimal rank) (codes "\n")

abbrev draw_of : List ℕ → ℕ → List ℕ
draw_of place n = line (codes "draw " ++ place ++ codes " = " ++ decimal n)

drawn : (word front rank middle number end : List ℕ) → (((word ++ (front ++ rank)) ++ middle) ++ number) ++ end ≡ (word ++ front) ++ (rank ++ (middle ++ (number ++ end)))
drawn word front rank middle number end =
    ap (λ l. ((l ++ middle) ++ number) ++ end) (sym (append_assoc word front rank)) ∙ append_assoc (((word ++ front) ++ rank) ++ middle) number end
    ∙ append_assoc ((word ++ front) ++ rank) middle (number ++ end) ∙ append_assoc (word ++ front) rank (middle ++ (number ++ end))

pub drawn_line : (path j : List ℕ) (rank n : ℕ) → path ++ rank ∷ [] ≡ j → draw_line j n ≡ (codes "draw " ++ stopped path) ++ (decimal rank ++ (codes " = " ++ line (decimal n)))
drawn_line path j rank n is =
    ap (λ l. draw_of l n) (sym (ped_text-append path j rank is)) ∙ drawn (codes "draw ") (stopped path) (decimal rank) (codes " = ") (decimal n) (codes "\n")
