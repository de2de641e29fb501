-- A name's bytes in their room.
use Rattle.std.proofs.Common.{◌≡◌, ℕ, zero, suc, ◌+◌, ◌-◌, ◌<◌, ◌≤◌, List, [], ◌∷◌, ◌++◌, length, take, get_or, replicate, slice_set, refl, sym, ap, ◌∙◌, arith}
use Rattle.std.specs.Int.{from_le_bytes, to_le_bytes, w64}
use Rattle.script_grammar.specs.Names.{IsNameText, room_of}

-- one byte more
filled : (i n : ℕ) (xs : List ℕ) (x : ℕ) → i < length xs → x ≡ get_or xs i x → slice_set (take i xs ++ replicate (suc n) 0) i x ≡ take (suc i) xs ++ replicate n 0
filled i n [] x h e = absurd (omega arith)
filled zero n (y ∷ ys) x h e = ap (λ z. z ∷ replicate n 0) e
filled (suc i) n (y ∷ ys) x h e = ap (λ l. y ∷ l) (filled i n ys x (omega arith) e)

pub one_filled : (i : ℕ) (room xs : List ℕ) (x : ℕ) → i < length xs → length xs ≤ 32 → x ≡ get_or xs i x → room ≡ take i xs ++ replicate (32 - i) 0 →
    slice_set room i x ≡ take (suc i) xs ++ replicate (32 - suc i) 0
one_filled i room xs x h few e was =
    let n : suc (32 - suc i) ≡ 32 - i = omega (arith, h, few) in
    ap (λ r. slice_set r i x) (was ∙ ap (λ k. take i xs ++ replicate k 0) (sym n)) ∙ filled i (32 - suc i) xs x h e

-- the first of the first
take_of_more : (n m : ℕ) (xs : List ℕ) → n ≤ m → take n (take m xs) ≡ take n xs
take_of_more zero m xs h = refl
take_of_more (suc n) zero xs h = absurd (omega arith)
take_of_more (suc n) (suc m) [] h = refl
take_of_more (suc n) (suc m) (x ∷ xs) h = ap (λ l. x ∷ l) (take_of_more n m xs (omega arith))

-- equal names have equal rooms
pub same_rooms : (r s : List ℕ) (m n : ℕ) → IsNameText r m → IsNameText s n → take m r ≡ take n s → r ≡ s
same_rooms r s m n a b e = a.zeros ∙ ap room_of e ∙ sym b.zeros

-- and equal numbers in front
pub same_fronts : (f g : ℕ) (r s : List ℕ) (m n : ℕ) → f ≡ from_le_bytes w64 (take 8 r) → g ≡ from_le_bytes w64 (take 8 s) → IsNameText r m → IsNameText s n → take m r ≡ take n s → f ≡ g
same_fronts f g r s m n p q a b e = p ∙ ap (λ l. from_le_bytes w64 (take 8 l)) (same_rooms r s m n a b e) ∙ sym q

-- short names with equal numbers in front are equal
pub short_names : (f g : ℕ) (r s : List ℕ) (m n : ℕ) → take 8 r ≡ to_le_bytes w64 f → take 8 s ≡ to_le_bytes w64 g → n ≤ 8 → m ≡ n → f ≡ g → take m r ≡ take n s
short_names f g r s m n p q few same e =
    ap (λ k. take k r) same
    ∙ sym (take_of_more n 8 r few)
    ∙ ap (λ l. take n l) (p ∙ ap (to_le_bytes w64) e ∙ sym q)
    ∙ take_of_more n 8 s few
