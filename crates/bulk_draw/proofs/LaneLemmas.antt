-- Rounds of several numbers.
use Rattle.std.proofs.Common.{◌≡◌, ℕ, ◌<◌, ◌≤◌, ◌+◌, List, [], ◌∷◌, ◌++◌, length, map, take, drop, refl, sym, ap, ◌∙◌, arith}
use Rattle.std.specs.Prelude.{get_or, set}
use Rattle.std.proofs.Math.Seq.{take-add}
use Rattle.std.proofs.lemmas.List.{append_assoc, append-nil, drop-drop, drop_all, drop_at, get_or_default, length-append, length-drop, length-map, length-take, map-append, take_all, take_at}
use Rattle.std.proofs.lemmas.List.Edits.{map_over_more}
use borrow.Rule.Slice.PartMut.{put_mid}
use Rattle.dotmix.specs.Draws.{mix, round}
use Rattle.dotmix.proofs.MixLemmas.{mix_more}

pub rounds_none : (zs : List ℕ) → zs ≡ map (λ n. mix n 0) zs
rounds_none [] = refl
rounds_none (z ∷ zs) = ap (λ ys. z ∷ ys) (rounds_none zs)

pub rounds_more : (n : ℕ) (zs : List ℕ) → map round (map (λ z. mix z n) zs) ≡ map (λ z. mix z (n + 1)) zs
rounds_more n [] = refl
rounds_more n (z ∷ zs) = rw (mix_more n z) (ap (λ ys. round (mix z n) ∷ ys) (rounds_more n zs))

-- ---- a list that is changed in place, up to some index

pub number_mapped : (f : ℕ → ℕ) (xs ys : List ℕ) (i : ℕ) → i < length xs → i < length ys → ys ≡ map f (take i xs) ++ drop i xs → set ys i (f (get_or ys i 0)) ≡ map f (take (i + 1) xs) ++ drop (i + 1) xs
number_mapped f xs ys i h k e = map_over_more f xs ys i (get_or ys i 0) h e (get_or_default ys i 0 (get_or ys i 0) k)

-- b is where the block begins, n how long it is, and e where it ends.
pub block_mapped : (f : ℕ → ℕ) (xs zs ys : List ℕ) (b n k e : ℕ) → e ≡ b + n → k ≡ n → e ≤ length xs → zs ≡ map f (take b xs) ++ drop b xs → ys ≡ map f (take n (drop b zs)) → put_mid b k zs ys ≡ map f (take e xs) ++ drop e xs
block_mapped f xs zs ys b n k e he hk le hz hy =
    let long : length (map f (take b xs)) ≡ b = simp (length-map, length-take) (omega arith) in
    let before : take b zs ≡ map f (take b xs) = rw hz (take_at (map f (take b xs)) (drop b xs) b long) in
    let rest : drop b zs ≡ drop b xs = rw hz (drop_at (map f (take b xs)) (drop b xs) b long) in
    let whole : map f (take (b + n) xs) ≡ map f (take b xs) ++ map f (take n (drop b xs)) = rw (take-add b n xs) (map-append f (take b xs) (take n (drop b xs))) in
    rw (hk, he, hy, before, rest, drop-drop n b xs, whole) (sym (append_assoc (map f (take b xs)) (map f (take n (drop b xs))) (drop (b + n) xs)))

pub mapped-length : (f : ℕ → ℕ) (xs zs : List ℕ) (b : ℕ) → zs ≡ map f (take b xs) ++ drop b xs → length zs ≡ length xs
mapped-length f xs zs b e = rw e (simp (length-append, length-map, length-take, length-drop) (omega arith))

pub all_mapped : (f : ℕ → ℕ) (xs zs : List ℕ) (e : ℕ) → e ≡ length xs → zs ≡ map f (take e xs) ++ drop e xs → zs ≡ map f xs
all_mapped f xs zs e h k = k ∙ rw (take_all e xs (omega arith), drop_all e xs (omega arith)) (append-nil (map f xs))
