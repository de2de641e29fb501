-- Streams: where a pedigree's path and rank stand, and how a stream goes on.
use Rattle.std.proofs.Common.{◌≡◌, ℕ, ◌<◌, ◌≤◌, ◌+◌, ◌-◌, ◌*◌, ◌%◌, List, [], ◌∷◌, ◌++◌, length, map, take, refl, sym, ap, ◌∙◌, arith, length-append, inl, inr}
use Rattle.std.specs.List.{range_with_len}
use Rattle.std.proofs.lemmas.Bool.{cases_lt}
use Rattle.std.proofs.lemmas.List.{append-nil, drop-drop, drop_all, get_or_append_left, get_or-append_right, get_or_at, length-map, same_lists, take_at}
use Rattle.std.proofs.lemmas.List.FromFn.{get_or-map-range_with_len, length-map-range_with_len, map-range_with_len_more}
use Rattle.std.proofs.lemmas.Simd.{map-map}
use Rattle.std.proofs.lemmas.Slice.{take-put_mid}
use Rattle.std.proofs.Math.Nat.{mod-add-mod}
use borrow.Rule.Slice.PartMut.{put_mid}
use Rattle.dotmix.specs.Draws.{coefficient, dot, dotmix, mix, modulus, IsResidue}
use Rattle.dotmix.proofs.ProductLemmas.{dot-append}
use Rattle.bulk_draw.specs.Streams.{dots, last_rank, later, path_of_pedigree, stream}

-- ---- the path and the rank of a pedigree

before_last : (p : List ℕ) (r : ℕ) → length (p ++ r ∷ []) - 1 ≡ length p
before_last p r = simp length-append (omega arith)

pub path-after : (p : List ℕ) (r : ℕ) → path_of_pedigree (p ++ r ∷ []) ≡ p
path-after p r = rw (before_last p r) (take_at p (r ∷ []) (length p) refl)

pub last_rank-after : (p : List ℕ) (r : ℕ) → last_rank (p ++ r ∷ []) ≡ r
last_rank-after p r = rw (before_last p r) (get_or_at p r [] 0 (length p) refl)

pub later-after : (p : List ℕ) (r i : ℕ) → later (p ++ r ∷ []) i ≡ p ++ (r + i) ∷ []
later-after p r i = rw (path-after p r, last_rank-after p r) refl

-- ---- one more dot product

pub dot-IsResidue : (gamma ranks : List ℕ) → IsResidue (dot gamma ranks)
dot-IsResidue gamma ranks = omega arith

pub dot_more : (first step i d e : ℕ) → d ≡ (first + i * step) % modulus → e ≡ (d + step) % modulus → e ≡ (first + (i + 1) * step) % modulus
dot_more first step i d e h k = k ∙ ap (λ n. (n + step) % modulus) h ∙ mod-add-mod (first + i * step) modulus step ∙ ap (λ n. n % modulus) (omega arith)

pub dots_more : (first step i d : ℕ) (xs : List ℕ) → xs ≡ dots first step i → d ≡ (first + i * step) % modulus → xs ++ d ∷ [] ≡ dots first step (i + 1)
dots_more first step i d xs h k = rw (h, k) (sym (map-range_with_len_more (λ n. (first + n * step) % modulus) 0 i i (omega arith)))

-- Some ranks later the dot product has as often one more coefficient of the pedigree's last place.
pub dot-later : (gamma p : List ℕ) (r m n : ℕ) → length p < length gamma → dot gamma (later (p ++ r ∷ []) (m + n)) ≡ (dot gamma (later (p ++ r ∷ []) m) + n * coefficient gamma (length p + 1)) % modulus
dot-later gamma p r m n h =
    let c : ℕ = coefficient gamma (length p + 1) in
    let before = dot-append gamma p (r + m) (length p) refl h in
    let after = dot-append gamma p (r + (m + n)) (length p) refl h in
    let moved = mod-add-mod (dot gamma p + c * (r + m + 1)) modulus (n * c) in
    rw (later-after p r m, later-after p r (m + n)) (sym after ∙ ap (λ s. s % modulus) (omega arith) ∙ sym moved ∙ ap (λ s. (s + n * c) % modulus) before)

-- ---- a stream in two parts

pub range-split : (f g : ℕ → ℕ) (m n : ℕ) → ((i : ℕ) → f (m + i) ≡ g i) → map f (range_with_len 0 (m + n)) ≡ map f (range_with_len 0 m) ++ map g (range_with_len 0 n)
range-split f g m n same =
    same_lists _ _ (simp (length-append, length-map-range_with_len) refl) (λ k d h.
    let within : k < m + n = rw (length-map-range_with_len f 0 (m + n)) at h in
    get_or-map-range_with_len f 0 (m + n) k k d within (omega arith) ∙ sym (elim (cases_lt k m) [
      | inl lt ↦ get_or_append_left (map f (range_with_len 0 m)) (map g (range_with_len 0 n)) d k (rw (length-map-range_with_len f 0 m) lt) ∙ get_or-map-range_with_len f 0 m k k d lt (omega arith)
      | inr le ↦
          let moved : m + (k - m) ≡ k = omega arith in
          get_or-append_right (map f (range_with_len 0 m)) (map g (range_with_len 0 n)) m k d (length-map-range_with_len f 0 m) le ∙ get_or-map-range_with_len g 0 n (k - m) (k - m) d (omega arith) (omega arith) ∙ sym (same (k - m)) ∙ ap f moved
    ]))

length-dots : (first step n : ℕ) → length (dots first step n) ≡ n
length-dots first step n = length-map-range_with_len (λ i. (first + i * step) % modulus) 0 n

pub stream-split : (gamma p : List ℕ) (r m n rounds : ℕ) → length p < length gamma → stream gamma (p ++ r ∷ []) (m + n) rounds ≡ stream gamma (p ++ r ∷ []) m rounds ++ map (λ z. mix z rounds) (dots (dot gamma (later (p ++ r ∷ []) m)) (coefficient gamma (length p + 1)) n)
stream-split gamma p r m n rounds h =
    rw (map-map (λ z. mix z rounds) (λ i. (dot gamma (later (p ++ r ∷ []) m) + i * coefficient gamma (length p + 1)) % modulus) (range_with_len 0 n))
    (range-split (λ i. dotmix gamma (later (p ++ r ∷ []) i) rounds) (λ i. mix ((dot gamma (later (p ++ r ∷ []) m) + i * coefficient gamma (length p + 1)) % modulus) rounds) m n (λ i. ap (λ z. mix z rounds) (dot-later gamma p r m i h)))

-- What a block of a stream is made of: b is where it begins, n how long it is, and e where it ends. Its numbers are the dot products from `next` on.
pub record IsStreamBlock (gamma j p : List ℕ) (r rounds b n e next step : ℕ) (xs ys : List ℕ) : Type 0 where
  pub pedigree : p ++ r ∷ [] ≡ j
  pub within : length p < length gamma
  pub step_is : step ≡ coefficient gamma (length p + 1)
  pub next_is : next ≡ dot gamma (later j b)
  pub ends : e ≡ b + n
  pub room : b ≤ length xs
  pub before : take b xs ≡ stream gamma j b rounds
  pub mixed : ys ≡ map (λ z. mix z rounds) (dots next step n)

block_joined : (gamma j p : List ℕ) (r rounds b n e next step : ℕ) (xs ys : List ℕ) → IsStreamBlock gamma j p r rounds b n e next step xs ys → take b xs ++ ys ≡ stream gamma j e rounds
block_joined gamma j p r rounds b n e next step xs ys is =
    let split : stream gamma j (b + n) rounds ≡ stream gamma j b rounds ++ map (λ z. mix z rounds) (dots (dot gamma (later j b)) (coefficient gamma (length p + 1)) n) = rw (sym is.pedigree) (stream-split gamma p r b n rounds is.within) in
    let made : ys ≡ map (λ z. mix z rounds) (dots (dot gamma (later j b)) (coefficient gamma (length p + 1)) n) = rw (sym is.next_is, sym is.step_is) is.mixed in
    rw (is.before, made, is.ends) (sym split)

pub block_written : (gamma j p : List ℕ) (r rounds b n k e next step : ℕ) (xs ys : List ℕ) → IsStreamBlock gamma j p r rounds b n e next step xs ys → take e (put_mid b k xs ys) ≡ stream gamma j e rounds
block_written gamma j p r rounds b n k e next step xs ys is =
    let long : length ys ≡ n = rw is.mixed (length-map (dots next step n) (λ z. mix z rounds) ∙ length-dots next step n) in
    take-put_mid b k xs ys e (omega arith) is.room ∙ block_joined gamma j p r rounds b n e next step xs ys is

pub last_block_written : (gamma j p : List ℕ) (r rounds b n e next step : ℕ) (xs ys : List ℕ) → length xs ≡ e → IsStreamBlock gamma j p r rounds b n e next step xs ys → put_mid b n xs ys ≡ stream gamma j e rounds
last_block_written gamma j p r rounds b n e next step xs ys h is =
    rw (drop-drop n b xs, drop_all (b + n) xs (omega arith), append-nil ys) (block_joined gamma j p r rounds b n e next step xs ys is)

pub block_next : (gamma j p : List ℕ) (r rounds b n e next step : ℕ) (xs ys : List ℕ) → IsStreamBlock gamma j p r rounds b n e next step xs ys → (next + n * step) % modulus ≡ dot gamma (later j e)
block_next gamma j p r rounds b n e next step xs ys is =
    rw (is.next_is, is.step_is, is.ends, sym is.pedigree) (sym (dot-later gamma p r b n is.within))

-- a stream begins with its pedigree's own draw
pub later-none : (j p : List ℕ) (r : ℕ) → p ++ r ∷ [] ≡ j → later j 0 ≡ j
later-none j p r e = rw (sym e) (later-after p r 0 ∙ ap (λ n. p ++ n ∷ []) (omega arith))

pub length-after : (j p : List ℕ) (r : ℕ) → p ++ r ∷ [] ≡ j → length j ≡ length p + 1
length-after j p r e = rw (sym e) (simp length-append refl)
