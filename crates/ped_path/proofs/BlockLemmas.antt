-- Lists of blocks of 16.
use Rattle.std.proofs.Common.{◌≡◌, ℕ, zero, suc, ◌<◌, ◌≤◌, ◌+◌, ◌*◌, ◌/◌, ◌%◌, ◌-◌, List, [], ◌∷◌, ◌++◌, All, length, get_or, take, refl, sym, ap, ◌∙◌, arith, append_assoc, add-one, length-append, length-set, subst, ◌^◌}
use Rattle.std.specs.List.{concat, slice_set}
use Rattle.ped_path.specs.Blocks.{IsBlocked, IsRankBlock, joined}
use Rattle.ped_path.specs.Path.{IsRank}
use Rattle.std.proofs.Math.ListN.{get_or-append}
use Rattle.std.proofs.Math.Seq.{take-suc-set}
use Rattle.std.proofs.lemmas.List.{append-nil, get_or-append-add, get_or-append_right, get_or-take, length-take-le, take_all}
use Rattle.std.proofs.lemmas.List.Elements.{All-push}
use Rattle.std.proofs.lemmas.List.Folds.{concat-append}

abbrev pub AreFull : List (List ℕ) → Type 0
AreFull blocks = All (λ block. length block ≡ 16) blocks

AreFull-rest : (b : List ℕ) (bs : List (List ℕ)) → AreFull (b ∷ bs) → AreFull bs
AreFull-rest b bs h = λ k d lt. h (suc k) d (omega arith)

pub length-concat : (bs : List (List ℕ)) → AreFull bs → length (concat bs) ≡ length bs * 16
length-concat [] h = refl
length-concat (b ∷ bs) h =
    let one : length b ≡ 16 = h 0 [] (omega arith) in
    let rest : length (concat bs) ≡ length bs * 16 = length-concat bs (AreFull-rest b bs h) in
    simp length-append (omega arith)

pub get_or-concat : (bs : List (List ℕ)) (q r : ℕ) (d : List ℕ) → AreFull bs → q < length bs → r < 16 → get_or (concat bs) (q * 16 + r) 0 ≡ get_or (get_or bs q d) r 0
get_or-concat [] q r d h lt within = absurd (omega arith)
get_or-concat (b ∷ bs) zero r d h lt within =
    let one : length b ≡ 16 = h 0 [] (omega arith) in
    let place : 0 * 16 + r ≡ r = omega arith in
    rw place (get_or-append b (concat bs) 0 r (omega arith))
get_or-concat (b ∷ bs) (suc q) r d h lt within =
    let one : length b ≡ 16 = h 0 [] (omega arith) in
    let place : suc q * 16 + r ≡ length b + (q * 16 + r) = omega arith in
    rw place (get_or-append-add b (concat bs) (q * 16 + r) 0 ∙ get_or-concat bs q r d (AreFull-rest b bs h) (omega arith) within)

All-append_right : (P : ℕ → Type 0) (xs ys : List ℕ) → All P (xs ++ ys) → All P ys
All-append_right P xs ys h = λ k d lt. subst P (get_or-append-add xs ys k d) (h (length xs + k) d (simp length-append (omega arith)))

module _ (bs : List (List ℕ)) (last : List ℕ) (count : ℕ) (kept : IsBlocked bs last count) where
  pub length-joined : length (joined bs last count) ≡ length bs * 16 + count
  length-joined =
      let after : length (take count last) ≡ count = length-take-le count last (omega (arith, kept.slots, kept.unfinished)) in
      let full : length (concat bs) ≡ length bs * 16 = length-concat bs kept.full in
      length-append (concat bs) (take count last) ∙ omega arith

  pub get_or-joined_block : (i : ℕ) (d : List ℕ) → i / 16 < length bs → get_or (joined bs last count) i 0 ≡ get_or (get_or bs (i / 16) d) (i % 16) 0
  get_or-joined_block i d lt =
      let full : length (concat bs) ≡ length bs * 16 = length-concat bs kept.full in
      let place : i ≡ i / 16 * 16 + i % 16 = omega arith in
      get_or-append (concat bs) (take count last) 0 i (omega arith) ∙ ap (λ n. get_or (concat bs) n 0) place ∙ get_or-concat bs (i / 16) (i % 16) d kept.full lt (omega arith)

  pub get_or-joined_last : (i : ℕ) → length bs ≤ i / 16 → i < length (joined bs last count) → get_or last (i % 16) 0 ≡ get_or (joined bs last count) i 0
  get_or-joined_last i le lt =
      let full : length (concat bs) ≡ length bs * 16 = length-concat bs kept.full in
      let long : length (joined bs last count) ≡ length bs * 16 + count = length-joined in
      let unfinished : count < 16 = kept.unfinished in
      let place : i - length bs * 16 ≡ i % 16 = omega arith in
      sym (get_or-append_right (concat bs) (take count last) (length bs * 16) i 0 full (omega arith) ∙ ap (λ n. get_or (take count last) n 0) place ∙ get_or-take count last (i % 16) 0 (omega arith))

  module _ (r : ℕ) (rank : IsRank r) where
    pub joined-more : joined bs (slice_set last count r) (count + 1) ≡ joined bs last count ++ r ∷ []
    joined-more =
        let slots : length last ≡ 16 = kept.slots in
        let unfinished : count < 16 = kept.unfinished in
        rw add-one (ap (λ xs. concat bs ++ xs) (take-suc-set last count r (omega arith)) ∙ sym (append_assoc (concat bs) (take count last) (r ∷ [])))

    pub IsBlocked-more : count + 1 < 16 → IsBlocked bs (slice_set last count r) (count + 1)
    IsBlocked-more lt = record {
      full = kept.full;
      few = kept.few;
      slots = length-set last count r ∙ kept.slots;
      unfinished = lt;
      bounded = rw joined-more (All-push IsRank (joined bs last count) r kept.bounded rank);
    }

    -- the last ranks with this one, once they are a block
    module _ (le : 16 ≤ count + 1) where
      block-whole : take (count + 1) (slice_set last count r) ≡ slice_set last count r
      block-whole = let slots : length last ≡ 16 = kept.slots in take_all (count + 1) (slice_set last count r) (simp length-set (omega arith))

      pub IsRankBlock-filled : IsRankBlock (slice_set last count r)
      IsRankBlock-filled = record {
        full = length-set last count r ∙ kept.slots;
        bounded = subst (All IsRank) block-whole (All-append_right IsRank (concat bs) (take (count + 1) (slice_set last count r)) (rw joined-more (All-push IsRank (joined bs last count) r kept.bounded rank)));
      }

      pub concat-filled : concat (bs ++ slice_set last count r ∷ []) ++ [] ≡ joined bs last count ++ r ∷ []
      concat-filled =
          append-nil (concat (bs ++ slice_set last count r ∷ [])) ∙ concat-append bs (slice_set last count r ∷ []) ∙ ap (λ xs. concat bs ++ xs) (append-nil (slice_set last count r) ∙ sym block-whole) ∙ joined-more

      pub IsBlocked-filled : length bs < 2 ^ 58 → (none : List ℕ) → length none ≡ 16 → IsBlocked (bs ++ slice_set last count r ∷ []) none 0
      IsBlocked-filled lt none slots = record {
        full = All-push (λ block. length block ≡ 16) bs (slice_set last count r) kept.full IsRankBlock-filled.full;
        few = simp length-append (omega arith);
        slots = slots;
        unfinished = omega arith;
        bounded = rw concat-filled (All-push IsRank (joined bs last count) r kept.bounded rank);
      }
