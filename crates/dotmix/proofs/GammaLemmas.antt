-- The state of SplitMix64 after so many words, and the list that the words make.
use Rattle.std.proofs.Common.{◌≡◌, ℕ, ◌<◌, ◌≤◌, ◌+◌, ◌-◌, ◌*◌, ◌%◌, ◌^◌, List, [], ◌∷◌, ◌++◌, All, length, length-append, refl, sym, ap, ◌∙◌, arith}
use Rattle.std.proofs.Math.Nat.{mod-add-mod}
use Rattle.std.proofs.lemmas.List.{length-replicate}
use Rattle.std.proofs.lemmas.List.Elements.{All-append, All-map, All-replicate}
use Rattle.std.proofs.lemmas.List.Sums.{prefix_len_passes}
use Rattle.std.proofs.lemmas.Bool.Decides.{nat_tests}
use Rattle.std.proofs.lemmas.List.FromFn.{length-map-range_with_len, map-range_with_len_more}
use Rattle.std.specs.List.{position_or_len, range_with_len, slice_index_or}
use Rattle.std.specs.Prelude.{Bool, true, false, cond, not, nat_le, nat_lt, Some, None, position, replicate}
use Rattle.rand_xoshiro.specs.SplitMix64.{mix_u64, next_state}
use Rattle.dotmix.specs.Draws.{modulus, IsResidue}
use Rattle.dotmix.specs.GammaState.{IsGamma, is_too_big, padded}
use Rattle.dotmix.specs.Words.{seed_word, split_mix, coefficients}

-- the state after i words
abbrev pub state_after : ℕ → ℕ → ℕ
state_after seed i = (seed + i * 0x9E3779B97F4A7C15) % 2 ^ 64

next_state-after : (seed i : ℕ) → next_state (state_after seed i) ≡ state_after seed (i + 1)
next_state-after seed i =
    mod-add-mod (seed + i * 0x9E3779B97F4A7C15) (2 ^ 64) 0x9E3779B97F4A7C15 ∙ ap (λ n. n % 2 ^ 64) (omega arith)

pub state_after_word : (seed i x s new : ℕ) → (x, new) ≡ mix_u64 s → s ≡ state_after seed i → new ≡ state_after seed (i + 1)
state_after_word seed i x s new e h = ap (λ (p : ℕ × ℕ). p.1) e ∙ ap next_state h ∙ next_state-after seed i

word_given : (seed i x s new : ℕ) → (x, new) ≡ mix_u64 s → s ≡ state_after seed i → x ≡ seed_word seed (i + 1)
word_given seed i x s new e h = ap (λ (p : ℕ × ℕ). p.0) e ∙ ap split_mix (ap next_state h ∙ next_state-after seed i)

pub coefficients_after_word : (seed i x s new : ℕ) (xs ys : List ℕ) → (x, new) ≡ mix_u64 s → s ≡ state_after seed i → xs ≡ coefficients seed i → ys ≡ xs ++ x % modulus ∷ [] → ys ≡ coefficients seed (i + 1)
coefficients_after_word seed i x s new xs ys e h k f =
    f ∙ rw (word_given seed i x s new e h, k) (sym (map-range_with_len_more (λ j. seed_word seed j % modulus) 1 i (i + 1) (omega arith)))

mod-IsResidue : (n : ℕ) → IsResidue (n % modulus)
mod-IsResidue n = omega arith

pub coefficients-IsGamma : (seed depth : ℕ) → depth < 2 ^ 32 → IsGamma (coefficients seed depth)
coefficients-IsGamma seed depth h = record {
  few = rw (length-map-range_with_len (λ i. seed_word seed i % modulus) 1 depth) h;
  small = All-map IsResidue (λ i. seed_word seed i % modulus) (range_with_len 1 depth) (λ k d h. mod-IsResidue (seed_word seed (slice_index_or (range_with_len 1 depth) k d)));
}

-- ---- from a list

not_some : (b : Bool) (i : ℕ) → cond b (Some i) None ≡ None → b ≡ false
not_some true i e = absurd (cc)
not_some false i e = refl

le-from_not_lt : (i n : ℕ) → nat_lt i n ≡ false → n ≤ i
le-from_not_lt i n e = grind (arith, nat_tests)

lt-from_not_le : (m n : ℕ) → not (nat_le m n) ≡ true → n < m
lt-from_not_le m n e = grind (arith, nat_tests)

small-from_none : (list : List ℕ) → position is_too_big list ≡ None → All IsResidue list
small-from_none list e = λ k d lt.
    let past : length list ≤ position_or_len is_too_big list = le-from_not_lt _ _ (not_some (nat_lt (position_or_len is_too_big list) (length list)) (position_or_len is_too_big list) e) in
    lt-from_not_le modulus (slice_index_or list k d) (prefix_len_passes (λ n. not (is_too_big n)) list k d (omega arith))

pub padded-IsGamma : (list : List ℕ) (depth : ℕ) → length list ≤ depth → depth < 2 ^ 32 → position is_too_big list ≡ None → IsGamma (padded list depth)
padded-IsGamma list depth h within e = record {
  few = simp (length-append, length-replicate) (omega arith);
  small = All-append IsResidue list (replicate (depth - length list) 0) (small-from_none list e) (All-replicate IsResidue (depth - length list) 0 (omega arith));
}
