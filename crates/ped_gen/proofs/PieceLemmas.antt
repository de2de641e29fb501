-- Texts that were made piece by piece.
use Rattle.std.proofs.Common.{◌≡◌, ℕ, List, ◌++◌, append_assoc}

-- a line's end, its line feed, and the lines after it
abbrev pub with_end : List ℕ → List ℕ → List ℕ → List ℕ → List ℕ
with_end size ending feed rest = ((size ++ ending) ++ feed) ++ rest

pub sized_once : (head t₀ t₁ t₂ size ending feed rest : List ℕ) → t₀ ≡ head → t₁ ≡ t₀ ++ size → t₂ ≡ t₁ ++ (ending ++ (feed ++ rest)) → t₂ ≡ head ++ with_end size ending feed rest
sized_once head t₀ t₁ t₂ size ending feed rest e₀ e₁ e₂ = rw (e₂, e₁, e₀) (simp append_assoc)

pub sized_thrice : (head t₀ t₁ t₂ t₃ t₄ t₅ t₆ size a b c feed l m rest : List ℕ) → t₀ ≡ head → t₁ ≡ t₀ ++ size → t₂ ≡ t₁ ++ (a ++ (feed ++ l)) → t₃ ≡ t₂ ++ size → t₄ ≡ t₃ ++ (b ++ (feed ++ m)) → t₅ ≡ t₄ ++ size → t₆ ≡ t₅ ++ (c ++ (feed ++ rest)) → t₆ ≡ head ++ with_end size a feed (l ++ with_end size b feed (m ++ with_end size c feed rest))
sized_thrice head t₀ t₁ t₂ t₃ t₄ t₅ t₆ size a b c feed l m rest e₀ e₁ e₂ e₃ e₄ e₅ e₆ = rw (e₆, e₅, e₄, e₃, e₂, e₁, e₀) (simp append_assoc)
