-- When a fault may be told: where the object's own count of faults rose.
use Rattle.std.specs.Prelude.{◌≡◌, ℕ, ◌+◌, ◌-◌, ◌^◌, ◌<◌, ◌≤◌, ◌⊎◌, min, Result, IsErr, OnErr, MatchResult}

-- The count is greater than it was, or stands at a counter's last value, 18446744073709551615.
abbrev pub Rose : ℕ → ℕ → Type 0
Rose before now = (before < now) ⊎ (now ≡ 2 ^ 64 - 1)

-- What a call does to the count of faults: it never falls, and where the call fails it rose.
pub record HasCause {T E : Type 0} (before now : ℕ) (result : Result T E) : Type 0 where
  pub later : before ≤ now
  pub failed : OnErr result (Rose before now)

-- A counter goes up by one, and stays at its last value, 18446744073709551615.
abbrev pub next_count : ℕ → ℕ
next_count n = min (n + 1) (2 ^ 64 - 1)

-- The count goes up by one where the call fails, and else stays.
abbrev pub Counts : {T E : Type 0} → ℕ → ℕ → Result T E → Type 0
Counts before now result = MatchResult result (λ _. now ≡ before) (λ _. now ≡ next_count before)

-- The result is the answer: what was given is given on, and it fails exactly where the answer does.
abbrev pub KeepsAnswer : {T E F : Type 0} → Result T E → Result T F → Type 0
KeepsAnswer answer result = MatchResult answer (λ n. MatchResult result (λ m. m ≡ n) (λ _. ⊥)) (λ _. IsErr result)

-- The same, where it is a failure too to take none.
abbrev pub TakesOrFails : {E F : Type 0} → Result ℕ E → Result ℕ F → Type 0
TakesOrFails answer result = MatchResult answer (λ n. MatchResult result (λ m. (m ≡ n) × (0 < n)) (λ _. n ≡ 0)) (λ _. IsErr result)
