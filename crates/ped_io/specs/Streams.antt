-- What calls do to the bytes that a source has left and to those that a sink has taken, where these are told.
-- `None` stands for bytes that aren't told, and of them nothing is said.
use Rattle.std.specs.Prelude.{ℕ, ◌≡◌, ◌<◌, ◌≤◌, List, length, take, Result, IfOk, MatchResult}
use Rattle.std.specs.declared.option.Option.{Option}
use Rattle.std.specs.Io.KnownBytes.{Appends, Consumes, Keeps, IsAtEnd}
pub use Rattle.std.specs.Io.KnownBytes.{Appends, Consumes, Keeps, IsAtEnd}

-- At Ok(n) a read moved the first n bytes that were left into the buffer, and n is 0 only at the end.
-- At Err it took nothing.
abbrev pub Reads : {E : Type 0} → Option (List ℕ) → Option (List ℕ) → Result ℕ E → List ℕ → Type 0
Reads old new result buf = MatchResult result (λ n. Consumes old new (take n buf) × (n ≡ 0 → IsAtEnd new)) (λ _. Keeps old new)

-- At Ok(n) a sink took from one of the bytes to all of them.
abbrev pub TakesSome : {E : Type 0} → Result ℕ E → List ℕ → Type 0
TakesSome result bytes = IfOk result (λ n. (0 < n) × (n ≤ length bytes))

-- At Ok(n) a write appended the first n bytes, at Err none.
abbrev pub Writes : {E : Type 0} → Option (List ℕ) → Option (List ℕ) → Result ℕ E → List ℕ → Type 0
Writes old new result bytes = MatchResult result (λ n. Appends old new (take n bytes)) (λ _. Keeps old new)

-- A front of what was left was taken, of at most `most` bytes.
abbrev pub ConsumesAtMost : Option (List ℕ) → Option (List ℕ) → ℕ → Type 0
ConsumesAtMost old new most = (front : List ℕ) × (length front ≤ most) × Consumes old new front

-- A front of what was left was taken, of exactly `count` bytes.
abbrev pub ConsumesJust : Option (List ℕ) → Option (List ℕ) → ℕ → Type 0
ConsumesJust old new count = (front : List ℕ) × (length front ≡ count) × Consumes old new front

-- A front of these bytes was appended.
abbrev pub AppendsFront : Option (List ℕ) → Option (List ℕ) → List ℕ → Type 0
AppendsFront old new bytes = (n : ℕ) × (n ≤ length bytes) × Appends old new (take n bytes)
