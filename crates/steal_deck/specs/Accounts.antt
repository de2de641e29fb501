-- What lists of entries account for: which pushes are in them, and how often.
use Rattle.std.specs.Prelude.{◌≡◌, ℕ, zero, suc, ◌+◌, ◌<◌, Bool, true, false, List, [], ◌∷◌, nat_eq}
use mathlib.Core.Option.{some}
use lib.ListN.{get_elem?}

abbrev pub one_if : Bool → ℕ
one_if true = 1
one_if false = 0

module _ {T : Type 0} where
  -- how many of the entries have the number n
  abbrev pub times : ℕ → List (ℕ × T) → ℕ
  times n [] = 0
  times n (e ∷ es) = one_if (nat_eq e.0 n) + times n es

  -- each number below this one is in the entries exactly once
  abbrev pub EachOnce : ℕ → List (ℕ × T) → Type 0
  EachOnce count entries = (n : ℕ) → n < count → times n entries ≡ 1

  -- each entry has the task that was pushed with its number
  abbrev pub AreEntriesOf : List T → List (ℕ × T) → Type 0
  AreEntriesOf pushed [] = Unit {0}
  AreEntriesOf pushed (e ∷ es) = (get_elem? pushed e.0 ≡ some e.1) × AreEntriesOf pushed es

  -- the entry in front of the others, unless it was taken; the number says how often
  abbrev pub unless : ℕ → ℕ × T → List (ℕ × T) → List (ℕ × T)
  unless zero e es = e ∷ es
  unless (suc k) e es = es

  abbrev pub left_from : ℕ → List T → List (ℕ × T) → List (ℕ × T)
  left_from n [] taken = []
  left_from n (x ∷ xs) taken = unless (times n taken) (n, x) (left_from (suc n) xs taken)

  -- the entries of these pushes whose numbers aren't in `taken`, in order of their numbers
  abbrev pub left_of : List T → List (ℕ × T) → List (ℕ × T)
  left_of pushed taken = left_from 0 pushed taken
