-- What each step on the shared deck tells the party that takes it.
use Rattle.std.specs.Prelude.{◌≡◌, ℕ, ◌<◌, List, [], ◌∷◌, ◌++◌, length}
use mathlib.Core.Option.{some}
use lib.ListN.{get_elem?}
use Rattle.steal_deck.specs.declared.rule.Party.{Party}
use Rattle.steal_deck.specs.History.{with_push, with_entry, push, pop, OwnerDoes, ThiefTakes, OwnerFindsNone}
use Rattle.steal_deck.specs.Accounts.{times, EachOnce, AreEntriesOf, left_of}

module _ {T : Type 0} where
  -- the list has one task, and this holds of it
  abbrev pub One : (T → Type 0) → List T → Type 0
  One P [] = ⊥
  One P (x ∷ []) = P x
  One P (x ∷ y ∷ ys) = ⊥

  -- all entries that the owner knows to be taken
  abbrev pub party_taken : Party T → List (ℕ × T)
  party_taken v = v.taken ++ v.back

  abbrev pub Pushed : Party T → T → Party T → Type 0
  Pushed v x w = (w ≡ with_push v x) × OwnerDoes (push x) v w

  abbrev pub Popped : Party T → T → Party T → Type 0
  Popped v x w = (n : ℕ) × (w ≡ with_entry v (n, x)) × OwnerDoes (pop (n, x)) v w
      × ((get_elem? v.pushed n ≡ some x) × (n < length v.pushed) × (times n (party_taken v) ≡ 0))
      × (v.made ≡ v.came → left_of v.pushed (party_taken v) ≡ left_of w.pushed (party_taken w) ++ (n, x) ∷ [])

  abbrev pub FoundNone : Party T → Type 0
  FoundNone v = OwnerFindsNone v × (v.made ≡ v.came → (left_of v.pushed (party_taken v) ≡ []) × EachOnce (length v.pushed) (party_taken v))

  abbrev pub Stole : Party T → T → Party T → Type 0
  Stole v x w = (n : ℕ) × (w ≡ with_entry v (n, x)) × ThiefTakes (n, x) v w

  -- where all thieves came back, each push is exactly once in the owner's lists or left
  abbrev pub Accounted : Party T → Type 0
  Accounted v = v.made ≡ v.came
      → EachOnce (length v.pushed) (left_of v.pushed (party_taken v) ++ party_taken v) × AreEntriesOf v.pushed (left_of v.pushed (party_taken v) ++ party_taken v)
