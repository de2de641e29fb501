-- What the entries of a deck weigh, where each number has a weight, and what holds of each list of them.
use Rattle.std.proofs.Common.{◌≡◌, ℕ, zero, suc, ◌+◌, ◌<◌, false, List, [], ◌∷◌, length, nat_eq}
use Rattle.steal_deck.specs.declared.rule.Party.{Party}
use Rattle.steal_deck.specs.Accounts.{one_if, AreEntriesOf}
use Rattle.steal_deck.specs.History.{DeckState}

-- the weights of the numbers below this one
abbrev pub below : (ℕ → ℕ) → ℕ → ℕ
below h zero = 0
below h (suc n) = below h n + h n

-- the weight 1 for the number n alone
abbrev pub only : ℕ → ℕ → ℕ
only n k = one_if (nat_eq k n)

module _ {T : Type 0} where
  abbrev pub weigh : (ℕ → ℕ) → List (ℕ × T) → ℕ
  weigh h [] = 0
  weigh h (e ∷ es) = h e.0 + weigh h es

  abbrev pub taken_by : (ℕ → ℕ) → List (Party T) → ℕ
  taken_by h [] = 0
  taken_by h (v ∷ vs) = weigh h v.taken + taken_by h vs

  -- how many are thieves that haven't come back
  abbrev pub thieves : List (Party T) → ℕ
  thieves [] = 0
  thieves (v ∷ vs) = one_if v.is_thief + thieves vs

  abbrev pub AllAreOf : List T → List (Party T) → Type 0
  AllAreOf pushed [] = Unit {0}
  AllAreOf pushed (v ∷ vs) = AreEntriesOf pushed v.taken × AllAreOf pushed vs

  -- the numbers of the entries are above n
  abbrev pub Above : ℕ → List (ℕ × T) → Type 0
  Above n [] = Unit {0}
  Above n (e ∷ es) = (n < e.0) × Above n es

  abbrev pub Rising : List (ℕ × T) → Type 0
  Rising [] = Unit {0}
  Rising (e ∷ es) = Above e.0 es × Rising es

  -- who isn't a thief has taken nothing
  abbrev pub Idle : List (Party T) → Type 0
  Idle [] = Unit {0}
  Idle (v ∷ vs) = (v.is_thief ≡ false → v.taken ≡ []) × Idle vs

  -- what holds in each state of a history: each number pushed is left or taken, once
  pub record IsLawful (left : List (ℕ × T)) (boss : Party T) (others : List (Party T)) : Type 0 where
    pub rising : Rising left
    pub named : AreEntriesOf boss.pushed left × AreEntriesOf boss.pushed boss.taken × AreEntriesOf boss.pushed boss.back × AllAreOf boss.pushed others
    pub once : (h : ℕ → ℕ) → (weigh h left + weigh h boss.taken) + (weigh h boss.back + taken_by h others) ≡ below h (length boss.pushed)
    pub parties : thieves others + boss.came ≡ boss.made
    pub idle : Idle others
    pub is_owner : boss.is_thief ≡ false

  abbrev pub Lawful : DeckState T → Type 0
  Lawful s = IsLawful s.left s.owner s.others
