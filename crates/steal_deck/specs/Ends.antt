-- How contracts see a deck and its thieves, and what each call does to them.
use Rattle.std.specs.Prelude.{◌≡◌, ℕ, ◌+◌, ◌<◌, List, [], ◌∷◌, ◌++◌, length, min}
use Rattle.std.specs.declared.alloc.Global.{Global}
use mathlib.Core.Option.{some}
use lib.ListN.{get_elem?}
use Rattle.steal_deck.specs.declared.rule.Party.{Party}
use Rattle.steal_deck.specs.History.{owner, thief, push, pop, OwnerDoes, ThiefTakes, OwnerFindsNone}
use Rattle.steal_deck.specs.Accounts.{times, left_of}

-- which deck it is
abbrev pub DeckId : Type 0
DeckId = (ℕ × ℕ) × Global

-- What the owner knows: its deck, the tasks that it pushed, the entries that it took, those taken by thieves that came back, how
-- many thieves were made and came back, and how many of its pops returned None.
pub record OwnerEnd (T : Type 0) : Type 0 where
  pub deck : DeckId
  pub pushed : List T
  pub taken : List (ℕ × T)
  pub back : List (ℕ × T)
  pub made : ℕ
  pub came : ℕ
  pub nones : ℕ

-- What a thief knows: its deck, the entries that it took, and how many of its steals returned Nothing or Lost.
pub record ThiefEnd (T : Type 0) : Type 0 where
  pub deck : DeckId
  pub taken : List (ℕ × T)
  pub misses : ℕ

-- a count raised by one, up to its greatest value
abbrev pub risen : ℕ → ℕ
risen n = min (n + 1) 18446744073709551615

module _ {T : Type 0} where
  abbrev pub owner_end : DeckId → Party T → ℕ → OwnerEnd T
  owner_end deck v nones = record { deck = deck; pushed = v.pushed; taken = v.taken; back = v.back; made = v.made; came = v.came; nones = nones }

  abbrev pub thief_end : DeckId → Party T → ℕ → ThiefEnd T
  thief_end deck v misses = record { deck = deck; taken = v.taken; misses = misses }

  abbrev pub new_owner : DeckId → OwnerEnd T
  new_owner deck = record { deck = deck; pushed = []; taken = []; back = []; made = 0; came = 0; nones = 0 }

  abbrev pub new_thief : DeckId → ThiefEnd T
  new_thief deck = record { deck = deck; taken = []; misses = 0 }

  -- an end as a party of the history
  abbrev pub owner_of : OwnerEnd T → Party T
  owner_of o = owner o.pushed o.taken o.back o.made o.came

  abbrev pub thief_of : ThiefEnd T → Party T
  thief_of t = thief t.taken

  -- all entries that the owner knows to be taken
  abbrev pub known_taken : OwnerEnd T → List (ℕ × T)
  known_taken o = o.taken ++ o.back

  -- all thieves came back
  abbrev pub AllCameBack : OwnerEnd T → Type 0
  AllCameBack o = o.made ≡ o.came

  -- the task was pushed with the next number
  pub record Pushes (old : OwnerEnd T) (x : T) (new : OwnerEnd T) : Type 0 where
    pub change : new ≡ record old { pushed = old.pushed ++ x ∷ [] }
    pub event : OwnerDoes (push x) (owner_of old) (owner_of new)

  -- the last entry left was taken, one that the owner didn't know to be taken
  pub record Pops (old : OwnerEnd T) (x : T) (new : OwnerEnd T) : Type 0 where
    pub number : ℕ
    pub change : new ≡ record old { taken = old.taken ++ (number, x) ∷ [] }
    pub event : OwnerDoes (pop (number, x)) (owner_of old) (owner_of new)
    pub task : get_elem? old.pushed number ≡ some x
    pub within : number < length old.pushed
    pub fresh : times number (known_taken old) ≡ 0
    pub last : AllCameBack old → left_of old.pushed (known_taken old) ≡ left_of new.pushed (known_taken new) ++ (number, x) ∷ []

  -- at one moment no entry was left, and where all thieves came back none is now
  pub record FindsNone (old new : OwnerEnd T) : Type 0 where
    pub change : new ≡ record old { nones = risen old.nones }
    pub moment : OwnerFindsNone (owner_of old)
    pub none_left : AllCameBack old → left_of old.pushed (known_taken old) ≡ []

  -- the first entry left was taken
  pub record Steals (old : ThiefEnd T) (x : T) (new : ThiefEnd T) : Type 0 where
    pub number : ℕ
    pub change : new ≡ record old { taken = old.taken ++ (number, x) ∷ [] }
    pub event : ThiefTakes (number, x) (thief_of old) (thief_of new)
