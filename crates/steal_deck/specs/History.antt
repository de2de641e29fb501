-- The history of a deck: what its parties did, one event after another, and the state that this leads to. Pushes are numbered from
-- 0. An entry is a task with its push's number.
use Rattle.std.specs.Prelude.{◌≡◌, ℕ, ◌+◌, ◌≤◌, true, false, List, [], ◌∷◌, ◌++◌, map, length, set}
use mathlib.Core.Option.{some}
use lib.ListN.{get_elem?}
use Rattle.steal_deck.specs.declared.rule.Party.{Party}

pub data DeckEvent (T : Type 0) : Type 0 where
  push : T → DeckEvent T
  pop : ℕ × T → DeckEvent T
  -- by the thief with this index among the others, as `take_back`
  steal : ℕ → ℕ × T → DeckEvent T
  make_thief : DeckEvent T
  take_back : ℕ → DeckEvent T

-- the entries left, the oldest first, and what the owner and each other party know
pub record DeckState (T : Type 0) : Type 0 where
  pub left : List (ℕ × T)
  pub owner : Party T
  pub others : List (Party T)

module _ {T : Type 0} where
  abbrev pub state : List (ℕ × T) → Party T → List (Party T) → DeckState T
  state left owner others = record { left = left; owner = owner; others = others }

  abbrev pub owner : List T → List (ℕ × T) → List (ℕ × T) → ℕ → ℕ → Party T
  owner pushed taken back made came = record { is_thief = false; pushed = pushed; taken = taken; back = back; made = made; came = came }

  abbrev pub thief : List (ℕ × T) → Party T
  thief taken = record { is_thief = true; pushed = []; taken = taken; back = []; made = 0; came = 0 }

  -- a thief that came back
  abbrev pub retired : Party T
  retired = record { is_thief = false; pushed = []; taken = []; back = []; made = 0; came = 0 }

  -- a party that has pushed one task more, or taken one entry more
  abbrev pub with_push : Party T → T → Party T
  with_push v x = record v { pushed = v.pushed ++ x ∷ [] }

  abbrev pub with_entry : Party T → ℕ × T → Party T
  with_entry v e = record v { taken = v.taken ++ e ∷ [] }

  -- the owner has made one thief more, or taken one back with all that it took
  abbrev pub with_thief : Party T → Party T
  with_thief v = record v { made = v.made + 1 }

  abbrev pub with_back : Party T → Party T → Party T
  with_back v w = record v { back = v.back ++ w.taken; came = v.came + 1 }

  -- the thief v has this index among the others, and hasn't come back
  abbrev pub IsThiefAt : DeckState T → ℕ → Party T → Type 0
  IsThiefAt s k v = (get_elem? s.others k ≡ some v) × (v.is_thief ≡ true)

  -- how an event changes a state: a push appends the next number, a pop removes the last entry left, and a steal the first
  abbrev pub LeadsBy : DeckEvent T → DeckState T → DeckState T → Type 0
  LeadsBy (push x) r s = s ≡ state (r.left ++ (length r.owner.pushed, x) ∷ []) (with_push r.owner x) r.others
  LeadsBy (pop e) r s = (r.left ≡ s.left ++ e ∷ []) × (s ≡ state s.left (with_entry r.owner e) r.others)
  LeadsBy (steal k e) r s = (v : Party T) × IsThiefAt r k v × (r.left ≡ e ∷ s.left) × (s ≡ state s.left r.owner (set r.others k (with_entry v e)))
  LeadsBy make_thief r s = s ≡ state r.left (with_thief r.owner) (r.others ++ thief [] ∷ [])
  LeadsBy (take_back k) r s = (v : Party T) × IsThiefAt r k v × (s ≡ state r.left (with_back r.owner v) (set r.others k retired))

  -- these events, the newest first, lead from a new deck to this state
  abbrev pub IsHistory : List (DeckEvent T) → DeckState T → Type 0
  IsHistory [] s = s ≡ state [] (owner [] [] [] 0 0) []
  IsHistory (e ∷ events) s = (r : DeckState T) × IsHistory events r × LeadsBy e r s

  -- some history has a state in which the deck holds these tasks, and its parties know this
  abbrev pub HasHistory : List T → List (Party T) → Type 0
  HasHistory items views = (events : List (DeckEvent T)) × (s : DeckState T) × IsHistory events s × (items ≡ map (λ e. e.1) s.left) × (views ≡ s.owner ∷ s.others)

  -- one event of the history, which changed what the owner knows from v to w
  abbrev pub OwnerDoes : DeckEvent T → Party T → Party T → Type 0
  OwnerDoes e v w = (events : List (DeckEvent T)) × (r : DeckState T) × (s : DeckState T) × IsHistory events r × LeadsBy e r s × (r.owner ≡ v) × (s.owner ≡ w)

  -- the same for a thief, which took the first entry left
  abbrev pub ThiefTakes : ℕ × T → Party T → Party T → Type 0
  ThiefTakes e v w = (events : List (DeckEvent T)) × (r : DeckState T) × (s : DeckState T) × (k : ℕ) × IsHistory events r × LeadsBy (steal k e) r s
      × (get_elem? r.others k ≡ some v) × (get_elem? s.others k ≡ some w)

  -- in some state of the history no entry was left, while the owner knew v
  abbrev pub OwnerFindsNone : Party T → Type 0
  OwnerFindsNone v = (events : List (DeckEvent T)) × (s : DeckState T) × IsHistory events s × (s.owner ≡ v) × (s.left ≡ [])

  -- in some state of the history at most one entry was left, while a thief knew v
  abbrev pub ThiefFindsFew : Party T → Type 0
  ThiefFindsFew v = (events : List (DeckEvent T)) × (s : DeckState T) × (k : ℕ) × IsHistory events s × (get_elem? s.others k ≡ some v) × (length s.left ≤ 1)
