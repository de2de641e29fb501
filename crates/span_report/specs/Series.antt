-- Which events of a run are in series, and how long a chain of them is: work and span, counted in events and not in time. An
-- event's number is its index in the list of the run's events, from 0.
use Rattle.std.specs.Prelude.{◌≡◌, ◌<◌, ◌≤◌, ℕ, List, [], ◌∷◌, ◌++◌, Some, Contains, length, slice_get}
use Rattle.serial_meaning.specs.declared.event.Event.{Event}
use Rattle.serial_meaning.specs.declared.event.Event.TheVariants as event

abbrev pub pedigree_of : Event → List ℕ
pedigree_of (event.Print j v) = j
pedigree_of (event.Draw j n) = j
pedigree_of (event.New j) = j
pedigree_of (event.Spawn j) = j
pedigree_of (event.Sync j) = j
pedigree_of (event.Loop j) = j

-- the first is a prefix of the second
abbrev pub Begins : List ℕ → List ℕ → Type 0
Begins front whole = (more : List ℕ) × (whole ≡ front ++ more)

-- the same with at least one rank more
abbrev pub BeginsProperly : List ℕ → List ℕ → Type 0
BeginsProperly front whole = (rank : ℕ) × (more : List ℕ) × (whole ≡ front ++ rank ∷ more)

abbrev pub IsEvent : List Event → ℕ → Event → Type 0
IsEvent events i e = slice_get events i ≡ Some e

-- the path of main's instance, of a spawned child, or of a loop's iteration
pub data IsInstancePath (events : List Event) : List ℕ → Type 0 where
  Main : IsInstancePath events []
  Child : (j : List ℕ) → Contains events (event.Spawn j) → IsInstancePath events j
  Iteration : (j : List ℕ) (k : ℕ) → Contains events (event.Loop j) → IsInstancePath events (j ++ k ∷ [])

-- The instance that an event belongs to: of all instances' paths that are proper prefixes of its pedigree, the longest.
pub record IsHome (events : List Event) (pedigree home : List ℕ) : Type 0 where
  pub instance : IsInstancePath events home
  pub begins : BeginsProperly home pedigree
  pub longest : (other : List ℕ) → IsInstancePath events other → BeginsProperly other pedigree → length other ≤ length home

-- the event with this number belongs to this instance
pub record IsEventOf (events : List Event) (home : List ℕ) (i : ℕ) (e : Event) : Type 0 where
  pub numbered : IsEvent events i e
  pub belongs : IsHome events (pedigree_of e) home

-- where two instances part: the longest instance's path that is a prefix of both their paths
pub record IsMeet (events : List Event) (a b meet : List ℕ) : Type 0 where
  pub instance : IsInstancePath events meet
  pub first : Begins meet a
  pub second : Begins meet b
  pub longest : (other : List ℕ) → IsInstancePath events other → Begins other a → Begins other b → length other ≤ length meet

-- Where instances `a` and `b` part at `meet`, an event of `a` precedes what `b` does from number i on: it is an event of that
-- instance itself; or it is in a loop of that instance, and `b` isn't; or it is in a child that this instance spawned before one of
-- its own syncs.
pub data PrecedesAtMeet (events : List Event) (i : ℕ) (a b meet : List ℕ) : Type 0 where
  OfMeet : a ≡ meet → PrecedesAtMeet events i a b meet
  InLoop : (c : ℕ) (j : List ℕ) → IsEventOf events meet c (event.Loop j) → BeginsProperly j a → (Begins j b → ⊥) → PrecedesAtMeet events i a b meet
  BeforeSync : (c s : ℕ) (j at : List ℕ) → IsEventOf events meet c (event.Spawn j) → Begins j a → IsEventOf events meet s (event.Sync at) → c < s → s < i → PrecedesAtMeet events i a b meet

-- Event i precedes in series what an instance does from number n on.
pub record PrecedesFrom (events : List Event) (i n : ℕ) (home : List ℕ) : Type 0 where
  pub earlier : i < n
  pub e : Event
  pub own : List ℕ
  pub meet : List ℕ
  pub placed : IsEventOf events own i e
  pub parting : IsMeet events own home meet
  pub awaited : PrecedesAtMeet events n own home meet

-- Event i precedes event n in series.
pub record InSeries (events : List Event) (i n : ℕ) : Type 0 where
  pub e : Event
  pub home : List ℕ
  pub placed : IsEventOf events home n e
  pub ready : PrecedesFrom events i n home

-- the chain's next event, if there is one, precedes this one in series
abbrev pub Follows : List Event → ℕ → List ℕ → Type 0
Follows events i [] = Unit {0}
Follows events i (j ∷ js) = InSeries events j i

-- A chain, from its last event to its first: the numbers of events, each preceded in series by the next.
abbrev pub IsChain : List Event → List ℕ → Type 0
IsChain events [] = Unit {0}
IsChain events (i ∷ js) = (i < length events) × Follows events i js × IsChain events js

-- The longest chain has this many events.
pub record IsSpan (events : List Event) (span : ℕ) : Type 0 where
  pub chain : List ℕ
  pub chained : IsChain events chain
  pub long : length chain ≡ span
  pub longest : (other : List ℕ) → IsChain events other → length other ≤ span
