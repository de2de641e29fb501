-- Longest chains by where they end.
use Rattle.std.specs.Prelude.{◌≡◌, ◌+◌, ◌<◌, ◌≤◌, ◌⊎◌, ℕ, List, ◌∷◌, length}
use Rattle.serial_meaning.specs.declared.event.Event.{Event}
use Rattle.serial_meaning.specs.declared.event.Event.TheVariants as event
use Rattle.span_report.specs.Series.{Begins, IsEventOf, IsChain}

-- a chain of so many events that ends in such an event
pub record Reaches (events : List Event) (P : ℕ → Type 0) (most : ℕ) : Type 0 where
  pub last : ℕ
  pub others : List ℕ
  pub chained : IsChain events (last ∷ others)
  pub such : P last
  pub long : most ≡ length others + 1

-- The longest chain that ends in such an event has so many; it is 0 where there is no such event.
pub record IsMost (events : List Event) (P : ℕ → Type 0) (most : ℕ) : Type 0 where
  pub reached : (most ≡ 0) ⊎ Reaches events P most
  pub longest : (i : ℕ) (js : List ℕ) → IsChain events (i ∷ js) → P i → length js + 1 ≤ most

-- Event number i lies in a child that this instance spawned by an event from number m on and before number n.
pub record IsPending (events : List Event) (m n : ℕ) (home : List ℕ) (i : ℕ) : Type 0 where
  pub earlier : i < n
  pub e : Event
  pub own : List ℕ
  pub placed : IsEventOf events own i e
  pub by : ℕ
  pub child : List ℕ
  pub spawn : IsEventOf events home by (event.Spawn child)
  pub since : m ≤ by
  pub before : by < n
  pub below : Begins child own

-- Number m is the one after a sync of this instance before number n, or it is 0.
abbrev pub HasSynced : List Event → ℕ → ℕ → List ℕ → Type 0
HasSynced events m n home = (m ≡ 0) ⊎ ((s : ℕ) × (at : List ℕ) × IsEventOf events home s (event.Sync at) × (s < n) × (m ≡ s + 1))
