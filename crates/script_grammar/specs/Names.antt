-- How a name's bytes are kept.
use Rattle.std.specs.Prelude.{◌≡◌, ℕ, ◌-◌, ◌≤◌, List, ◌++◌, length, take, replicate}

-- the bytes that the room holds
abbrev pub name_bytes : List ℕ → ℕ → List ℕ
name_bytes room count = take count room

-- the bytes, filled up with zeros
abbrev pub room_of : List ℕ → List ℕ
room_of bytes = bytes ++ replicate (32 - length bytes) 0

-- The room is long enough, and holds only zeros after the bytes.
pub record IsNameText (room : List ℕ) (count : ℕ) : Type 0 where
  pub few : count ≤ 32
  pub zeros : room ≡ room_of (take count room)
