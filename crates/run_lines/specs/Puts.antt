-- Bytes that go through a buffer: some are written at once, the rest waits.
use Rattle.std.specs.Prelude.{◌≡◌, ℕ, List, ◌++◌}
use Rattle.std.specs.declared.option.Option.{Option}
use Rattle.ped_io.specs.Streams.{Appends}

-- `bytes` came after those that waited: a prefix of all of them was written, and the rest waits now.
pub record Puts (before after : Option (List ℕ)) (waited waits bytes : List ℕ) : Type 0 where
  pub written : List ℕ
  pub appends : Appends before after written
  pub all : waited ++ bytes ≡ written ++ waits
