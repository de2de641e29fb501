-- The source and the sink in memory: their states, and each call as a step from state to state.
use Rattle.std.specs.Prelude.{◌≡◌, ℕ, ◌-◌, ◌≤◌, ◌⊎◌, ◌↔◌, ◌++◌, min, List, length, take, drop, Contains, Result, IsErr, IfOk, OnErr}
use Rattle.ped_io.specs.Causes.{next_count}

pub record SourceState : Type 0 where
  pub left : List ℕ
  -- the most bytes that one read gives
  pub step : ℕ
  -- the numbers of the calls that fail
  pub fails : List ℕ
  -- the number of the next call
  pub call : ℕ
  pub faults : ℕ

pub record SinkState : Type 0 where
  pub written : List ℕ
  -- the most bytes that one write takes
  pub step : ℕ
  -- the most bytes that all writes take
  pub room : ℕ
  -- the numbers of the calls that fail
  pub fails : List ℕ
  -- the number of the next call
  pub call : ℕ
  pub faults : ℕ

-- A read into a buffer of this length. It fails exactly where its number is among those that fail.
pub record MemReads {E : Type 0} (old new : SourceState) (size : ℕ) (result : Result ℕ E) : Type 0 where
  pub fails : IsErr result ↔ Contains old.fails old.call
  pub given : IfOk result (λ n. (n ≡ min old.step (min (length old.left) size)) × (new ≡ record old { left = drop n old.left; call = next_count old.call }))
  pub failed : OnErr result (new ≡ record old { call = next_count old.call; faults = next_count old.faults })

-- A write of these bytes. It fails exactly where its number is among those that fail, or the room is full.
pub record MemWrites {E : Type 0} (old new : SinkState) (bytes : List ℕ) (result : Result ℕ E) : Type 0 where
  pub fails : IsErr result ↔ (Contains old.fails old.call ⊎ (old.room ≤ length old.written))
  pub taken : IfOk result (λ n. (n ≡ min (length bytes) (min old.step (old.room - length old.written))) × (new ≡ record old { written = old.written ++ take n bytes; call = next_count old.call }))
  pub failed : OnErr result (new ≡ record old { call = next_count old.call; faults = next_count old.faults })
