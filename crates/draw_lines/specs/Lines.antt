-- The text of a stream of draws: a decimal line for each number.
use Rattle.std.specs.Prelude.{ℕ, ◌+◌, ◌-◌, ◌%◌, ◌<◌, ◌≤◌, ◌≢◌, ◌^◌, Option, Some, None, IfSome, List, ◌++◌, codes, decimal, flat_map, length, map}
use Rattle.dotmix.specs.Draws.{most_rounds}
use Rattle.bulk_draw.specs.Streams.{last_rank, later, stream}
use Rattle.draw_lines.specs.declared.stream.Stream.{Stream}

-- the numbers, each reduced by the modulus where there is one
abbrev pub each_modulo : Option ℕ → List ℕ → List ℕ
each_modulo None numbers = numbers
each_modulo (Some below) numbers = map (λ n. n % below) numbers

abbrev pub number_line : ℕ → List ℕ
number_line n = decimal n ++ codes "\n"

-- the lines of `count` draws, from the pedigree's own on
abbrev pub stream_text : List ℕ → List ℕ → ℕ → ℕ → Option ℕ → List ℕ
stream_text gamma at count rounds below = flat_map number_line (each_modulo below (stream gamma at count rounds))

abbrev pub lines_of : Stream → ℕ → List ℕ
lines_of s count = stream_text s.gamma s.at count s.rounds s.below

-- This many numbers can be drawn: there are coefficients for all of the pedigree's ranks, and the last rank stays below 2^32.
pub record CanDraw (s : Stream) (count : ℕ) : Type 0 where
  pub within : length s.at - 1 < length s.gamma
  pub rounds : s.rounds ≤ most_rounds
  pub ranks : last_rank s.at + count ≤ 2 ^ 32
  pub below : IfSome s.below (λ m. m ≢ 0)

-- the stream `n` ranks later
abbrev pub later_stream : Stream → ℕ → Stream
later_stream s n = record s { at = later s.at n }
