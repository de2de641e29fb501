-- The result of a replay.
use Rattle.std.specs.Prelude.{◌≡◌, Result, Ok, Err}
use Rattle.strand_meaning.specs.Strands.{Strand, Found, FoundStrand, Missing, Blocked}
use Rattle.replay.specs.declared.error.ReplayError.{ReplayError}
use Rattle.replay.specs.declared.error.ReplayError.TheVariants as error

-- The result is what is found at the pedigree, or that memory ran out.
abbrev pub IsReplayOf : Found → Result Strand ReplayError → Type 0
IsReplayOf found (Ok strand) = found ≡ FoundStrand strand
IsReplayOf found (Err error.NoStrand) = found ≡ Missing
IsReplayOf found (Err (error.Blocked f)) = found ≡ Blocked f
IsReplayOf found (Err error.Memory) = Unit {0}
