-- Laws of what `stream` and `sim` print.
use Rattle.std.specs.Prelude.{◌≡◌, ◌<◌, ◌≤◌, ℕ, List, Option, Contains, length, slice_index}
use Rattle.bulk_draw.specs.Streams.{later, stream}
use Rattle.ped_words.specs.Making.{gamma_from, hash_depth}
use Rattle.serial_meaning.specs.Eval.{elision}
use Rattle.serial_meaning.specs.Plan.{PlanView, drawn}
use Rattle.serial_meaning.specs.declared.event.Event.TheVariants.{Draw}
use Rattle.strand_meaning.specs.Strands.{Strand, FoundStrand, strand_at}
use Rattle.engine.specs.Report.{IsSimReport, Report}

-- The plan has as many coefficients as its depth, those of the list if it is given, else those of the seed.
pub record IsPlanBy (given : Option (List ℕ)) (seed : ℕ) (plan : PlanView) : Type 0 where
  pub coefficients : plan.gamma ≡ gamma_from given seed plan.limits.depth
  pub depth_limit : plan.limits.depth ≤ hash_depth

-- The strand of this pedigree draws this number, in a run of the plan that reaches it, and in a replay of it, also
-- after a fault.
pub record IsDrawn (plan : PlanView) (j : List ℕ) (n : ℕ) : Type 0 where
  pub strand : n ≡ drawn plan j
  pub event : (m : ℕ) → Contains (elision plan).items (Draw j m) → n ≡ m
  pub replayed : (found : Strand) (m : ℕ) → strand_at plan j ≡ FoundStrand found → Contains found.events (Draw j m) → n ≡ m

-- Number i of a stream is the draw of the strand i ranks later, with the same list or seed and as many rounds, at each
-- depth that the strand is within.
abbrev pub StreamsAreDraws : Type 0
StreamsAreDraws =
    (given : Option (List ℕ)) (seed : ℕ) (plan : PlanView) (j : List ℕ) (count i : ℕ) → IsPlanBy given seed plan → i < count → length (later j i) ≤ plan.limits.depth →
    IsDrawn plan (later j i) (slice_index (stream (gamma_from given seed hash_depth) j count plan.rounds) i)

-- A simulation has one report.
abbrev pub SimulationsAreOne : Type 0
SimulationsAreOne =
    (plan : PlanView) (workers number : ℕ) (told other : Report) → IsSimReport plan workers number told → IsSimReport plan workers number other → told ≡ other
