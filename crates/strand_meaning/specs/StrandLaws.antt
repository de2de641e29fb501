-- The laws of strands. Each is the contract of a function of the module `laws`.
use Rattle.std.specs.Prelude.{◌≡◌, ℕ, List, Option, Some, None, Result, Ok, Err, Contains, if◌then◌else◌}
use Rattle.std.specs.Str.{bytes_eq}
use Rattle.ped_path.specs.Path.{IsBefore}
use Rattle.serial_meaning.specs.Plan.{PlanView, drawn}
use Rattle.serial_meaning.specs.Eval.{Evaluation, elision}
use Rattle.serial_meaning.specs.declared.value.Value.{Value}
use Rattle.serial_meaning.specs.declared.event.Event.TheVariants.{Draw}
use Rattle.serial_meaning.specs.declared.event.Fault.{Fault}
use Rattle.strand_meaning.specs.Strands.{events_at, Strand, FoundStrand, strand_at}

-- No fault ended it before this pedigree: it has none, or its fault is there or after it.
abbrev pub IsWholeUpTo : List ℕ → Result (List Value) Fault → Type 0
IsWholeUpTo j (Ok vs) = Unit {0}
IsWholeUpTo j (Err f) = IsBefore f.at j → ⊥

-- its fault, if that is at this pedigree
abbrev pub fault_at : List ℕ → Result (List Value) Fault → Option Fault
fault_at j (Ok vs) = None
fault_at j (Err f) = if bytes_eq f.at j then Some f else None

-- the events of a pedigree in an evaluation, in order, and the evaluation's fault, if that is there
abbrev pub strand_in : List ℕ → Evaluation → Strand
strand_in j r = record { events = events_at j r.items; fault = fault_at j r.ending }

-- Where no fault ends the elision before a pedigree, the strand there, if there is one, is what the elision has of that pedigree.
abbrev pub StrandsAreTheElisions : Type 0
StrandsAreTheElisions =
    (plan : PlanView) (j : List ℕ) (strand : Strand) → IsWholeUpTo j (elision plan).ending → strand_at plan j ≡ FoundStrand strand →
    strand ≡ strand_in j (elision plan)

-- What a strand of the open tree draws, before a fault or after one, is DotMix of its pedigree.
abbrev pub StrandsDrawDotMix : Type 0
StrandsDrawDotMix =
    (plan : PlanView) (j k : List ℕ) (n : ℕ) (strand : Strand) → strand_at plan j ≡ FoundStrand strand → Contains strand.events (Draw k n) → (k ≡ j) × (n ≡ drawn plan j)
