-- The commands, the options of each, and what the value of an option must be.
use Rattle.std.specs.Prelude.{ℕ, ◌-◌, ◌^◌, Bool, if◌then◌else◌, ◌==◌, Option, Some, None, List, [], ◌∷◌, codes}
use Rattle.std.specs.List.{list_any}
use Rattle.std.specs.Str.{bytes_eq}
use Rattle.dotmix.specs.Draws.{most_rounds}
use Rattle.ped_gen.specs.declared.shape.Shape.{Shape}
use Rattle.ped_gen.specs.declared.shape.Shape.TheVariants as shape
use Rattle.serial_meaning.specs.Plan.{most_depth}
use Rattle.serial_meaning.specs.declared.plan.Show.{Show}
use Rattle.serial_meaning.specs.declared.plan.Show.TheVariants as show
use Rattle.ped_words.specs.declared.table.ValueType.{ValueType}
use Rattle.ped_words.specs.declared.table.ValueType.TheVariants as value_type
use Rattle.ped_words.specs.declared.table.Subcommand.{Subcommand}
use Rattle.ped_words.specs.declared.table.Subcommand.TheVariants as subcommand
use Rattle.ped_words.specs.declared.table.OptionName.{OptionName}
use Rattle.ped_words.specs.declared.table.OptionName.TheVariants as name

-- the entry for a word in a table
abbrev pub lookup : {X : Type 0} → List (List ℕ × X) → List ℕ → Option X
lookup [] word = None
lookup (row ∷ rows) word = if bytes_eq word row.0 then Some row.1 else lookup rows word

abbrev pub subcommand_of : List ℕ → Option Subcommand
subcommand_of word =
    lookup
    ((codes "run", subcommand.Run) ∷
    (codes "serial", subcommand.Serial) ∷
    (codes "sim", subcommand.Sim) ∷
    (codes "replay", subcommand.Replay) ∷
    (codes "hash", subcommand.Hash) ∷
    (codes "check", subcommand.Check) ∷
    (codes "fmt", subcommand.Fmt) ∷
    (codes "gen", subcommand.Gen) ∷
    (codes "stream", subcommand.Stream) ∷
    (codes "span", subcommand.Span) ∷
    (codes "batch", subcommand.Batch) ∷
    [])
    word

abbrev pub name_of : List ℕ → Option OptionName
name_of word =
    lookup
    ((codes "--seed", name.Seed) ∷
    (codes "--gamma", name.Gamma) ∷
    (codes "--depth", name.Depth) ∷
    (codes "--budget", name.Budget) ∷
    (codes "--workers", name.Workers) ∷
    (codes "--show", name.Show) ∷
    (codes "--number", name.Number) ∷
    (codes "--at", name.At) ∷
    (codes "--shape", name.Shape) ∷
    (codes "--size", name.Size) ∷
    (codes "--rounds", name.Rounds) ∷
    (codes "--count", name.Count) ∷
    (codes "--below", name.Below) ∷
    (codes "--seeds", name.Seeds) ∷
    [])
    word

abbrev pub options : Subcommand → List OptionName
options subcommand.Run = name.Seed ∷ name.Gamma ∷ name.Depth ∷ name.Budget ∷ name.Workers ∷ name.Show ∷ name.Rounds ∷ []
options subcommand.Serial = name.Seed ∷ name.Gamma ∷ name.Depth ∷ name.Budget ∷ name.Show ∷ name.Rounds ∷ []
options subcommand.Sim = name.Number ∷ name.Seed ∷ name.Gamma ∷ name.Depth ∷ name.Budget ∷ name.Workers ∷ name.Show ∷ name.Rounds ∷ []
options subcommand.Replay = name.At ∷ name.Seed ∷ name.Gamma ∷ name.Depth ∷ name.Budget ∷ name.Rounds ∷ []
options subcommand.Hash = name.At ∷ name.Seed ∷ name.Gamma ∷ name.Rounds ∷ []
options subcommand.Check = []
options subcommand.Fmt = []
options subcommand.Gen = name.Shape ∷ name.Size ∷ []
options subcommand.Stream = name.At ∷ name.Count ∷ name.Seed ∷ name.Gamma ∷ name.Rounds ∷ name.Below ∷ []
options subcommand.Span = name.Seed ∷ name.Gamma ∷ name.Depth ∷ name.Budget ∷ name.Rounds ∷ []
options subcommand.Batch = name.Seeds ∷ name.Depth ∷ name.Budget ∷ name.Workers ∷ name.Show ∷ name.Rounds ∷ []

-- a number for each option, by which options are compared
abbrev pub option_number : OptionName → ℕ
option_number name.Seed = 0
option_number name.Gamma = 1
option_number name.Depth = 2
option_number name.Budget = 3
option_number name.Workers = 4
option_number name.Show = 5
option_number name.Number = 6
option_number name.At = 7
option_number name.Shape = 8
option_number name.Size = 9
option_number name.Rounds = 10
option_number name.Count = 11
option_number name.Below = 12
option_number name.Seeds = 13

abbrev pub takes_option : Subcommand → OptionName → Bool
takes_option v n = list_any (λ m. option_number m == option_number n) (options v)

-- a stream has at most this many numbers
abbrev pub most_count : ℕ
most_count = 1048576

-- a batch has at most this many seeds
abbrev pub most_seeds : ℕ
most_seeds = 256

-- what the value of an option must be
abbrev pub value_type_of : OptionName → ValueType
value_type_of name.Seed = value_type.Number 0 (2 ^ 64 - 1)
value_type_of name.Gamma = value_type.Numbers None
value_type_of name.Depth = value_type.Number 1 most_depth
value_type_of name.Budget = value_type.Number 1 4294967295
value_type_of name.Workers = value_type.Number 1 64
value_type_of name.Show = value_type.Show
value_type_of name.Number = value_type.Number 0 (2 ^ 64 - 1)
value_type_of name.At = value_type.Pedigree
value_type_of name.Shape = value_type.Shape
value_type_of name.Size = value_type.Number 0 (2 ^ 64 - 1)
value_type_of name.Rounds = value_type.Number 0 most_rounds
value_type_of name.Count = value_type.Number 1 most_count
value_type_of name.Below = value_type.Number 1 (2 ^ 64 - 1)
value_type_of name.Seeds = value_type.Numbers (Some most_seeds)

abbrev pub show_of : List ℕ → Option Show
show_of word = lookup ((codes "plain", show.Plain) ∷ (codes "log", show.Log) ∷ []) word

abbrev pub shape_of : List ℕ → Option Shape
shape_of word = lookup ((codes "fib", shape.Fib) ∷ (codes "tree", shape.Tree) ∷ (codes "loop", shape.Loop) ∷ []) word
