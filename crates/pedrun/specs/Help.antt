-- Which words ask for help, and for which text.
use Rattle.std.specs.Prelude.{ℕ, Bool, false, if◌then◌else◌, Option, Some, None, List, [], ◌∷◌, codes}
use Rattle.std.specs.Str.{bytes_eq}
use Rattle.pedrun.specs.declared.help.Topic.{Topic}
use Rattle.pedrun.specs.declared.help.Topic.TheVariants.{Program, Version, Run, Serial, Sim, Check, Fmt, Replay, Hash, Gen, Stream, Span, Batch}

abbrev pub topic_of_command : List ℕ → Option Topic
topic_of_command word =
    if bytes_eq word (codes "run") then Some Run
    else if bytes_eq word (codes "serial") then Some Serial
    else if bytes_eq word (codes "sim") then Some Sim
    else if bytes_eq word (codes "check") then Some Check
    else if bytes_eq word (codes "fmt") then Some Fmt
    else if bytes_eq word (codes "replay") then Some Replay
    else if bytes_eq word (codes "hash") then Some Hash
    else if bytes_eq word (codes "gen") then Some Gen
    else if bytes_eq word (codes "stream") then Some Stream
    else if bytes_eq word (codes "span") then Some Span
    else if bytes_eq word (codes "batch") then Some Batch
    else None

-- the words after a command are `--help` alone, which asks for its help
abbrev pub asks_help : List (List ℕ) → Bool
asks_help (word ∷ []) = bytes_eq word (codes "--help")
asks_help words = false

-- `--help` and `--version` count as the first word, `--help` also as the only word after a command
abbrev pub topic_of : List (List ℕ) → Option Topic
topic_of [] = None
topic_of (word ∷ words) =
    if bytes_eq word (codes "--help") then Some Program
    else if bytes_eq word (codes "--version") then Some Version
    else if asks_help words then topic_of_command word
    else None
