-- The lines that follow a line on faulty words.
use Rattle.std.specs.Prelude.{ℕ, Option, Some, None, List, ◌++◌, codes, decimal, length, map, min, take}
use Rattle.script_excerpt.specs.Excerpts.{shown}

-- the part of a word that is shown: 72 bytes at most
abbrev pub shown_word : List ℕ → List ℕ
shown_word word = map shown (take (min (length word) 72) word)

-- a word with its index
abbrev pub word_line : ℕ → List ℕ → List ℕ
word_line at word = codes "word " ++ decimal at ++ codes " is " ++ shown_word word ++ codes "\n"

-- how to ask for a command's help, or for the program's
abbrev pub try_line : Option (List ℕ) → List ℕ
try_line (Some command) = codes "try: pedrun " ++ command ++ codes " --help\n"
try_line None = codes "try: pedrun --help\n"
