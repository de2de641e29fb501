-- What it means that a word is missing before the token at which a parser stops.
use Rattle.std.specs.Prelude.{◌+◌, ◌<◌, ◌⊎◌, ◌++◌, ℕ, List, codes, drop, length, take}
use Rattle.script_grammar.specs.Text.{SyntaxFault, Text}
use Rattle.script_grammar.specs.declared.tree.Script.{Script}

-- the text with a word inserted before byte `at`, with a blank on each side
abbrev pub with_word : List ℕ → ℕ → List ℕ → List ℕ
with_word text at word = take at text ++ codes " " ++ word ++ codes " " ++ drop at text

-- With the word the text is a script, or its first fault comes after the token that was at `at`.
abbrev pub GoesOn : List ℕ → ℕ → List ℕ → Type 0
GoesOn text at word = ((tree : Script) × Text (with_word text at word) tree)
    ⊎ ((number place : ℕ) × SyntaxFault (with_word text at word) number place × (at + length word + 2 < place))
