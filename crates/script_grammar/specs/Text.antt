-- What a text means: its script, or its first fault.
use Rattle.std.specs.Prelude.{ℕ, ◌≤◌, List, [], length, map}
use Rattle.script_tokens.specs.declared.token.Lexeme.{Lexeme}
use Rattle.script_tokens.specs.declared.lexing.TheConstants.{MAX_BYTES}
use Rattle.script_tokens.specs.declared.lexing.LexEnd.{LexEnd}
use Rattle.script_tokens.specs.declared.lexing.LexEnd.TheVariants.{End}
use Rattle.script_tokens.specs.Version.{version_of}
use Rattle.script_tokens.specs.Lexing.{IsLexed, text_of}
use Rattle.script_grammar.specs.declared.tree.Script.{Script}
use Rattle.script_grammar.specs.Grammar.{Terminal, tok}
use Rattle.script_grammar.specs.Fault.{FaultAfter, IsProgram}

-- a lexeme with its bytes
abbrev pub token_of : List ℕ → Lexeme → Terminal
token_of bytes l = tok l.start l.word (text_of bytes l)

abbrev pub tokens_of : List ℕ → List Lexeme → List Terminal
tokens_of bytes ls = map (token_of bytes) ls

-- The bytes are the text of this script: they are of its version, the tokens after the version line reach to the end of the text,
-- and they are the script, within the limits. Offsets are those in the bytes.
pub record Text (bytes : List ℕ) (script : Script) : Type 0 where
  pub lexemes : List Lexeme
  pub cut : IsLexed bytes script.version lexemes End
  pub program : IsProgram script.version (tokens_of bytes lexemes) script.functions

-- some text of at most a mebibyte is the script's: what a parse can return
pub record IsOfText (script : Script) : Type 0 where
  pub bytes : List ℕ
  pub size : length bytes ≤ MAX_BYTES
  pub text : Text bytes script

-- the first fault of the bytes, its number and its offset
pub record SyntaxFault (bytes : List ℕ) (number at : ℕ) : Type 0 where
  pub lexemes : List Lexeme
  pub stop : LexEnd
  pub cut : IsLexed bytes (version_of bytes) lexemes stop
  pub fault : FaultAfter (version_of bytes) (record { end = length bytes; stop = stop }) [] (tokens_of bytes lexemes) number at

abbrev pub FunctionsAreFew : Type 0
FunctionsAreFew = (script : Script) → IsOfText script → length script.functions ≤ 1024
