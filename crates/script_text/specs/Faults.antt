-- All faults of a text, each defined without the others.
use Rattle.std.specs.Prelude.{◌≡◌, ℕ, ◌≤◌, List, ◌∷◌, ◌++◌, length, Some, slice_get}
use Rattle.script_tokens.specs.declared.token.Lexeme.{Lexeme}
use Rattle.script_tokens.specs.declared.lexing.LexEnd.{LexEnd}
use Rattle.script_tokens.specs.declared.lexing.LexEnd.TheVariants.{End, NoToken}
use Rattle.script_tokens.specs.Version.{version_of}
use Rattle.script_tokens.specs.Lexing.{IsLexed}
use Rattle.script_grammar.specs.declared.tree.Function.{Function}
use Rattle.script_grammar.specs.Grammar.{Terminal, IsScriptOf, IsViable}
use Rattle.script_grammar.specs.Fault.{IsFault}
use Rattle.script_grammar.specs.FaultNumbers as fault
use Rattle.script_grammar.specs.Text.{tokens_of}

-- the text is cut into these tokens, and they end for this reason
pub record HasTokens (bytes : List ℕ) (tokens : List Terminal) (stop : LexEnd) : Type 0 where
  pub lexemes : List Lexeme
  pub cut : IsLexed bytes (version_of bytes) lexemes stop
  pub same : tokens_of bytes lexemes ≡ tokens

-- The text has a fault of this number at this offset, whatever else is wrong with it: a byte from 128 on, also in a comment; a byte
-- with which no token, blank or comment begins; a token with which the ones up to it begin no script, or one that is expected and
-- breaks a limit; or the end, where the tokens begin a script and aren't one.
pub data HasFault (bytes : List ℕ) : (number : ℕ) → (at : ℕ) → Type 0 where
  not_ascii : {at b : ℕ} → slice_get bytes at ≡ Some b → 128 ≤ b → HasFault bytes fault.not_ascii at
  no_token : {at : ℕ} {tokens : List Terminal} → HasTokens bytes tokens (NoToken at) → HasFault bytes fault.unexpected_token at
  of_token : {number : ℕ} {before : List Terminal} {t : Terminal} (after : List Terminal) {stop : LexEnd} →
      HasTokens bytes (before ++ t ∷ after) stop → IsFault (version_of bytes) before t number → HasFault bytes number t.at
  unexpected_end : {tokens : List Terminal} → HasTokens bytes tokens End → IsViable (version_of bytes) tokens →
      ((functions : List Function) → IsScriptOf (version_of bytes) tokens functions → ⊥) → HasFault bytes fault.unexpected_end (length bytes)

-- It is at the first offset at which the text has a fault, and has the least number of those there.
pub record IsFirstFault (bytes : List ℕ) (number at : ℕ) : Type 0 where
  pub has : HasFault bytes number at
  pub first : (n place : ℕ) → HasFault bytes n place → at ≤ place
  pub least : (n : ℕ) → HasFault bytes n at → number ≤ n
