-- The first fault of a list of tokens.
--
-- A token is unexpected where no script of the version begins with the tokens before it and this one. Limits are judged only of a
-- token that is expected.
use Rattle.std.specs.Prelude.{◌≡◌, ℕ, suc, ◌<◌, ◌≤◌, ◌⊎◌, Bool, true, false, List, [], ◌∷◌, ◌++◌, length, slice_get, Some, if◌then◌else◌}
use Rattle.script_tokens.specs.declared.version.Version.{Version}
use Rattle.script_tokens.specs.declared.token.Word.{Word}
use Rattle.script_tokens.specs.declared.token.Word.TheVariants as word
use Rattle.script_tokens.specs.declared.lexing.LexEnd.{LexEnd}
use Rattle.script_tokens.specs.declared.lexing.LexEnd.TheVariants.{End, NotAscii, NoToken}
use Rattle.script_grammar.specs.declared.tree.Function.{Function}
use Rattle.script_grammar.specs.FaultNumbers as fault
use Rattle.script_grammar.specs.Grammar.{Terminal, IsScript, AreOf, IsScriptOf, IsViable, decimal}
use Rattle.script_grammar.specs.Nesting.{functions_nesting}

abbrev pub is_fn : Word → Bool
is_fn word.Fn = true
is_fn _ = false

-- each `fn` begins a function
abbrev pub functions_begun : List Terminal → ℕ
functions_begun [] = 0
functions_begun (t ∷ ts) = if is_fn t.word then suc (functions_begun ts) else functions_begun ts

-- in a script of the version that begins with these tokens and this one, it stands at nesting n
abbrev pub NestsAt : Version → List Terminal → Terminal → ℕ → Type 0
NestsAt version before t n =
    (more : List Terminal) × (functions : List Function) × AreOf version (before ++ t ∷ more) × (d : IsScript (before ++ t ∷ more) functions)
    × (slice_get (functions_nesting d 0) (length before) ≡ Some n)

-- the token after these breaks the limit whose fault has that number
pub data BreaksLimit (version : Version) (before : List Terminal) (t : Terminal) : ℕ → Type 0 where
  number_out_of_range : t.word ≡ word.Number → 9223372036854775807 < decimal 0 t.text → BreaksLimit version before t fault.number_out_of_range
  name_too_long : t.word ≡ word.Name → 32 < length t.text → BreaksLimit version before t fault.name_too_long
  nested_too_deep : {n : ℕ} → NestsAt version before t n → 64 < n → BreaksLimit version before t fault.nested_too_deep
  too_many_functions : t.word ≡ word.Fn → 1024 ≤ functions_begun before → BreaksLimit version before t fault.too_many_functions

-- the token after these is at fault: it is unexpected, or it breaks a limit
pub data IsFault (version : Version) (before : List Terminal) (t : Terminal) : ℕ → Type 0 where
  unexpected : (IsViable version (before ++ t ∷ []) → ⊥) → IsFault version before t fault.unexpected_token
  breaks_limit : {n : ℕ} → IsViable version (before ++ t ∷ []) → BreaksLimit version before t n → IsFault version before t n

-- where the tokens end in the text, and why there is no further one
pub record TextEnd : Type 0 where
  pub end : ℕ
  pub stop : LexEnd

-- The fault after the last token, its number and its offset: an unexpected end, where the text ends and the tokens aren't a script;
-- else the byte that ended the tokens.
abbrev pub FaultAtStop : Version → ℕ → LexEnd → List Terminal → ℕ → ℕ → Type 0
FaultAtStop version end End tokens number at = (number ≡ fault.unexpected_end) × (at ≡ end) × ((functions : List Function) → IsScriptOf version tokens functions → ⊥)
FaultAtStop version end (NotAscii place) tokens number at = (number ≡ fault.not_ascii) × (at ≡ place)
FaultAtStop version end (NoToken place) tokens number at = (number ≡ fault.unexpected_token) × (at ≡ place)

-- the first fault after the tokens `before`, its number and its offset
abbrev pub FaultAfter : Version → TextEnd → List Terminal → List Terminal → ℕ → ℕ → Type 0
FaultAfter version ending before [] number at = FaultAtStop version ending.end ending.stop before number at
FaultAfter version ending before (t ∷ ts) number at =
    (IsFault version before t number × (at ≡ t.at)) ⊎ (((n : ℕ) → IsFault version before t n → ⊥) × FaultAfter version ending (before ++ t ∷ []) ts number at)

-- no token after the tokens `before` breaks a limit
abbrev pub WithinAfter : Version → List Terminal → List Terminal → Type 0
WithinAfter version before [] = Unit {0}
WithinAfter version before (t ∷ ts) = ((n : ℕ) → BreaksLimit version before t n → ⊥) × WithinAfter version (before ++ t ∷ []) ts

-- the tokens are a script of the version with these functions, within the limits
pub record IsProgram (version : Version) (tokens : List Terminal) (functions : List Function) : Type 0 where
  pub of_version : AreOf version tokens
  pub derives : IsScript tokens functions
  pub within : WithinAfter version [] tokens
