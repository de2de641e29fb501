-- What `next_token` returns.
use Rattle.std.specs.Prelude.{◌≡◌, ℕ, List, Result, Ok, Err}
use Rattle.script_tokens.specs.declared.version.Version.{Version}
use Rattle.script_tokens.specs.declared.token.Token as token
use Rattle.script_tokens.specs.declared.lexing.TokenError.{TokenError}
use Rattle.script_tokens.specs.declared.lexing.TokenError.TheVariants.{NotAscii, NoToken}
use Rattle.script_tokens.specs.Lexing.{NextToken}
use Rattle.script_grammar.specs.FaultNumbers as fault
use Rattle.script_text.specs.declared.error.SyntaxError.{SyntaxError}
use Rattle.script_text.specs.declared.error.SyntaxError.TheVariants.{Bad}

-- why there is no next token, as an error
abbrev pub error_of : TokenError → SyntaxError
error_of (NotAscii at) = Bad fault.not_ascii at
error_of (NoToken at) = Bad fault.unexpected_token at

abbrev pub next_answer : Result token.Token TokenError → Result token.Token SyntaxError
next_answer (Ok t) = Ok t
next_answer (Err token_error) = Err (error_of token_error)

-- the next token of a version from an offset on, or the error
abbrev pub NextAnswer : Version → List ℕ → ℕ → Result token.Token SyntaxError → Type 0
NextAnswer version bytes from result = (next : Result token.Token TokenError) × NextToken version bytes from next × (result ≡ next_answer next)
