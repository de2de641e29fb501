-- The tokens of a text are of its version.
use Rattle.std.proofs.Common.{◌≡◌, ℕ, List, [], ◌∷◌, Bool, true, false, not, ◌&&◌, if◌then◌else◌, drop, refl}
use Rattle.std.specs.List.{list_all}
use Rattle.script_tokens.specs.declared.version.Version.{Version}
use Rattle.script_tokens.specs.declared.version.Version.TheVariants.{One, Two}
use Rattle.script_tokens.specs.declared.token.Lexeme.{Lexeme}
use Rattle.script_tokens.specs.declared.lexing.LexEnd.{LexEnd}
use Rattle.script_tokens.specs.Version.{begins_at}
use Rattle.script_tokens.specs.Word.{is_scope}
use Rattle.script_tokens.specs.Lexing.{IsLexed, Lexes}
use Rattle.script_tokens.proofs.Versions.{one_has_no_scope}
use Rattle.script_grammar.specs.Grammar.{has_scope, AreOf}
use Rattle.script_grammar.specs.Text.{tokens_of}

tokens_plain : (bytes : List ℕ) (ls : List Lexeme) → list_all (λ l. not (is_scope l.word)) ls ≡ true → has_scope (tokens_of bytes ls) ≡ false
tokens_plain bytes [] e = refl
tokens_plain bytes (l ∷ ls) e = go (is_scope l.word) e (tokens_plain bytes ls)
  where
    go : (b : Bool) → (not b && list_all (λ l. not (is_scope l.word)) ls) ≡ true → (list_all (λ l. not (is_scope l.word)) ls ≡ true → has_scope (tokens_of bytes ls) ≡ false) →
        (if b then true else has_scope (tokens_of bytes ls)) ≡ false
    go true f after = cc
    go false f after = after f

tokens_are_of : (version : Version) (bytes : List ℕ) (from : ℕ) (left : List ℕ) (ls : List Lexeme) (stop : LexEnd) → Lexes version from left ls stop → AreOf version (tokens_of bytes ls)
tokens_are_of One bytes from left ls stop x = tokens_plain bytes ls (one_has_no_scope from left ls stop x)
tokens_are_of Two bytes from left ls stop x = tt

pub are_of_cut : (bytes : List ℕ) (version : Version) (ls : List Lexeme) (stop : LexEnd) → IsLexed bytes version ls stop → AreOf version (tokens_of bytes ls)
are_of_cut bytes version ls stop x = tokens_are_of version bytes (begins_at version) (drop (begins_at version) bytes) ls stop x.cut
