-- Every text is cut into lexemes.
use Rattle.std.proofs.Common.{◌≡◌, ℕ, zero, suc, ◌+◌, ◌-◌, ◌<◌, ◌≤◌, ◌⊎◌, List, [], ◌∷◌, length, take, drop, Option, Some, None, Bool, true, false, Result, Ok, Err, refl, sym, subst, arith, add-zero, inl, inr}
use Rattle.std.specs.List.{prefix_len}
use Rattle.std.specs.Char.{is_ascii_digit}
use Rattle.std.proofs.lemmas.Bool.{cases_lt}
use Rattle.std.proofs.lemmas.List.{length-drop}
use Rattle.script_tokens.specs.declared.version.Version.{Version}
use Rattle.script_tokens.specs.declared.token.Word.{Word}
use Rattle.script_tokens.specs.declared.token.Word.TheVariants.{Number}
use Rattle.script_tokens.specs.declared.token.Lexeme.{Lexeme}
use Rattle.script_tokens.specs.declared.lexing.LexEnd.{LexEnd}
use Rattle.script_tokens.specs.declared.lexing.LexEnd.TheVariants.{End, NotAscii, NoToken}
use Rattle.script_tokens.specs.Word.{symbols, word_spelled, is_letter, is_name_byte}
use Rattle.script_tokens.specs.Lexing.{gap_length, Fronts, LexemeAt, token, the_end, not_ascii, no_token, Comes, Lexes, stops, goes_on, lexeme}
use Rattle.script_tokens.specs.Laws.{EveryTextIsCut}
use Rattle.script_tokens.proofs.Longest.{keyword_or_name, letter_longest, digit_longest, long_symbol_at, long_longest, no_long, short_symbol_longest, no_front}
use Rattle.script_tokens.proofs.LexingLemmas.{IsNext, lexeme_is_next}

module _ (version : Version) where
  longest_of : (b : ℕ) (bs : List ℕ) → (front : Option (Word × ℕ)) × Fronts version (b ∷ bs) front
  longest_of b bs = by (is_letter b) (is_ascii_digit b) (long_symbol_at b bs) (word_spelled symbols (b ∷ [])) refl refl refl refl
    where
      by : (x y : Bool) (long short : Option Word) → is_letter b ≡ x → is_ascii_digit b ≡ y → long_symbol_at b bs ≡ long →
          word_spelled symbols (b ∷ []) ≡ short → (front : Option (Word × ℕ)) × Fronts version (b ∷ bs) front
      by true y long short e f g h =
          (Some (keyword_or_name version (take (suc (prefix_len is_name_byte bs)) (b ∷ bs)), suc (prefix_len is_name_byte bs)), letter_longest version b bs e)
      by false true long short e f g h = (Some (Number, suc (prefix_len is_ascii_digit bs)), digit_longest version b bs e f)
      by false false (Some w) short e f g h = (Some (w, 2), long_longest version b bs w e f (sym g))
      by false false None (Some w) e f g h = (Some (w, 1), short_symbol_longest version b bs w e f (no_long b bs (sym g)) h)
      by false false None None e f g h = (None, no_front version b bs e f (no_long b bs (sym g)) h)

  some_stands : (at : ℕ) (bytes : List ℕ) → (next : Result Lexeme LexEnd) × LexemeAt version at bytes next
  some_stands at [] = (Err End, the_end)
  some_stands at (b ∷ bs) = by (cases_lt b 128) (longest_of b bs)
    where
      by : (b < 128) ⊎ (128 ≤ b) → ((front : Option (Word × ℕ)) × Fronts version (b ∷ bs) front) → (next : Result Lexeme LexEnd) × LexemeAt version at (b ∷ bs) next
      by (inr h) x = (Err (NotAscii at), not_ascii h)
      by (inl h) (Some (w, n), x) = (Ok (lexeme w at (at + n)), token x)
      by (inl h) (None, x) = (Err (NoToken at), no_token h x)

  cut : (fuel from : ℕ) (left : List ℕ) → length left ≤ fuel → (ls : List Lexeme) × (stop : LexEnd) × Lexes version from left ls stop
  cut zero from [] h = ([], End, stops (subst (λ n. LexemeAt version n [] (Err End)) (sym (add-zero from)) the_end))
  cut zero from (b ∷ bs) h = absurd (omega arith)
  cut (suc fuel) from left h =
      by (some_stands (from + gap_length left) (drop (gap_length left) left)) (λ l shorter. cut fuel l.end (drop (l.end - from) left) shorter)
    where
      by : ((next : Result Lexeme LexEnd) × Comes version from left next) →
          ((l : Lexeme) → length (drop (l.end - from) left) ≤ fuel → (ls : List Lexeme) × (stop : LexEnd) × Lexes version l.end (drop (l.end - from) left) ls stop) →
          (ls : List Lexeme) × (stop : LexEnd) × Lexes version from left ls stop
      by (Err stop, c) after = ([], stop, stops c)
      by (Ok l, c) after =
          let n : IsNext version from left l = lexeme_is_next version from left l c in
          let rest : length (drop (l.end - from) left) ≡ length left - (l.end - from) = length-drop (l.end - from) left in
          let found : (ls : List Lexeme) × (stop : LexEnd) × Lexes version l.end (drop (l.end - from) left) ls stop =
          after l (omega (arith, n.after, n.below, n.within)) in
          (l ∷ found.0, found.1, goes_on c found.2)

pub every_text : EveryTextIsCut
every_text version from left = cut version (length left) from left (omega arith)
