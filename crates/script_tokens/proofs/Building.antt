-- Rules by which the lexemes of a text that is known in parts are found: a token is the longest where one more byte makes none,
-- a blank in front moves the lexemes by one, and a token in front is the first lexeme.
use Rattle.std.proofs.Common.{◌≡◌, ℕ, zero, suc, ◌+◌, ◌-◌, ◌<◌, ◌≤◌, List, [], ◌∷◌, ◌++◌, length, take, drop, Option, Some, None, Bool, true, false, ◌&&◌, ◌||◌, nat_eq, Result, Ok, Err, refl, sym, ap, ◌∙◌, subst, arith, add-zero, if◌then◌else◌}
use Rattle.std.specs.List.{list_all}
use Rattle.std.specs.Char.{is_ascii_digit}
use Rattle.std.proofs.Math.Seq.{drop-append_seam}
use Rattle.std.proofs.lemmas.Bool.Decides.{nat_tests}
use Rattle.script_tokens.specs.declared.version.Version.{Version}
use Rattle.script_tokens.specs.declared.token.Word.{Word}
use Rattle.script_tokens.specs.declared.token.Lexeme.{Lexeme}
use Rattle.script_tokens.specs.declared.lexing.LexEnd.{LexEnd}
use Rattle.script_tokens.specs.Word.{symbols, is_letter, is_name_byte, word_of}
use Rattle.script_tokens.specs.Lexing.{is_blank, gap_length, comment_length, IsLongest, LexemeAt, token, Comes, Lexes, stops, goes_on, lexeme}
use Rattle.script_tokens.specs.Laws.{OneMoreByteDecides}
use Rattle.script_tokens.proofs.Longest.{word_of-letter, word_of-digit, word_of-other, no_long_symbol, word_spelled-none, first_passes}
use Rattle.script_tokens.proofs.LexingLemmas.{IsNext, lexeme_is_next}

-- what fails on a front fails on each longer front
all_fails : (p : ℕ → Bool) (bs : List ℕ) (i j : ℕ) → i ≤ j → list_all p (take i bs) ≡ false → list_all p (take j bs) ≡ false
all_fails p bs zero j h e = absurd cc
all_fails p bs (suc i) zero h e = absurd (omega arith)
all_fails p [] (suc i) (suc j) h e = e
all_fails p (b ∷ bs) (suc i) (suc j) h e = go (p b) e (all_fails p bs i j (omega arith))
  where
    go : (c : Bool) → (c && list_all p (take i bs)) ≡ false → (list_all p (take i bs) ≡ false → list_all p (take j bs) ≡ false) → (c && list_all p (take j bs)) ≡ false
    go true f after = after f
    go false f after = refl

fails : (c : Bool) (w : Word) (r : Option Word) → r ≡ (if c then Some w else None) → r ≡ None → c ≡ false
fails true w r e f = cc
fails false w r e f = refl

module _ (version : Version) where
  one_more_letter : (b : ℕ) (bs : List ℕ) (k m : ℕ) → is_letter b ≡ true → word_of version (b ∷ take (suc k) bs) ≡ None → k < m → word_of version (b ∷ take m bs) ≡ None
  one_more_letter b bs k m e none h =
      let short : list_all is_name_byte (take (suc k) bs) ≡ false = fails _ _ _ (word_of-letter version b (take (suc k) bs) _ e refl) none in
      word_of-letter version b (take m bs) false e (all_fails is_name_byte bs (suc k) m h short)

  one_more_digit : (b : ℕ) (bs : List ℕ) (k m : ℕ) → is_letter b ≡ false → is_ascii_digit b ≡ true → word_of version (b ∷ take (suc k) bs) ≡ None → k < m → word_of version (b ∷ take m bs) ≡ None
  one_more_digit b bs k m f e none h =
      let short : list_all is_ascii_digit (take (suc k) bs) ≡ false = fails _ _ _ (word_of-digit version b (take (suc k) bs) _ f e refl) none in
      word_of-digit version b (take m bs) false f e (all_fails is_ascii_digit bs (suc k) m h short)

  one_more_other : (b : ℕ) (bs : List ℕ) (k m : ℕ) → is_letter b ≡ false → is_ascii_digit b ≡ false → word_of version (b ∷ take (suc k) bs) ≡ None →
      k < m → m ≤ length bs → word_of version (b ∷ take m bs) ≡ None
  one_more_other b bs zero zero f g none h l = absurd (omega arith)
  one_more_other b bs zero (suc zero) f g none h l = none
  one_more_other b [] zero (suc (suc m)) f g none h l = absurd (omega arith)
  one_more_other b (c ∷ []) zero (suc (suc m)) f g none h l = absurd (omega arith)
  one_more_other b (c ∷ d ∷ bs) zero (suc (suc m)) f g none h l =
      word_of-other version b (c ∷ d ∷ take m bs) f g ∙ no_long_symbol (b ∷ c ∷ d ∷ take m bs) (omega arith)
  one_more_other b bs (suc k) zero f g none h l = absurd (omega arith)
  one_more_other b bs (suc k) (suc zero) f g none h l = absurd (omega arith)
  one_more_other b [] (suc k) (suc (suc m)) f g none h l = absurd (omega arith)
  one_more_other b (c ∷ []) (suc k) (suc (suc m)) f g none h l = absurd (omega arith)
  one_more_other b (c ∷ d ∷ bs) (suc k) (suc (suc m)) f g none h l =
      word_of-other version b (c ∷ d ∷ take m bs) f g ∙ no_long_symbol (b ∷ c ∷ d ∷ take m bs) (omega arith)

  pub one_more_byte : (bytes : List ℕ) (n : ℕ) (w : Word) → n ≤ length bytes → word_of version (take n bytes) ≡ Some w → (n < length bytes → word_of version (take (suc n) bytes) ≡ None) → IsLongest version bytes n w
  one_more_byte bytes zero w l e none = let no : word_of version [] ≡ None = refl in absurd cc
  one_more_byte [] (suc k) w l e none = absurd (omega arith)
  one_more_byte (b ∷ bs) (suc k) w l e none = record { within = l; token = e; longest = λ m. longer m }
    where
      by : (c d : Bool) (m : ℕ) → is_letter b ≡ c → is_ascii_digit b ≡ d → word_of version (b ∷ take (suc k) bs) ≡ None → k < m → m ≤ length bs → word_of version (b ∷ take m bs) ≡ None
      by true d m f g short h r = one_more_letter b bs k m f short h
      by false true m f g short h r = one_more_digit b bs k m f g short h
      by false false m f g short h r = one_more_other b bs k m f g short h r

      longer : (m : ℕ) → suc k < m → m ≤ length (b ∷ bs) → word_of version (take m (b ∷ bs)) ≡ None
      longer zero h r = absurd (omega arith)
      longer (suc m) h r = by (is_letter b) (is_ascii_digit b) m refl refl (none (omega arith)) (omega arith) (omega arith)

  -- a token begins with no blank and no `#`
  abbrev begins_gap : ℕ → Bool
  begins_gap b = is_blank b || nat_eq b 35

  word_of-gap : (b : ℕ) (bs : List ℕ) → begins_gap b ≡ true → word_of version (b ∷ bs) ≡ None
  word_of-gap b bs h =
      word_of-other version b bs (grind (arith, nat_tests)) (grind (arith, nat_tests)) ∙ word_spelled-none (first_passes begins_gap) symbols (b ∷ bs) refl h

  no_gap_before : (b : ℕ) (bs : List ℕ) → begins_gap b ≡ false → gap_length (b ∷ bs) ≡ 0
  no_gap_before b bs h = go (is_blank b) (nat_eq b 35) _ _ h
    where
      go : (x y : Bool) (n m : ℕ) → (x || y) ≡ false → (if x then suc n else if y then suc m else 0) ≡ 0
      go true y n m e = absurd cc
      go false true n m e = absurd cc
      go false false n m e = refl

  no_gap : (text rest : List ℕ) (w : Word) → IsLongest version (text ++ rest) (length text) w → gap_length (text ++ rest) ≡ 0
  no_gap [] rest w longest = let some = longest.token in let no : word_of version [] ≡ None = refl in absurd cc
  no_gap (b ∷ bs) rest w longest = no_gap_before b (bs ++ rest) (at (begins_gap b) refl)
    where
      at : (c : Bool) → begins_gap b ≡ c → c ≡ false
      at true e = let some = longest.token in let no = word_of-gap b (take (length bs) (bs ++ rest)) e in absurd cc
      at false e = refl

  comes_blank : (from b : ℕ) (bs : List ℕ) (r : Result Lexeme LexEnd) → is_blank b ≡ true → Comes version (suc from) bs r → Comes version from (b ∷ bs) r
  comes_blank from b bs r h c =
      let gap : gap_length (b ∷ bs) ≡ suc (gap_length bs) = ap (λ x. if x then suc (gap_length bs) else if nat_eq b 35 then suc (comment_length bs) else 0) h in
      let place : suc from + gap_length bs ≡ from + suc (gap_length bs) = omega arith in
      subst (λ n. LexemeAt version (from + n) (drop n (b ∷ bs)) r) (sym gap) (subst (λ n. LexemeAt version n (drop (gap_length bs) bs) r) place c)

  -- A token in front is the first lexeme. `rest` is what stands after it.
  pub lexes_token : (from : ℕ) (text rest : List ℕ) (word : Word) (ls : List Lexeme) (stop : LexEnd) →
      IsLongest version (text ++ rest) (length text) word → Lexes version (from + length text) rest ls stop →
      Lexes version from (text ++ rest) (lexeme word from (from + length text) ∷ ls) stop
  lexes_token from text rest word ls stop longest x =
      let gap : gap_length (text ++ rest) ≡ 0 = no_gap text rest word longest in
      let next : LexemeAt version from (text ++ rest) (Ok (lexeme word from (from + length text))) = token longest in
      let here : Comes version from (text ++ rest) (Ok (lexeme word from (from + length text))) =
      subst (λ n. LexemeAt version (from + n) (drop n (text ++ rest)) (Ok (lexeme word from (from + length text)))) (sym gap)
      (subst (λ n. LexemeAt version n (text ++ rest) (Ok (lexeme word from (from + length text)))) (sym (add-zero from)) next) in
      let skip : from + length text - from ≡ length text = omega arith in
      let left : drop (from + length text - from) (text ++ rest) ≡ rest =
      ap (λ n. drop n (text ++ rest)) skip ∙ drop-append_seam text rest in
      goes_on here (subst (λ z. Lexes version (from + length text) z ls stop) (sym left) x)

  -- a blank in front
  pub lexes_blank : {from b : ℕ} {bs : List ℕ} {ls : List Lexeme} {stop : LexEnd} →
      is_blank b ≡ true → Lexes version (suc from) bs ls stop → Lexes version from (b ∷ bs) ls stop
  lexes_blank {from} {b} {bs} h (stops {stop = stop} c) = stops (comes_blank from b bs (Err stop) h c)
  lexes_blank {from} {b} {bs} h (goes_on {l = l} {ls = ls} {stop = stop} c x) =
      let n : IsNext version (suc from) bs l = lexeme_is_next version (suc from) bs l c in
      let one : l.end - from ≡ suc (l.end - suc from) = omega (arith, n.after, n.below) in
      let left : drop (l.end - from) (b ∷ bs) ≡ drop (l.end - suc from) bs = ap (λ k. drop k (b ∷ bs)) one in
      goes_on (comes_blank from b bs (Ok l) h c) (subst (λ z. Lexes version l.end z ls stop) (sym left) x)

pub one_more_byte_decides : OneMoreByteDecides
one_more_byte_decides version bytes n w h e none = one_more_byte version bytes n w h e none
