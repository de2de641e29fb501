-- The pieces of which a canonical text is put together: words, names, numbers, spaces.
use Rattle.std.proofs.Common.{◌≡◌, ℕ, zero, suc, ◌+◌, ◌*◌, ◌-◌, ◌<◌, ◌≤◌, ◌^◌, List, [], ◌∷◌, ◌++◌, length, codes, Option, Some, None, Bool, true, false, not, nat_eq, ◌&&◌, ◌||◌, if◌then◌else◌, refl, sym, ap, ◌∙◌, subst, arith}
use Rattle.std.specs.Prelude.{unwrap_or, bytes_eq}
use Rattle.std.specs.Fmt as fmt
use Rattle.std.specs.List.{list_all}
use Rattle.std.specs.Char.{is_ascii_digit}
use Rattle.std.specs.Str.{all_ascii_digits}
use Rattle.std.specs.Str.Parse.{digits_value, AllDigits}
use Rattle.std.proofs.lemmas.Fmt.{decimal_is_IsNumeral}
use Rattle.std.proofs.lemmas.Str.Parse.{IsNumeralModel, IsDigitsTest, numerals_by_fold, tells_digits, digit_from_value}
use Rattle.std.proofs.lemmas.Bool.Decides.{nat_tests}
use Rattle.script_tokens.specs.declared.token.Word.{Word}
use Rattle.script_tokens.specs.declared.token.Word.TheVariants as word
use Rattle.script_tokens.specs.Word.{Spelling, keywords, symbols, word_spelled, is_letter, is_name_byte, is_name, is_number, word_of}
use Rattle.script_tokens.proofs.Longest.{word_of-letter, word_of-digit}
use Rattle.script_grammar.specs.Grammar.{Terminal, tok, decimal}
use Rattle.script_print.proofs.Cutting.{IsModest, starts}
use Rattle.script_print.proofs.Forms.{Forms, Then, and_then, IsToken, IsNothing, nothing, then_, weaken, calm, no_arrow, any, anything, a_blank, token_before, is_fixed, fixed_is_modest, symbol, word_before}
use Rattle.script_tokens.specs.declared.version.Version.{Version}
use Rattle.script_tokens.specs.declared.version.Version.TheVariants.{One, Two}

pub nothing_after : {D : List Terminal → List Terminal → Type 0} (us ts : List Terminal) → Then D IsNothing us ts → D us ts
nothing_after us ts (and_then d nothing) = d

pub nothing_before : {D : List Terminal → List Terminal → Type 0} (us ts : List Terminal) → Then IsNothing D us ts → D us ts
nothing_before us ts (and_then nothing d) = d

-- A fixed word of both versions is one of each. (The keywords of a version are known once the version is.)
pub in_each : (version : Version) (w : Word) (text : List ℕ) → word_of One text ≡ Some w → word_of Two text ≡ Some w → word_of version text ≡ Some w
in_each One w text e f = e
in_each Two w text e f = f

-- a word and a space
pub word_space : {version : Version} (w : Word) (text : List ℕ) → is_fixed w ≡ true → word_of version text ≡ Some w → word_of version (text ++ 32 ∷ []) ≡ None → Forms version (text ++ 32 ∷ []) any (IsToken w text)
word_space w text h e none = weaken (then_ (word_before 32 w text h e none) (a_blank 32 refl) (λ r s. refl)) nothing_after

-- a space, a word, and a space
pub spaced_word : {version : Version} (w : Word) (text : List ℕ) → is_fixed w ≡ true → word_of version text ≡ Some w → word_of version (text ++ 32 ∷ []) ≡ None → Forms version ((32 ∷ []) ++ text ++ (32 ∷ [])) any (IsToken w text)
spaced_word w text h e none = weaken (then_ (weaken (then_ (a_blank 32 refl) (word_before 32 w text h e none) (λ r s. anything (text ++ r))) nothing_before) (a_blank 32 refl) (λ r s. refl)) nothing_after

-- Minuses.

minus_goes_on : (version : Version) (b : ℕ) → no_arrow b ≡ true → word_of version (codes "-" ++ b ∷ []) ≡ None
minus_goes_on version b h = go (nat_eq 62 b) refl h
  where
    go : (c : Bool) → nat_eq 62 b ≡ c → not (nat_eq 62 b) ≡ true → word_of version (codes "-" ++ b ∷ []) ≡ None
    go true e h = let f = ap not e in absurd cc
    go false e h = ap (λ z. if z && true then Some word.Arrow else None) e

pub minus : {version : Version} → Forms version (codes "-") no_arrow (IsToken word.Minus (codes "-"))
minus {version = version} = token_before word.Minus (codes "-") no_arrow refl (minus_goes_on version) (λ at. record { number = λ e. absurd cc; name = λ e. absurd cc })

-- Names.

spelled_fixed : (table : List Spelling) (text : List ℕ) (w : Word) → list_all (λ s. is_fixed s.1) table ≡ true → word_spelled table text ≡ Some w → is_fixed w ≡ true
spelled_fixed [] text w h e = absurd cc
spelled_fixed (s ∷ ss) text w h e = go (bytes_eq s.0 text) (is_fixed s.1) refl h e (spelled_fixed ss text w)
  where
    go : (same fixed : Bool) → is_fixed s.1 ≡ fixed → (fixed && list_all (λ s. is_fixed s.1) ss) ≡ true → (if same then Some s.1 else word_spelled ss text) ≡ Some w →
        (list_all (λ s. is_fixed s.1) ss ≡ true → word_spelled ss text ≡ Some w → is_fixed w ≡ true) → is_fixed w ≡ true
    go true true f h e after = let same : s.1 ≡ w = cc in ap is_fixed (sym same) ∙ f
    go false true f h e after = after h e
    go same false f h e after = absurd cc

pub name_is : (version : Version) (text : List ℕ) → word_of version text ≡ Some word.Name → is_name text ≡ true
name_is version text e = go (is_name text) (is_number text) e
  where
    go : (x y : Bool) → (if x then Some (unwrap_or (word_spelled (keywords version) text) word.Name) else if y then Some word.Number else word_spelled symbols text) ≡ Some word.Name → x ≡ true
    go true y e = refl
    go false true e = absurd cc
    go false false e = let fixed : is_fixed word.Name ≡ true = spelled_fixed symbols text word.Name refl e in absurd cc

all_but_last : (p : ℕ → Bool) (bs : List ℕ) (b : ℕ) → p b ≡ false → list_all p (bs ++ b ∷ []) ≡ false
all_but_last p [] b h = ap (λ z. z && true) h
all_but_last p (c ∷ cs) b h = go (p c) (all_but_last p cs b h)
  where
    go : (x : Bool) → list_all p (cs ++ b ∷ []) ≡ false → (x && list_all p (cs ++ b ∷ [])) ≡ false
    go true e = e
    go false e = refl

both : (x y : Bool) → (x && y) ≡ true → (x ≡ true) × (y ≡ true)
both true y e = (refl, e)
both false y e = absurd cc

not_true : (x : Bool) → not x ≡ true → x ≡ false
not_true true e = absurd cc
not_true false e = refl

name_goes_on : (version : Version) (text : List ℕ) → is_name text ≡ true → (b : ℕ) → calm b ≡ true → word_of version (text ++ b ∷ []) ≡ None
name_goes_on version [] h b s = absurd cc
name_goes_on version (c ∷ cs) h b s =
    word_of-letter version c (cs ++ b ∷ []) false (both (is_letter c) (list_all is_name_byte cs) h).0 (all_but_last is_name_byte cs b (not_true (is_name_byte b) s))

pub name_form : {version : Version} (text : List ℕ) → word_of version text ≡ Some word.Name → length text ≤ 32 → Forms version text calm (IsToken word.Name text)
name_form {version = version} text e short = token_before word.Name text calm e (name_goes_on version text (name_is version text e)) (λ at. record { number = λ e. absurd cc; name = λ e. short })

-- a keyword before what begins no name
pub keyword : {version : Version} (w : Word) (text : List ℕ) → is_fixed w ≡ true → word_of version text ≡ Some w → is_name text ≡ true → Forms version text calm (IsToken w text)
keyword {version = version} w text h e named = token_before w text calm e (name_goes_on version text named) (λ at. fixed_is_modest at w text h)

-- Numbers.

grammar_folds : IsNumeralModel (AllDigits 10) (decimal 0)
grammar_folds = numerals_by_fold (AllDigits 10) tells_digits decimal (record { empty = λ n. refl; more = λ n c cs h. ap (λ z. decimal z cs) (omega arith) })

all_digits : (ds : List ℕ) → AllDigits 10 ds → list_all is_ascii_digit ds ≡ true
all_digits [] d = refl
all_digits (c ∷ cs) d = let k = digit_from_value c d.0 in let one : is_ascii_digit c ≡ true = grind (arith, nat_tests) in ap (λ z. z && list_all is_ascii_digit cs) one ∙ all_digits cs d.1

no_letter : (c : ℕ) → is_ascii_digit c ≡ true → is_letter c ≡ false
no_letter c h = grind (arith, nat_tests)

no_digit : (b : ℕ) → is_name_byte b ≡ false → is_ascii_digit b ≡ false
no_digit b h = go (is_letter b) (is_ascii_digit b) h
  where
    go : (x y : Bool) → (x || y) ≡ false → y ≡ false
    go true y e = absurd cc
    go false y e = e

number_is : (version : Version) (ds : List ℕ) → 0 < length ds → list_all is_ascii_digit ds ≡ true → word_of version ds ≡ Some word.Number
number_is version [] some h = absurd (omega arith)
number_is version (c ∷ cs) some h =
    let k = both (is_ascii_digit c) (list_all is_ascii_digit cs) h in
    word_of-digit version c cs true (no_letter c k.0) k.0 k.1

number_goes_on : (version : Version) (ds : List ℕ) → 0 < length ds → list_all is_ascii_digit ds ≡ true → (b : ℕ) → calm b ≡ true → word_of version (ds ++ b ∷ []) ≡ None
number_goes_on version [] some h b s = absurd (omega arith)
number_goes_on version (c ∷ cs) some h b s =
    let k = both (is_ascii_digit c) (list_all is_ascii_digit cs) h in
    word_of-digit version c (cs ++ b ∷ []) false (no_letter c k.0) k.0 (all_but_last is_ascii_digit cs b (no_digit b (not_true (is_name_byte b) s)))

-- what is written is read
pub number_read : (n : ℕ) → n ≤ 9223372036854775807 → decimal 0 (fmt.decimal n) ≡ n
number_read n h = let k = decimal_is_IsNumeral n (omega arith) in grammar_folds.same (fmt.decimal n) k.0.1 ∙ k.1

pub number_form : {version : Version} (n : ℕ) → n ≤ 9223372036854775807 → Forms version (fmt.decimal n) calm (IsToken word.Number (fmt.decimal n))
number_form {version = version} n h =
    let k = decimal_is_IsNumeral n (omega arith) in
    let digits : list_all is_ascii_digit (fmt.decimal n) ≡ true = all_digits (fmt.decimal n) k.0.1 in
    token_before word.Number (fmt.decimal n) calm (number_is version (fmt.decimal n) k.0.0 digits) (number_goes_on version (fmt.decimal n) k.0.0 digits)
    (λ at. record { number = λ e. omega (arith, number_read n h); name = λ e. absurd cc })

-- a number begins with a digit
pub number_starts : (n : ℕ) (rest : List ℕ) → n ≤ 9223372036854775807 → starts no_arrow (fmt.decimal n ++ rest) ≡ true
number_starts n rest h = let k = decimal_is_IsNumeral n (omega arith) in go (fmt.decimal n) k.0.0 k.0.1
  where
    go : (ds : List ℕ) → 0 < length ds → AllDigits 10 ds → starts no_arrow (ds ++ rest) ≡ true
    go [] some d = absurd (omega arith)
    go (c ∷ cs) some d = let k = digit_from_value c d.0 in grind (arith, nat_tests)

-- and a name with a letter
pub name_starts : (version : Version) (text rest : List ℕ) → word_of version text ≡ Some word.Name → starts no_arrow (text ++ rest) ≡ true
name_starts version text rest e = go text (name_is version text e)
  where
    go : (bs : List ℕ) → is_name bs ≡ true → starts no_arrow (bs ++ rest) ≡ true
    go [] h = absurd cc
    go (c ∷ cs) h = let k = (both (is_letter c) (list_all is_name_byte cs) h).0 in grind (arith, nat_tests)
