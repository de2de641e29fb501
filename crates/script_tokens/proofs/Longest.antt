-- The longest token at the front of some bytes, by its first byte.
use Rattle.std.proofs.Common.{◌≡◌, ℕ, zero, suc, ◌+◌, ◌<◌, ◌≤◌, List, [], ◌∷◌, length, take, Option, Some, None, Bool, true, false, not, ◌&&◌, nat_lt, nat_le, if◌then◌else◌, refl, sym, ap, ◌∙◌, subst, arith, bytes_eq, cond}
use Rattle.std.proofs.Math.Numerals.{one-add}
use Rattle.std.specs.Prelude.{unwrap_or, option_and_then, slice_get}
use Rattle.std.specs.List.{list_all, prefix_len}
use Rattle.std.specs.Char.{is_ascii_digit}
use Rattle.std.proofs.lemmas.Slice.Eq.{bytes_eq-Decides}
use Rattle.std.proofs.lemmas.Bool.Decides.{nat_tests}
use Rattle.std.proofs.lemmas.List.Sums.{prefix_len-le-length}
use Rattle.script_tokens.specs.declared.version.Version.{Version}
use Rattle.script_tokens.specs.declared.token.Word.{Word}
use Rattle.script_tokens.specs.declared.token.Word.TheVariants.{Name, Number}
use Rattle.script_tokens.specs.Word.{Spelling, keywords, symbols, word_spelled, is_letter, is_name_byte, word_of}
use Rattle.script_tokens.specs.Lexing.{IsLongest, BeginsNoToken}

both : (x y : Bool) → (x && y) ≡ true → (x ≡ true) × (y ≡ true)
both true y e = (refl, e)
both false y e = cc

-- no spelling in the table is such a text
pub word_spelled-none : (is_such : List ℕ → Bool) (table : List Spelling) (text : List ℕ) →
    list_all (λ s. not (is_such s.0)) table ≡ true → is_such text ≡ true → word_spelled table text ≡ None
word_spelled-none q [] text none h = refl
word_spelled-none q (s ∷ ss) text none h = go (bytes_eq s.0 text) refl (word_spelled-none q ss text (both (not (q s.0)) _ none).1 h)
  where
    go : (same : Bool) → bytes_eq s.0 text ≡ same → word_spelled ss text ≡ None → (if same then Some s.1 else word_spelled ss text) ≡ None
    go true e after =
        let such : q s.0 ≡ true = ap q ((bytes_eq-Decides s.0 text).0 e) ∙ h in
        let other : not true ≡ true = sym (ap not such) ∙ (both (not (q s.0)) _ none).0 in
        cc
    go false e after = after

-- whether there is a first byte, and it passes
abbrev pub first_passes : (ℕ → Bool) → List ℕ → Bool
first_passes p [] = false
first_passes p (b ∷ bs) = p b

-- a run of bytes that pass, and one more
all_run : (p : ℕ → Bool) (bs : List ℕ) → list_all p (take (prefix_len p bs) bs) ≡ true
all_run p [] = refl
all_run p (b ∷ bs) = go (p b) refl (all_run p bs)
  where
    go : (c : Bool) → p b ≡ c → list_all p (take (prefix_len p bs) bs) ≡ true → list_all p (take (cond c (1 + prefix_len p bs) 0) (b ∷ bs)) ≡ true
    go true e after = rw one-add (ap (λ z. z && list_all p (take (prefix_len p bs) bs)) e ∙ after)
    go false e after = refl

past_run : (p : ℕ → Bool) (bs : List ℕ) (m : ℕ) → prefix_len p bs < m → m ≤ length bs → list_all p (take m bs) ≡ false
past_run p [] m h l = absurd (omega arith)
past_run p (b ∷ bs) zero h l = absurd (omega arith)
past_run p (b ∷ bs) (suc m) h l = go (p b) refl h (λ g. past_run p bs m g (omega arith))
  where
    go : (c : Bool) → p b ≡ c → cond c (1 + prefix_len p bs) 0 < suc m → (prefix_len p bs < m → list_all p (take m bs) ≡ false) → (p b && list_all p (take m bs)) ≡ false
    go true e g after = ap (λ z. z && list_all p (take m bs)) e ∙ after (omega arith)
    go false e g after = ap (λ z. z && list_all p (take m bs)) e

-- what a text is, by its first byte
abbrev choose : Bool → Bool → Option Word → Option Word → Option Word
choose name number keyword symbol = if name then keyword else if number then Some Number else symbol

chosen : (x y x' y' : Bool) (k s : Option Word) → x ≡ x' → y ≡ y' → choose x y k s ≡ choose x' y' k s
chosen x y x' y' k s e f = ap (λ z. choose z y k s) e ∙ ap (λ z. choose x' z k s) f

pub no_long_symbol : (text : List ℕ) → 2 < length text → word_spelled symbols text ≡ None
no_long_symbol text h = word_spelled-none (λ t. nat_lt 2 (length t)) symbols text refl (grind (arith, nat_tests))

-- the symbols that the first bytes are
abbrev pub NoLongSymbol : ℕ → List ℕ → Type 0
NoLongSymbol b bs = (c : ℕ) (cs : List ℕ) → bs ≡ c ∷ cs → word_spelled symbols (b ∷ c ∷ []) ≡ None

-- the symbol of the first byte and the next
abbrev pub long_symbol_at : ℕ → List ℕ → Option Word
long_symbol_at b bs = option_and_then (λ c. word_spelled symbols (b ∷ c ∷ [])) (slice_get bs 0)

pub no_long : (b : ℕ) (bs : List ℕ) → None ≡ long_symbol_at b bs → NoLongSymbol b bs
no_long b bs h c cs e = sym (subst (λ z. None ≡ long_symbol_at b z) e h)

module _ (version : Version) where
  abbrev pub keyword_or_name : List ℕ → Word
  keyword_or_name text = unwrap_or (word_spelled (keywords version) text) Name

  no_digit : (b : ℕ) → is_letter b ≡ true → is_ascii_digit b ≡ false
  no_digit b h = grind (arith, nat_tests)

  starts_and : (x : Bool) (y : Bool) (c : Bool) → x ≡ c → (x && y) ≡ (c && y)
  starts_and x y c e = ap (λ z. z && y) e

  pub word_of-letter : (b : ℕ) (bs : List ℕ) (c : Bool) → is_letter b ≡ true → list_all is_name_byte bs ≡ c →
      word_of version (b ∷ bs) ≡ (if c then Some (keyword_or_name (b ∷ bs)) else None)
  word_of-letter b bs c h e =
      chosen _ _ _ _ _ _ (starts_and (is_letter b) _ true h ∙ e) (starts_and (is_ascii_digit b) _ false (no_digit b h)) ∙ go c
    where
      go : (d : Bool) → choose d false (Some (keyword_or_name (b ∷ bs))) (word_spelled symbols (b ∷ bs)) ≡ (if d then Some (keyword_or_name (b ∷ bs)) else None)
      go true = refl
      go false = word_spelled-none (first_passes is_letter) symbols (b ∷ bs) refl h

  pub word_of-digit : (b : ℕ) (bs : List ℕ) (c : Bool) → is_letter b ≡ false → is_ascii_digit b ≡ true → list_all is_ascii_digit bs ≡ c →
      word_of version (b ∷ bs) ≡ (if c then Some Number else None)
  word_of-digit b bs c f h e =
      chosen _ _ _ _ _ _ (starts_and (is_letter b) _ false f) (starts_and (is_ascii_digit b) _ true h ∙ e) ∙ go c
    where
      go : (d : Bool) → choose false d (Some (keyword_or_name (b ∷ bs))) (word_spelled symbols (b ∷ bs)) ≡ (if d then Some Number else None)
      go true = refl
      go false = word_spelled-none (first_passes is_ascii_digit) symbols (b ∷ bs) refl h

  pub word_of-other : (b : ℕ) (bs : List ℕ) → is_letter b ≡ false → is_ascii_digit b ≡ false → word_of version (b ∷ bs) ≡ word_spelled symbols (b ∷ bs)
  word_of-other b bs f g = chosen _ _ _ _ _ _ (starts_and (is_letter b) _ false f) (starts_and (is_ascii_digit b) _ false g)

  -- no token begins with a byte from 128 on
  pub word_of-not_ascii : (b : ℕ) (bs : List ℕ) → 128 ≤ b → word_of version (b ∷ bs) ≡ None
  word_of-not_ascii b bs h =
      word_of-other b bs (grind (arith, nat_tests)) (grind (arith, nat_tests))
      ∙ word_spelled-none (first_passes (nat_le 128)) symbols (b ∷ bs) refl (grind (arith, nat_tests))

  -- the longest token, by its first byte
  pub letter_longest : (b : ℕ) (bs : List ℕ) → is_letter b ≡ true →
      IsLongest version (b ∷ bs) (suc (prefix_len is_name_byte bs)) (keyword_or_name (take (suc (prefix_len is_name_byte bs)) (b ∷ bs)))
  letter_longest b bs h = record {
    within = omega (arith, prefix_len-le-length is_name_byte bs);
    token = word_of-letter b (take (prefix_len is_name_byte bs) bs) true h (all_run is_name_byte bs);
    longest = λ m. past m;
  }
    where
      past : (m : ℕ) → suc (prefix_len is_name_byte bs) < m → m ≤ length (b ∷ bs) → word_of version (take m (b ∷ bs)) ≡ None
      past zero g l = absurd (omega arith)
      past (suc m) g l = word_of-letter b (take m bs) false h (past_run is_name_byte bs m (omega arith) (omega arith))

  pub digit_longest : (b : ℕ) (bs : List ℕ) → is_letter b ≡ false → is_ascii_digit b ≡ true → IsLongest version (b ∷ bs) (suc (prefix_len is_ascii_digit bs)) Number
  digit_longest b bs f h = record {
    within = omega (arith, prefix_len-le-length is_ascii_digit bs);
    token = word_of-digit b (take (prefix_len is_ascii_digit bs) bs) true f h (all_run is_ascii_digit bs);
    longest = λ m. past m;
  }
    where
      past : (m : ℕ) → suc (prefix_len is_ascii_digit bs) < m → m ≤ length (b ∷ bs) → word_of version (take m (b ∷ bs)) ≡ None
      past zero g l = absurd (omega arith)
      past (suc m) g l = word_of-digit b (take m bs) false f h (past_run is_ascii_digit bs m (omega arith) (omega arith))

  past_two : (b c : ℕ) (bs : List ℕ) → is_letter b ≡ false → is_ascii_digit b ≡ false → (m : ℕ) → 2 < m → m ≤ length (b ∷ c ∷ bs) → word_of version (take m (b ∷ c ∷ bs)) ≡ None
  past_two b c [] f g m h l = absurd (omega arith)
  past_two b c (d ∷ bs) f g zero h l = absurd (omega arith)
  past_two b c (d ∷ bs) f g (suc zero) h l = absurd (omega arith)
  past_two b c (d ∷ bs) f g (suc (suc zero)) h l = absurd (omega arith)
  past_two b c (d ∷ bs) f g (suc (suc (suc m))) h l = word_of-other b (c ∷ d ∷ take m bs) f g ∙ no_long_symbol (b ∷ c ∷ d ∷ take m bs) (omega arith)

  past_one : (b : ℕ) (bs : List ℕ) → is_letter b ≡ false → is_ascii_digit b ≡ false → NoLongSymbol b bs → (m : ℕ) → 1 < m → m ≤ length (b ∷ bs) → word_of version (take m (b ∷ bs)) ≡ None
  past_one b [] f g k m h l = absurd (omega arith)
  past_one b (c ∷ bs) f g k zero h l = absurd (omega arith)
  past_one b (c ∷ bs) f g k (suc zero) h l = absurd (omega arith)
  past_one b (c ∷ bs) f g k (suc (suc zero)) h l = word_of-other b (c ∷ []) f g ∙ k c bs refl
  past_one b (c ∷ bs) f g k (suc (suc (suc m))) h l = past_two b c bs f g (suc (suc (suc m))) (omega arith) l

  long_symbol_longest : (b c : ℕ) (bs : List ℕ) (w : Word) → is_letter b ≡ false → is_ascii_digit b ≡ false →
      word_spelled symbols (b ∷ c ∷ []) ≡ Some w → IsLongest version (b ∷ c ∷ bs) 2 w
  long_symbol_longest b c bs w f g h =
      record { within = omega arith; token = word_of-other b (c ∷ []) f g ∙ h; longest = past_two b c bs f g }

  pub short_symbol_longest : (b : ℕ) (bs : List ℕ) (w : Word) → is_letter b ≡ false → is_ascii_digit b ≡ false → NoLongSymbol b bs →
      word_spelled symbols (b ∷ []) ≡ Some w → IsLongest version (b ∷ bs) 1 w
  short_symbol_longest b bs w f g k h =
      record { within = omega arith; token = word_of-other b [] f g ∙ h; longest = past_one b bs f g k }

  pub no_front : (b : ℕ) (bs : List ℕ) → is_letter b ≡ false → is_ascii_digit b ≡ false → NoLongSymbol b bs →
      word_spelled symbols (b ∷ []) ≡ None → BeginsNoToken version (b ∷ bs)
  no_front b bs f g k h zero l = refl
  no_front b bs f g k h (suc zero) l = word_of-other b [] f g ∙ h
  no_front b bs f g k h (suc (suc m)) l = past_one b bs f g k (suc (suc m)) (omega arith) l

  -- the same, as the code finds the bytes
  pub letter_front : (bytes : List ℕ) (b : ℕ) (bs : List ℕ) (n : ℕ) (w : Word) → bytes ≡ b ∷ bs → is_letter b ≡ true →
      n ≡ prefix_len is_name_byte bs → w ≡ keyword_or_name (take (1 + n) bytes) → IsLongest version bytes (1 + n) w
  letter_front bytes b bs n w e h g k =
      let count : 1 + n ≡ suc (prefix_len is_name_byte bs) = omega (arith, g) in
      let name : w ≡ keyword_or_name (take (suc (prefix_len is_name_byte bs)) (b ∷ bs)) =
      k ∙ ap (λ m. keyword_or_name (take m bytes)) count ∙ ap (λ z. keyword_or_name (take (suc (prefix_len is_name_byte bs)) z)) e in
      rw (e, count, name) (letter_longest b bs h)

  pub digit_front : (bytes : List ℕ) (b : ℕ) (bs : List ℕ) (n : ℕ) → bytes ≡ b ∷ bs → is_letter b ≡ false → is_ascii_digit b ≡ true →
      n ≡ prefix_len is_ascii_digit bs → IsLongest version bytes (1 + n) Number
  digit_front bytes b bs n e f h g =
      let count : 1 + n ≡ suc (prefix_len is_ascii_digit bs) = omega (arith, g) in
      rw (e, count) (digit_longest b bs f h)

  pub long_longest : (b : ℕ) (bs : List ℕ) (w : Word) → is_letter b ≡ false → is_ascii_digit b ≡ false → Some w ≡ long_symbol_at b bs → IsLongest version (b ∷ bs) 2 w
  long_longest b [] w f g h = cc
  long_longest b (c ∷ cs) w f g h = long_symbol_longest b c cs w f g (sym h)

  pub long_front : (bytes : List ℕ) (b : ℕ) (bs : List ℕ) (w : Word) → bytes ≡ b ∷ bs → is_letter b ≡ false → is_ascii_digit b ≡ false →
      Some w ≡ long_symbol_at b bs → IsLongest version bytes 2 w
  long_front bytes b bs w e f g h = rw e (long_longest b bs w f g h)

  pub short_front : (bytes : List ℕ) (b : ℕ) (bs : List ℕ) (w : Word) → bytes ≡ b ∷ bs → is_letter b ≡ false → is_ascii_digit b ≡ false →
      None ≡ long_symbol_at b bs → Some w ≡ word_spelled symbols (b ∷ []) → IsLongest version bytes 1 w
  short_front bytes b bs w e f g k h = rw e (short_symbol_longest b bs w f g (no_long b bs k) (sym h))

  pub no_symbol_front : (bytes : List ℕ) (b : ℕ) (bs : List ℕ) → bytes ≡ b ∷ bs → is_letter b ≡ false → is_ascii_digit b ≡ false →
      None ≡ long_symbol_at b bs → None ≡ word_spelled symbols (b ∷ []) → BeginsNoToken version bytes
  no_symbol_front bytes b bs e f g k h = rw e (no_front b bs f g (no_long b bs k) (sym h))
