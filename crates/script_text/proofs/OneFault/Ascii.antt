-- Where the tokens of a text end: all bytes before that place are below 128.
use Rattle.std.proofs.Common.{◌≡◌, ℕ, zero, suc, ◌+◌, ◌-◌, ◌<◌, ◌≤◌, List, [], ◌∷◌, length, take, drop, Some, Bool, true, false, not, ◌&&◌, nat_eq, nat_lt, Ok, Err, refl, sym, ap, ◌∙◌, subst, arith, if◌then◌else◌, length-drop}
use Rattle.std.specs.Prelude.{slice_get, unwrap_or, bytes_eq}
use Rattle.std.specs.List.{list_all}
use Rattle.std.specs.Char.{is_ascii_digit}
use Rattle.std.proofs.lemmas.Bool.{ltb-true}
use Rattle.std.proofs.lemmas.Bool.Decides.{nat_tests}
use Rattle.std.proofs.lemmas.Option.{none-some, same_Some}
use Rattle.std.proofs.lemmas.Slice.Eq.{bytes_eq-Decides}
use Rattle.script_tokens.specs.declared.version.Version.{Version}
use Rattle.script_tokens.specs.declared.version.Version.TheVariants.{One, Two}
use Rattle.script_tokens.specs.declared.token.Word.{Word}
use Rattle.script_tokens.specs.declared.token.Word.TheVariants.{Name, Number}
use Rattle.script_tokens.specs.declared.token.Lexeme.{Lexeme}
use Rattle.script_tokens.specs.declared.lexing.LexEnd.{LexEnd}
use Rattle.script_tokens.specs.declared.lexing.LexEnd.TheVariants.{End, NotAscii, NoToken}
use Rattle.script_tokens.specs.Version.{version_line, version_of, begins_at}
use Rattle.script_tokens.specs.Word.{symbols, keywords, word_spelled, is_letter, is_name_byte, is_name, is_number, word_of}
use Rattle.script_tokens.specs.Lexing.{is_blank, gap_length, comment_length, LexemeAt, token, the_end, not_ascii, no_token, Lexes, stops, goes_on, IsLexed}
use Rattle.script_tokens.proofs.Longest.{word_spelled-none}
use Rattle.script_tokens.proofs.LexingLemmas.{IsNext, lexeme_is_next}
use Rattle.script_tokens.proofs.Versions.{begins_in}
use Rattle.script_grammar.specs.Grammar.{Terminal}
use Rattle.script_grammar.specs.Text.{tokens_of}

-- Bytes below 128

abbrev is_low : ℕ → Bool
is_low b = nat_lt b 128

-- the first n of the bytes are
abbrev pub AreLow : ℕ → List ℕ → Type 0
AreLow n bytes = (i b : ℕ) → i < n → slice_get bytes i ≡ Some b → b < 128

low-none : (bytes : List ℕ) → AreLow 0 bytes
low-none bytes i b h e = absurd (omega (arith, h))

low-fewer : (n m : ℕ) (bytes : List ℕ) → m ≤ n → AreLow n bytes → AreLow m bytes
low-fewer n m bytes l h i b k e = h i b (omega (arith, l, k)) e

low-more : (c n : ℕ) (bytes : List ℕ) → c < 128 → AreLow n bytes → AreLow (suc n) (c ∷ bytes)
low-more c n bytes h k zero b l e = let same : c ≡ b = same_Some c b e in omega (arith, same, h)
low-more c n bytes h k (suc i) b l e = k i b (omega (arith, l)) e

low-after : (k n : ℕ) (bytes : List ℕ) → AreLow k bytes → AreLow n (drop k bytes) → AreLow (k + n) bytes
low-after zero n bytes h g i b l e = g i b (omega (arith, l)) e
low-after (suc k) n [] h g i b l e = absurd (none-some b e)
low-after (suc k) n (c ∷ bytes) h g zero b l e = h zero b (omega arith) e
low-after (suc k) n (c ∷ bytes) h g (suc i) b l e = low-after k n bytes (λ j d m f. h (suc j) d (omega (arith, m)) f) g i b (omega (arith, l)) e

two_true : (a b : Bool) → (a && b) ≡ true → (a ≡ true) × (b ≡ true)
two_true true b e = (refl, e)
two_true false b e = cc

low-from : (n : ℕ) (bytes : List ℕ) → list_all is_low (take n bytes) ≡ true → AreLow n bytes
low-from zero bytes h i b l e = absurd (omega (arith, l))
low-from (suc n) [] h i b l e = absurd (none-some b e)
low-from (suc n) (c ∷ bytes) h i b l e =
    let both = two_true (is_low c) (list_all is_low (take n bytes)) h in low-more c n bytes (ltb-true c 128 both.0) (low-from n bytes both.1) i b l e

-- Gaps and tokens

gap_step : (b n m : ℕ) (bytes : List ℕ) (x y : Bool) → (x ≡ true → b < 128) → (y ≡ true → b < 128) → AreLow n bytes → AreLow m bytes → AreLow (if x then suc n else if y then suc m else 0) (b ∷ bytes)
gap_step b n m bytes true y f g h k = low-more b n bytes (f refl) h
gap_step b n m bytes false true f g h k = low-more b m bytes (g refl) k
gap_step b n m bytes false false f g h k = low-none (b ∷ bytes)

blank_low : (b : ℕ) → is_blank b ≡ true → b < 128
blank_low b h = grind (arith, nat_tests)

same_low : (b c : ℕ) → c < 128 → nat_eq b c ≡ true → b < 128
same_low b c l h = grind (arith, nat_tests)

mutual
  gap_low : (bytes : List ℕ) → AreLow (gap_length bytes) bytes
  gap_low [] = low-none []
  gap_low (b ∷ bs) = gap_step b (gap_length bs) (comment_length bs) bs (is_blank b) (nat_eq b 35) (blank_low b) (same_low b 35 (omega arith)) (gap_low bs) (comment_low bs)

  comment_low : (bytes : List ℕ) → AreLow (comment_length bytes) bytes
  comment_low [] = low-none []
  comment_low (b ∷ bs) = gap_step b (gap_length bs) (comment_length bs) bs (nat_eq b 10) (nat_lt b 128) (same_low b 10 (omega arith)) (ltb-true b 128) (gap_low bs) (comment_low bs)

all-too : (p q : ℕ → Bool) → ((b : ℕ) → p b ≡ true → q b ≡ true) → (bs : List ℕ) → list_all p bs ≡ true → list_all q bs ≡ true
all-too p q h [] e = refl
all-too p q h (b ∷ bs) e = let both = two_true (p b) (list_all p bs) e in ap (λ x. x && list_all q bs) (h b both.0) ∙ all-too p q h bs both.1

letter_low : (b : ℕ) → is_letter b ≡ true → is_low b ≡ true
letter_low b h = grind (arith, nat_tests)

name_low : (b : ℕ) → is_name_byte b ≡ true → is_low b ≡ true
name_low b h = grind (arith, nat_tests)

digit_low : (b : ℕ) → is_ascii_digit b ≡ true → is_low b ≡ true
digit_low b h = grind (arith, nat_tests)

first-and : (p q : ℕ → Bool) → ((b : ℕ) → p b ≡ true → is_low b ≡ true) → ((b : ℕ) → q b ≡ true → is_low b ≡ true) → (b : ℕ) (bs : List ℕ) → (p b && list_all q bs) ≡ true → list_all is_low (b ∷ bs) ≡ true
first-and p q h k b bs e =
    let both = two_true (p b) (list_all q bs) e in ap (λ x. x && list_all is_low bs) (h b both.0) ∙ all-too q is_low k bs both.1

names_low : (text : List ℕ) → is_name text ≡ true → list_all is_low text ≡ true
names_low [] e = refl
names_low (b ∷ bs) e = first-and is_letter is_name_byte letter_low name_low b bs e

numbers_low : (text : List ℕ) → is_number text ≡ true → list_all is_low text ≡ true
numbers_low [] e = refl
numbers_low (b ∷ bs) e = first-and is_ascii_digit is_ascii_digit digit_low digit_low b bs e

symbols_low : (text : List ℕ) (w : Word) → word_spelled symbols text ≡ Some w → list_all is_low text ≡ true
symbols_low text w e = from (list_all is_low text) refl
  where
    from : (b : Bool) → list_all is_low text ≡ b → list_all is_low text ≡ true
    from true h = h
    from false h = absurd (none-some w (sym (word_spelled-none (λ t. not (list_all is_low t)) symbols text refl (ap not h)) ∙ e))

module _ (version : Version) where
  words_low : (text : List ℕ) (w : Word) → word_of version text ≡ Some w → list_all is_low text ≡ true
  words_low text w e = go (is_name text) (is_number text) refl refl e
    where
      go : (x y : Bool) → is_name text ≡ x → is_number text ≡ y →
          (if x then Some (unwrap_or (word_spelled (keywords version) text) Name) else if y then Some Number else word_spelled symbols text) ≡ Some w → list_all is_low text ≡ true
      go true y f g h = names_low text f
      go false true f g h = numbers_low text g
      go false false f g h = symbols_low text w h

  -- a lexeme that comes next ends so many bytes further
  next_low : {from : ℕ} {left : List ℕ} {l : Lexeme} → LexemeAt version from left (Ok l) → (n : ℕ) × (l.end ≡ from + n) × AreLow n left
  next_low {from} {left} (token {n = n} {word = w} a) = (n, refl, low-from n left (words_low (take n left) w a.token))

-- Where the tokens end

-- what stands there, so many bytes from the offset `from` on
abbrev pub StopsAt : ℕ → List ℕ → LexEnd → Type 0
StopsAt from left End = AreLow (length left) left
StopsAt from left (NotAscii place) = (n b : ℕ) × (place ≡ from + n) × AreLow n left × (slice_get left n ≡ Some b) × (128 ≤ b)
StopsAt from left (NoToken place) = (n b : ℕ) × (place ≡ from + n) × AreLow n left × (slice_get left n ≡ Some b) × (b < 128)

get-drop : (k n b : ℕ) (left : List ℕ) → slice_get (drop k left) n ≡ Some b → slice_get left (k + n) ≡ Some b
get-drop zero n b left e = let same : n ≡ 0 + n = omega arith in subst (λ m. slice_get left m ≡ Some b) same e
get-drop (suc k) n b [] e = absurd (none-some b e)
get-drop (suc k) n b (c ∷ left) e = let same : suc (k + n) ≡ suc k + n = omega arith in subst (λ m. slice_get (c ∷ left) m ≡ Some b) same (get-drop k n b left e)

get-front : (k b : ℕ) (left bs : List ℕ) → drop k left ≡ b ∷ bs → slice_get left k ≡ Some b
get-front zero b left bs e = ap (λ l. slice_get l 0) e
get-front (suc k) b [] bs e = absurd (none-some b (ap (λ l. slice_get l 0) e))
get-front (suc k) b (c ∷ left) bs e = get-front k b left bs e

-- further back
back : (from k : ℕ) (left : List ℕ) (stop : LexEnd) → AreLow k left → StopsAt (from + k) (drop k left) stop → StopsAt from left stop
back from k left End h s = low-fewer (k + length (drop k left)) (length left) left (omega (arith, length-drop k left)) (low-after k (length (drop k left)) left h s)
back from k left (NotAscii place) h s = (k + s.0, s.1, omega (arith, s.2), low-after k s.0 left h s.3, get-drop k s.0 s.1 left s.4, s.5)
back from k left (NoToken place) h s = (k + s.0, s.1, omega (arith, s.2), low-after k s.0 left h s.3, get-drop k s.0 s.1 left s.4, s.5)

-- Offsets

-- the place of the end, in a text of that length
abbrev pub place_of : ℕ → LexEnd → ℕ
place_of length End = length
place_of length (NotAscii place) = place
place_of length (NoToken place) = place

-- the tokens stand one after another, from an offset on and before the end
abbrev pub InRow : ℕ → List Terminal → ℕ → Type 0
InRow from [] end = from ≤ end
InRow from (t ∷ ts) end = (from ≤ t.at) × InRow (suc t.at) ts end

row-from : (ts : List Terminal) (from n end : ℕ) → n ≤ from → InRow from ts end → InRow n ts end
row-from [] from n end h r = omega (arith, h, r)
row-from (t ∷ ts) from n end h r = (omega (arith, h, r.0), r.1)

stop-later : (from n : ℕ) (left : List ℕ) (stop : LexEnd) → n ≡ from + length left → StopsAt from left stop → from ≤ place_of n stop
stop-later from n left End e s = omega (arith, e)
stop-later from n left (NotAscii place) e s = omega (arith, s.2)
stop-later from n left (NoToken place) e s = omega (arith, s.2)

module _ (version : Version) where
  abbrev Front : ℕ → List ℕ → LexEnd → Type 0
  Front at left End = left ≡ []
  Front at left (NotAscii place) = (place ≡ at) × ((b : ℕ) × (bs : List ℕ) × (left ≡ b ∷ bs) × (128 ≤ b))
  Front at left (NoToken place) = (place ≡ at) × ((b : ℕ) × (bs : List ℕ) × (left ≡ b ∷ bs) × (b < 128))

  front : {at : ℕ} {left : List ℕ} {stop : LexEnd} → LexemeAt version at left (Err stop) → Front at left stop
  front the_end = refl
  front (not_ascii {b = b} {bs = bs} h) = (refl, (b, bs, refl, h))
  front (no_token {b = b} {bs = bs} h none) = (refl, (b, bs, refl, h))

  front-stops : (from k : ℕ) (left : List ℕ) (stop : LexEnd) → AreLow k left → Front (from + k) (drop k left) stop → StopsAt from left stop
  front-stops from k left End h f = low-fewer k (length left) left (omega (arith, length-drop k left, ap length f)) h
  front-stops from k left (NotAscii place) h f = (k, f.1.0, f.0, h, get-front k f.1.0 left f.1.1 f.1.2, f.1.3)
  front-stops from k left (NoToken place) h f = (k, f.1.0, f.0, h, get-front k f.1.0 left f.1.1 f.1.2, f.1.3)

  lexes-stop : {from : ℕ} {left : List ℕ} {ls : List Lexeme} {stop : LexEnd} → Lexes version from left ls stop → StopsAt from left stop
  lexes-stop {from} {left} {stop = stop} (stops c) = front-stops from (gap_length left) left stop (gap_low left) (front c)
  lexes-stop {from} {left} {stop = stop} (goes_on {l = l} c x) =
      let n = next_low version c in
      let k : l.end - from ≡ gap_length left + n.0 = omega (arith, n.1) in
      let low : AreLow (l.end - from) left = low-fewer (gap_length left + n.0) (l.end - from) left (omega (arith, k)) (low-after (gap_length left) n.0 left (gap_low left) n.2) in
      let there : l.end ≡ from + (l.end - from) = omega (arith, n.1) in
      back from (l.end - from) left stop low (subst (λ m. StopsAt m (drop (l.end - from) left) stop) there (lexes-stop x))

  lexes-row : (bytes : List ℕ) {from : ℕ} {left : List ℕ} {ls : List Lexeme} {stop : LexEnd} → (n : ℕ) → n ≡ from + length left → Lexes version from left ls stop → InRow from (tokens_of bytes ls) (place_of n stop)
  lexes-row bytes {from} {left} {stop = stop} n e (stops c) = stop-later from n left stop e (lexes-stop (stops c))
  lexes-row bytes {from} {left} {stop = stop} n e (goes_on {l = l} {ls = ls} c x) =
      let next : IsNext version from left l = lexeme_is_next version from left l c in
      let rest : length (drop (l.end - from) left) ≡ length left - (l.end - from) = length-drop (l.end - from) left in
      let far : n ≡ l.end + length (drop (l.end - from) left) = omega (arith, e, rest, next.within, next.below, next.after) in
      (next.after, row-from (tokens_of bytes ls) l.end (suc l.start) (place_of n stop) (omega (arith, next.below)) (lexes-row bytes n far x))

-- the version's line
line_low : (version : Version) (bytes : List ℕ) → version ≡ version_of bytes → AreLow (begins_at version) bytes
line_low One bytes e = low-none bytes
line_low Two bytes e = low-from 10 bytes (ap (list_all is_low) ((bytes_eq-Decides (take 10 bytes) version_line).0 (chosen (bytes_eq (take 10 bytes) version_line) (sym e))))
  where
    chosen : (b : Bool) → (if b then Two else One) ≡ Two → b ≡ true
    chosen true h = refl
    chosen false h = cc

module _ (bytes : List ℕ) (version : Version) (ls : List Lexeme) (stop : LexEnd) (cut : IsLexed bytes version ls stop) where
  pub cut-stops : StopsAt 0 bytes stop
  cut-stops =
      let first = begins_at version in
      let there : first ≡ 0 + first = omega arith in
      back 0 first bytes stop (line_low version bytes cut.told) (subst (λ m. StopsAt m (drop first bytes) stop) there (lexes-stop version cut.cut))

  pub cut-row : InRow 0 (tokens_of bytes ls) (place_of (length bytes) stop)
  cut-row =
      let first = begins_at version in
      let inside : first ≤ length bytes = begins_in version bytes cut.told in
      let rest : length (drop first bytes) ≡ length bytes - first = length-drop first bytes in
      row-from (tokens_of bytes ls) first 0 (place_of (length bytes) stop) (omega arith) (lexes-row version bytes (length bytes) (omega (arith, inside, rest)) cut.cut)
