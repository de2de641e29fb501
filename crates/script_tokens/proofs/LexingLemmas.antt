-- What follows of the lexemes of a text: there is one list of them, they stand in order, and each has the text of its word.
use Rattle.std.proofs.Common.{◌≡◌, ℕ, zero, suc, ◌+◌, ◌-◌, ◌<◌, ◌≤◌, List, [], ◌∷◌, ◌++◌, length, take, drop, All, Some, None, Bool, true, false, nat_eq, nat_lt, Result, Ok, Err, ◌⊎◌, refl, sym, ap, ◌∙◌, subst, arith, inl, inr, if◌then◌else◌}
use Rattle.std.specs.Char.{is_ascii}
use Rattle.std.proofs.lemmas.Bool.{cases_lt}
use Rattle.std.proofs.lemmas.List.Elements.{All-cons}
use Rattle.std.proofs.lemmas.Bool.Decides.{nat_tests}
use Rattle.std.proofs.lemmas.List.{append-nil, append_assoc, drop-drop, length-drop}
use Rattle.script_tokens.specs.declared.version.Version.{Version}
use Rattle.script_tokens.specs.declared.token.Word.{Word}
use Rattle.script_tokens.specs.declared.token.Lexeme.{Lexeme}
use Rattle.script_tokens.specs.declared.lexing.LexEnd.{LexEnd}
use Rattle.script_tokens.specs.declared.lexing.LexEnd.TheVariants.{End, NotAscii, NoToken}
use Rattle.script_tokens.specs.Word.{word_of}
use Rattle.script_tokens.specs.Lexing.{is_blank, gap_length, comment_length, IsLongest, BeginsNoToken, LexemeAt, token, the_end, not_ascii, no_token, Comes, Lexes, stops, goes_on, text_of, token_of, lexeme}
use Rattle.script_tokens.specs.Laws.{InOrder, LexingIsUnique, NextTokenIsUnique, LexemesStandInOrder, LexemesAreTokens}
use Rattle.script_tokens.proofs.Longest.{word_of-not_ascii}

gap_step : (x y : Bool) (n m k : ℕ) → n ≤ k → m ≤ k → (if x then suc n else if y then suc m else 0) ≤ suc k
gap_step true y n m k h g = omega arith
gap_step false true n m k h g = omega arith
gap_step false false n m k h g = omega arith

mutual
  gap_length-le : (bs : List ℕ) → gap_length bs ≤ length bs
  gap_length-le [] = omega arith
  gap_length-le (b ∷ bs) = gap_step (is_blank b) (nat_eq b 35) _ _ _ (gap_length-le bs) (comment_length-le bs)

  comment_length-le : (bs : List ℕ) → comment_length bs ≤ length bs
  comment_length-le [] = omega arith
  comment_length-le (b ∷ bs) = gap_step (nat_eq b 10) (nat_lt b 128) _ _ _ (gap_length-le bs) (comment_length-le bs)

pub not_below_128 : (b : ℕ) (r : Bool) → r ≡ is_ascii b → r ≡ false → 128 ≤ b
not_below_128 b r e h = grind (arith, nat_tests)

pub below_128 : (b : ℕ) (r : Bool) → r ≡ is_ascii b → r ≡ true → b < 128
below_128 b r e h = grind (arith, nat_tests)

module _ (version : Version) where
  -- of two longest tokens neither is longer
  longest_same : (bytes : List ℕ) (n m : ℕ) (w v : Word) → IsLongest version bytes n w → IsLongest version bytes m v → n ≡ m
  longest_same bytes n m w v a b = go (cases_lt n m) (cases_lt m n)
    where
      go : (n < m) ⊎ (m ≤ n) → (m < n) ⊎ (n ≤ m) → n ≡ m
      go (inl h) k = let none : word_of version (take m bytes) ≡ None = a.longest m h b.within in let some = b.token in cc
      go (inr h) (inl k) = let none : word_of version (take n bytes) ≡ None = b.longest n k a.within in let some = a.token in cc
      go (inr h) (inr k) = omega arith

  longest_word : (bytes : List ℕ) (n m : ℕ) (w v : Word) → IsLongest version bytes n w → IsLongest version bytes m v → w ≡ v
  longest_word bytes n m w v a b =
      let same : word_of version (take n bytes) ≡ word_of version (take m bytes) = ap (λ k. word_of version (take k bytes)) (longest_same bytes n m w v a b) in
      let some : Some w ≡ Some v = sym a.token ∙ same ∙ b.token in
      cc

  nothing_at_end : (n : ℕ) (w : Word) → IsLongest version [] n w → ⊥
  nothing_at_end zero w a = let some = a.token in cc
  nothing_at_end (suc n) w a = absurd (omega (arith, a.within))

  nothing_not_ascii : (b : ℕ) (bs : List ℕ) (n : ℕ) (w : Word) → 128 ≤ b → IsLongest version (b ∷ bs) n w → ⊥
  nothing_not_ascii b bs zero w h a = let some = a.token in cc
  nothing_not_ascii b bs (suc n) w h a = let some = a.token in let none = word_of-not_ascii version b (take n bs) h in cc

  nothing_begins : (bytes : List ℕ) (n : ℕ) (w : Word) → BeginsNoToken version bytes → IsLongest version bytes n w → ⊥
  nothing_begins bytes n w none a = let no = none n a.within in let some = a.token in cc

  -- one thing stands at a place
  pub stands_same : {at : ℕ} {bytes : List ℕ} {r s : Result Lexeme LexEnd} → LexemeAt version at bytes r → LexemeAt version at bytes s → r ≡ s
  stands_same {at} {bytes} (token {n = n} {word = w} a) (token {n = m} {word = v} b) =
      ap (λ k. Ok (lexeme w at (at + k))) (longest_same bytes n m w v a b) ∙ ap (λ x. Ok (lexeme x at (at + m))) (longest_word bytes n m w v a b)
  stands_same (token a) the_end = absurd (nothing_at_end _ _ a)
  stands_same (token a) (not_ascii h) = absurd (nothing_not_ascii _ _ _ _ h a)
  stands_same (token a) (no_token h none) = absurd (nothing_begins _ _ _ none a)
  stands_same the_end (token a) = absurd (nothing_at_end _ _ a)
  stands_same the_end the_end = refl
  stands_same (not_ascii h) (token a) = absurd (nothing_not_ascii _ _ _ _ h a)
  stands_same (not_ascii h) (not_ascii k) = refl
  stands_same (not_ascii h) (no_token k none) = absurd (omega arith)
  stands_same (no_token h none) (token a) = absurd (nothing_begins _ _ _ none a)
  stands_same (no_token h none) (not_ascii k) = absurd (omega arith)
  stands_same (no_token h none) (no_token k none') = refl

  ok_same : (l k : Lexeme) → ◌≡◌ {A = Result Lexeme LexEnd} (Ok l) (Ok k) → l ≡ k
  ok_same l k e = cc

  -- a text has one list of lexemes, and one reason why they end
  pub lexes_same : {from : ℕ} {left : List ℕ} {ls ms : List Lexeme} {stop end : LexEnd} → Lexes version from left ls stop → Lexes version from left ms end → (ls ≡ ms) × (stop ≡ end)
  lexes_same (stops c) (stops d) = let e = stands_same c d in (refl, cc)
  lexes_same (stops c) (goes_on d y) = let e = stands_same c d in absurd cc
  lexes_same (goes_on c x) (stops d) = let e = stands_same c d in absurd cc
  lexes_same {from} {left} (goes_on {l = l} c x) (goes_on {l = k} {ls = ms} {stop = end} d y) =
      let same : l ≡ k = ok_same l k (stands_same c d) in
      let both = lexes_same x (subst (λ z. Lexes version z.end (drop (z.end - from) left) ms end) (sym same) y) in
      (let after = both.0 in cc, both.1)

  -- where a lexeme stands
  pub record IsAt (at : ℕ) (bytes : List ℕ) (l : Lexeme) : Type 0 where
    pub start : l.start ≡ at
    pub below : l.start < l.end
    pub within : l.end ≤ at + length bytes
    pub text : word_of version (take (l.end - l.start) bytes) ≡ Some l.word

  not_empty : (bytes : List ℕ) (n : ℕ) (w : Word) → IsLongest version bytes n w → 0 < n
  not_empty bytes zero w a = let some = a.token in cc
  not_empty bytes (suc n) w a = omega arith

  lexeme_is_at : {at : ℕ} {bytes : List ℕ} {l : Lexeme} → LexemeAt version at bytes (Ok l) → IsAt at bytes l
  lexeme_is_at {at} {bytes} (token {n = n} {word = w} a) =
      let some : 0 < n = not_empty bytes n w a in
      let length_is : at + n - at ≡ n = omega arith in
      record {
        start = refl;
        below = omega arith;
        within = omega (arith, a.within);
        text = ap (λ k. word_of version (take k bytes)) length_is ∙ a.token;
      }

  -- the lexeme that comes next
  pub record IsNext (from : ℕ) (left : List ℕ) (l : Lexeme) : Type 0 where
    pub after : from ≤ l.start
    pub below : l.start < l.end
    pub within : l.end ≤ from + length left
    pub text : word_of version (take (l.end - l.start) (drop (l.start - from) left)) ≡ Some l.word

  pub lexeme_is_next : (from : ℕ) (left : List ℕ) (l : Lexeme) → Comes version from left (Ok l) → IsNext from left l
  lexeme_is_next from left l c =
      let a : IsAt (from + gap_length left) (drop (gap_length left) left) l = lexeme_is_at c in
      let gap : gap_length left ≤ length left = gap_length-le left in
      let rest : length (drop (gap_length left) left) ≡ length left - gap_length left = length-drop (gap_length left) left in
      let skipped : l.start - from ≡ gap_length left = omega (arith, a.start) in
      record {
        after = omega (arith, a.start);
        below = a.below;
        within = omega (arith, a.within);
        text = ap (λ n. word_of version (take (l.end - l.start) (drop n left))) skipped ∙ a.text;
      }

  pub in_order : (from : ℕ) (left : List ℕ) (ls : List Lexeme) (stop : LexEnd) → Lexes version from left ls stop → InOrder from (from + length left) ls
  in_order from left [] stop (stops c) = omega arith
  in_order from left (l ∷ ls) stop (goes_on c x) =
      let n : IsNext from left l = lexeme_is_next from left l c in
      let rest : length (drop (l.end - from) left) ≡ length left - (l.end - from) = length-drop (l.end - from) left in
      let far : l.end + length (drop (l.end - from) left) ≡ from + length left = omega (arith, n.within, n.below, n.after) in
      (n.after, n.below, subst (λ e. InOrder l.end e ls) far (in_order l.end (drop (l.end - from) left) ls stop x))

  -- what stands at a place, as the code finds it
  pub stands_end : (at : ℕ) (bytes : List ℕ) → length bytes ≡ 0 → LexemeAt version at bytes (Err End)
  stands_end at [] e = the_end
  stands_end at (b ∷ bs) e = absurd (omega arith)

  pub stands_not_ascii : (at : ℕ) (bytes : List ℕ) (b : ℕ) (bs : List ℕ) → bytes ≡ b ∷ bs → 128 ≤ b → LexemeAt version at bytes (Err (NotAscii at))
  stands_not_ascii at bytes b bs e h = subst (λ z. LexemeAt version at z (Err (NotAscii at))) (sym e) (not_ascii h)

  pub stands_no_token : (at : ℕ) (bytes : List ℕ) (b : ℕ) (bs : List ℕ) → bytes ≡ b ∷ bs → b < 128 → BeginsNoToken version bytes → LexemeAt version at bytes (Err (NoToken at))
  stands_no_token at bytes b bs e h none = subst (λ z. LexemeAt version at z (Err (NoToken at))) (sym e) (no_token h (subst (BeginsNoToken version) e none))

  -- The lexemes so far are `ls`, from the offset `first` on, and `from` is the end of the last. `Begins` says that whatever lexemes come after
  -- them make the text's.
  abbrev pub Begins : List ℕ → ℕ → List Lexeme → ℕ → Type 0
  Begins text first ls from = (ms : List Lexeme) (stop : LexEnd) → Lexes version from (drop from text) ms stop → Lexes version first (drop first text) (ls ++ ms) stop

  pub begins_nothing : (text : List ℕ) (first from : ℕ) (ls : List Lexeme) → ls ≡ [] → from ≡ first → Begins text first ls from
  begins_nothing text first from ls e f ms stop x =
      subst (λ z. Lexes version first (drop first text) (z ++ ms) stop) (sym e) (subst (λ n. Lexes version n (drop n text) ms stop) f x)

  pub begins_all : (text : List ℕ) (first : ℕ) (ls : List Lexeme) (from : ℕ) (r : Result Lexeme LexEnd) (stop : LexEnd) →
      Begins text first ls from → Comes version from (drop from text) r → r ≡ Err stop → Lexes version first (drop first text) ls stop
  begins_all text first ls from r stop so_far c e =
      subst (λ z. Lexes version first (drop first text) z stop) (append-nil ls) (so_far [] stop (stops (subst (Comes version from (drop from text)) e c)))

  pub begins_more : (text : List ℕ) (first : ℕ) (ls ms : List Lexeme) (from : ℕ) (r : Result Lexeme LexEnd) (l : Lexeme) →
      Begins text first ls from → Comes version from (drop from text) r → r ≡ Ok l → ms ≡ ls ++ l ∷ [] → Begins text first ms l.end
  begins_more text first ls ms from r l so_far c e grown more stop x =
      let comes : Comes version from (drop from text) (Ok l) = subst (Comes version from (drop from text)) e c in
      let n : IsNext from (drop from text) l = lexeme_is_next from (drop from text) l comes in
      let there : from + (l.end - from) ≡ l.end = omega (arith, n.after, n.below) in
      let left : drop (l.end - from) (drop from text) ≡ drop l.end text = drop-drop (l.end - from) from text ∙ ap (λ k. drop k text) there in
      let longer : ms ++ more ≡ ls ++ (l ∷ more) = ap (λ z. z ++ more) grown ∙ append_assoc ls (l ∷ []) more in
      subst (λ z. Lexes version first (drop first text) z stop) (sym longer) (so_far (l ∷ more) stop (goes_on comes (subst (λ z. Lexes version l.end z more stop) (sym left) x)))

  -- the measure of the loop falls, and the lexeme ends in the text
  pub next_ends : (text : List ℕ) (from : ℕ) (r : Result Lexeme LexEnd) (l : Lexeme) → from ≤ length text → Comes version from (drop from text) r → r ≡ Ok l →
      (from < l.end) × (l.end ≤ length text)
  next_ends text from r l h c e =
      let n : IsNext from (drop from text) l = lexeme_is_next from (drop from text) l (subst (Comes version from (drop from text)) e c) in
      let rest : length (drop from text) ≡ length text - from = length-drop from text in
      (omega (arith, n.after, n.below), omega (arith, n.within))

  -- each lexeme has the text of its word
  texts : (text : List ℕ) (from : ℕ) (ls : List Lexeme) (stop : LexEnd) → from ≤ length text → Lexes version from (drop from text) ls stop →
      All (λ l. word_of version (text_of text l) ≡ Some l.word) ls
  texts text from [] stop h (stops c) = λ k d below. absurd (omega arith)
  texts text from (l ∷ ls) stop h (goes_on c x) =
      let n : IsNext from (drop from text) l = lexeme_is_next from (drop from text) l c in
      let skip : from + (l.start - from) ≡ l.start = omega (arith, n.after) in
      let there : drop (l.start - from) (drop from text) ≡ drop l.start text = drop-drop (l.start - from) from text ∙ ap (λ k. drop k text) skip in
      let here : word_of version (text_of text l) ≡ Some l.word = ap (λ z. word_of version (take (l.end - l.start) z)) (sym there) ∙ n.text in
      let rest : length (drop from text) ≡ length text - from = length-drop from text in
      let next : from + (l.end - from) ≡ l.end = omega (arith, n.after, n.below) in
      let left : drop (l.end - from) (drop from text) ≡ drop l.end text = drop-drop (l.end - from) from text ∙ ap (λ k. drop k text) next in
      All-cons (λ k. word_of version (text_of text k) ≡ Some k.word) l ls here (texts text l.end ls stop (omega (arith, n.within)) (subst (λ z. Lexes version l.end z ls stop) left x))

pub lexing_unique : LexingIsUnique
lexing_unique version from left ls ms stop end x y = lexes_same version x y

pub next_token_unique : NextTokenIsUnique
next_token_unique version bytes from r s (next, c, e) (other, d, f) = e ∙ ap (token_of (length bytes)) (stands_same version c d) ∙ sym f

pub lexemes_in_order : LexemesStandInOrder
lexemes_in_order version from left ls stop x = in_order version from left ls stop x

pub lexemes_tokens : LexemesAreTokens
lexemes_tokens version text from ls stop h x = texts version text from ls stop h x
