-- What the machine does at one token, and what the parser's smallest steps need of it.
use Rattle.std.proofs.Common.{◌≡◌, ℕ, ◌<◌, ◌≤◌, List, [], ◌∷◌, ◌++◌, length, Option, Some, None, Bool, true, false, ◌&&◌, nat_lt, if◌then◌else◌, Err, refl, ap, ◌∙◌, arith, append_assoc}
use Rattle.std.proofs.lemmas.Bool.{lt-ltb, le-ltb}
use Rattle.script_tokens.specs.declared.token.Word.{Word}
use Rattle.script_tokens.specs.declared.token.Word.TheVariants as word
use Rattle.script_tokens.specs.declared.token.Lexeme.{Lexeme}
use Rattle.script_tokens.specs.declared.lexing.LexEnd.{LexEnd}
use Rattle.script_tokens.specs.declared.lexing.LexEnd.TheVariants.{End, NotAscii, NoToken}
use Rattle.script_tokens.specs.Lexing.{text_of}
use Rattle.script_text.specs.declared.error.SyntaxError.{SyntaxError}
use Rattle.script_text.specs.declared.error.SyntaxError.TheVariants.{Bad, Memory}
use Rattle.script_text.specs.declared.parser.source.LexedText.{LexedText}
use Rattle.script_grammar.specs.Grammar.{Terminal, tok, decimal}
use Rattle.script_grammar.specs.Fault.{TextEnd}
use Rattle.script_text.specs.Machine.{Sym, only, rule, same_word, rules, is_empty, find_rule, choose, consume, nesting, all_empty, PlacedFault, broken, unless_broken, verdict, at_stop, begun_with, judge}
use Rattle.script_grammar.specs.Text.{token_of}
use Rattle.script_text.specs.Reads.{terminals_of, text_end, ReadsTo, stopped_at, unexpected_in, NextIs, NextIsNot, is_unlimited, Errs, PassesWord, IsBracket, OpensBracket, Deepens}
use Rattle.script_text.proofs.Parsing.Words.{same_words, same_word-refl}

plain_broken : (w : Word) (n at d : ℕ) (text : List ℕ) → is_unlimited w ≡ true → broken n (tok at w text) d ≡ (if nat_lt 64 d then Some 5 else None)
plain_broken word.Name n at d text p = cc
plain_broken word.Number n at d text p = cc
plain_broken word.Fn n at d text p = cc
plain_broken _ n at d text p = refl

plain_begun : (w : Word) (n at : ℕ) (text : List ℕ) → is_unlimited w ≡ true → begun_with (tok at w text) n ≡ n
plain_begun word.Name n at text p = cc
plain_begun word.Number n at text p = cc
plain_begun word.Fn n at text p = cc
plain_begun _ n at text p = refl

shallow : (d : ℕ) → d ≤ 64 → ◌≡◌ {A = Option ℕ} (if nat_lt 64 d then Some 5 else None) None
shallow d h = ap (λ b. if b then Some 5 else None) (le-ltb 64 d h)

-- the machine takes a token that breaks no limit
pub taken : (e : TextEnd) (n at : ℕ) (w : Word) (text : List ℕ) (s s' : List Sym) (ts : List Terminal) → is_unlimited w ≡ true → nesting s' ≤ 64 → consume w text s ≡ Some s' → judge e n s (tok at w text ∷ ts) ≡ judge e n s' ts
taken e n at w text s s' ts p h f =
    ap (λ o. verdict n (tok at w text) o (λ x. judge e (begun_with (tok at w text) n) x ts)) f
    ∙ ap (λ o. unless_broken o at (judge e (begun_with (tok at w text) n) s' ts)) (plain_broken w n at (nesting s') text p ∙ shallow (nesting s') h)
    ∙ ap (λ m. judge e m s' ts) (plain_begun w n at text p)

-- and finds the fault at one that is nested too deep
pub deep : (e : TextEnd) (n at : ℕ) (w : Word) (text : List ℕ) (s s' : List Sym) (ts : List Terminal) → is_unlimited w ≡ true → 64 < nesting s' → consume w text s ≡ Some s' → judge e n s (tok at w text ∷ ts) ≡ Some (5, at)
deep e n at w text s s' ts p h f =
    ap (λ o. verdict n (tok at w text) o (λ x. judge e (begun_with (tok at w text) n) x ts)) f
    ∙ ap (λ o. unless_broken o at (judge e (begun_with (tok at w text) n) s' ts)) (plain_broken w n at (nesting s') text p ∙ ap (λ b. if b then Some 5 else None) (lt-ltb 64 (nesting s') h))

pub name_taken : (e : TextEnd) (n at : ℕ) (text : List ℕ) (s s' : List Sym) (ts : List Terminal) → length text ≤ 32 → nesting s' ≤ 64 → consume word.Name text s ≡ Some s' → judge e n s (tok at word.Name text ∷ ts) ≡ judge e n s' ts
name_taken e n at text s s' ts l h f =
    ap (λ o. verdict n (tok at word.Name text) o (λ x. judge e n x ts)) f
    ∙ ap (λ b. unless_broken (if b then Some 4 else if nat_lt 64 (nesting s') then Some 5 else None) at (judge e n s' ts)) (le-ltb 32 (length text) l)
    ∙ ap (λ o. unless_broken o at (judge e n s' ts)) (shallow (nesting s') h)

pub name_long : (e : TextEnd) (n at : ℕ) (text : List ℕ) (s s' : List Sym) (ts : List Terminal) → 32 < length text → consume word.Name text s ≡ Some s' → judge e n s (tok at word.Name text ∷ ts) ≡ Some (4, at)
name_long e n at text s s' ts l f =
    ap (λ o. verdict n (tok at word.Name text) o (λ x. judge e n x ts)) f
    ∙ ap (λ b. unless_broken (if b then Some 4 else if nat_lt 64 (nesting s') then Some 5 else None) at (judge e n s' ts)) (lt-ltb 32 (length text) l)

pub number_taken : (e : TextEnd) (n at : ℕ) (text : List ℕ) (s s' : List Sym) (ts : List Terminal) → decimal 0 text ≤ 9223372036854775807 → nesting s' ≤ 64 → consume word.Number text s ≡ Some s'
    → judge e n s (tok at word.Number text ∷ ts) ≡ judge e n s' ts
number_taken e n at text s s' ts l h f =
    ap (λ o. verdict n (tok at word.Number text) o (λ x. judge e n x ts)) f
    ∙ ap (λ b. unless_broken (if b then Some 3 else if nat_lt 64 (nesting s') then Some 5 else None) at (judge e n s' ts)) (le-ltb 9223372036854775807 (decimal 0 text) l)
    ∙ ap (λ o. unless_broken o at (judge e n s' ts)) (shallow (nesting s') h)

pub number_big : (e : TextEnd) (n at : ℕ) (text : List ℕ) (s s' : List Sym) (ts : List Terminal) → 9223372036854775807 < decimal 0 text → consume word.Number text s ≡ Some s' → judge e n s (tok at word.Number text ∷ ts) ≡ Some (3, at)
number_big e n at text s s' ts l f =
    ap (λ o. verdict n (tok at word.Number text) o (λ x. judge e n x ts)) f
    ∙ ap (λ b. unless_broken (if b then Some 3 else if nat_lt 64 (nesting s') then Some 5 else None) at (judge e n s' ts)) (lt-ltb 9223372036854775807 (decimal 0 text) l)

-- the symbol has no rule for the token that comes next
abbrev pub HasNone : Sym → List Lexeme → List ℕ → Type 0
HasNone a [] bytes = Unit {0}
HasNone a (l ∷ ls) bytes = find_rule l.word (text_of bytes l) (rules a) ≡ None

-- where nothing that is expected fits, the fault is here
pub refused : (source : LexedText) (n : ℕ) (a : Sym) (s : List Sym) (old : List Lexeme) → is_empty a ≡ false → HasNone a old source.bytes.now → (number at : ℕ) → Bad number at ≡ unexpected_in source old
    → judge (text_end source) n (a ∷ s) (terminals_of source old) ≡ Some (number, at)
refused source n a s [] e h number at f = at_end source.stop f
  where
    at_end : (w : LexEnd) → Bad number at ≡ stopped_at source.end w → at_stop source.end w (a ∷ s) ≡ Some (number, at)
    at_end End f = ap (λ b. if b && all_empty s then None else Some (6, source.end)) e ∙ cc
    at_end (NotAscii place) f = cc
    at_end (NoToken place) f = cc
refused source n a s (l ∷ ls) e h number at f =
    let t : Terminal = token_of source.bytes.now l in
    ap (λ o. verdict n t (choose o (is_empty a) s (consume t.word t.text s)) (λ s'. judge (text_end source) (begun_with t n) s' (terminals_of source ls))) h
    ∙ ap (λ b. verdict n t (choose None b s (consume t.word t.text s)) (λ s'. judge (text_end source) (begun_with t n) s' (terminals_of source ls))) e ∙ cc

-- and a symbol that may be left out is skipped there
pub skipped : (source : LexedText) (n : ℕ) (a : Sym) (s : List Sym) (old : List Lexeme) → is_empty a ≡ true → HasNone a old source.bytes.now → judge (text_end source) n (a ∷ s) (terminals_of source old) ≡ judge (text_end source) n s (terminals_of source old)
skipped source n a s [] e h = at_end source.stop
  where
    at_end : (w : LexEnd) → at_stop source.end w (a ∷ s) ≡ at_stop source.end w s
    at_end End = ap (λ b. if b && all_empty s then None else Some (6, source.end)) e
    at_end (NotAscii place) = refl
    at_end (NoToken place) = refl
skipped source n a s (l ∷ ls) e h =
    let t : Terminal = token_of source.bytes.now l in
    ap (λ o. verdict n t (choose o (is_empty a) s (consume t.word t.text s)) (λ s'. judge (text_end source) (begun_with t n) s' (terminals_of source ls))) h
    ∙ ap (λ b. verdict n t (choose None b s (consume t.word t.text s)) (λ s'. judge (text_end source) (begun_with t n) s' (terminals_of source ls))) e

pub other_word : (v w : Word) → (v ≡ w → ⊥) → same_word v w ≡ false
other_word v w h = go (same_word v w) refl
  where
    go : (b : Bool) → same_word v w ≡ b → same_word v w ≡ false
    go true e = absurd (h (same_words v w e))
    go false e = e

-- a symbol with one rule has none for another word
pub has_none : (a : Sym) (w : Word) (r : List Sym) (old : List Lexeme) (bytes : List ℕ) → rules a ≡ rule w r ∷ [] → NextIsNot w old → HasNone a old bytes
has_none a w r [] bytes e h = tt
has_none a w r (l ∷ ls) bytes e h = ap (find_rule l.word (text_of bytes l)) e ∙ ap (λ b. if b && true then Some r else None) (other_word l.word w h)

-- and is replaced by the rule at that word
pub replaced : (a : Sym) (w : Word) (r s : List Sym) (text : List ℕ) → rules a ≡ rule w r ∷ [] → consume w text (a ∷ s) ≡ Some (r ++ s)
replaced a w r s text e = ap (λ q. choose (find_rule w text q) (is_empty a) s (consume w text s)) e ∙ ap (λ b. choose (if b && true then Some r else None) (is_empty a) s (consume w text s)) (same_word-refl w)

-- the tokens, where a word comes next
pub seen-next : (w : Word) (source : LexedText) (at : ℕ) (old rest : List Lexeme) (x : NextIs w at old rest) → terminals_of source old ≡ tok at w (text_of source.bytes.now x.0) ∷ terminals_of source rest
seen-next w source at old rest x =
    ap (terminals_of source) x.1 ∙ ap (λ v. tok x.0.start v (text_of source.bytes.now x.0) ∷ terminals_of source rest) x.2 ∙ ap (λ v. tok v w (text_of source.bytes.now x.0) ∷ terminals_of source rest) x.3

-- what a function shows of what it read: a derivation, and where the machine comes
abbrev pub Comes : {X : Type 0} → (List Terminal → X → List Terminal → Type 0) → List Sym → LexedText → ℕ → List Lexeme → X → List Lexeme → Type 0
Comes R front source d old x rest = R (terminals_of source old) x (terminals_of source rest) × ReadsTo front [] source d old rest

abbrev pub Passed : Word → LexedText → ℕ → List Lexeme → List Lexeme → Type 0
Passed w source d old rest = ((at : ℕ) × NextIs w at old rest) × ReadsTo (only w ∷ []) [] source d old rest

abbrev pub Opened : Word → LexedText → ℕ → List Lexeme → List Lexeme → Type 0
Opened w source d old rest =
    ((at : ℕ) × NextIs w at old rest) × (d < 64) × ((a : Sym) (inside : List Sym) → IsBracket a w inside → ReadsTo (a ∷ []) inside source d old rest)

-- a fault that is found after what was read, where these symbols are still expected
pub err_after : (front next tail : List Sym) (source : LexedText) (d d' : ℕ) (old mid : List Lexeme) (e : SyntaxError) → ReadsTo front (next ++ tail) source d old mid → ((s : List Sym) → nesting s ≡ d → nesting (tail ++ s) ≡ d')
    → Errs next source d' mid e → Errs front source d old e
err_after front next tail source d d' old mid Memory g h f = tt
err_after front next tail source d d' old mid (Bad number at) g h f = λ n s k.
    g n s k ∙ ap (λ z. judge (text_end source) n z (terminals_of source mid)) (append_assoc next tail s) ∙ f n (tail ++ s) (h s k)

-- the fault where none of the words that may come does
pub unexpected_err : (a : Sym) (tail : List Sym) (source : LexedText) (d : ℕ) (old : List Lexeme) (e : SyntaxError) → is_empty a ≡ false → HasNone a old source.bytes.now → e ≡ unexpected_in source old → Errs (a ∷ tail) source d old e
unexpected_err a tail source d old Memory f h g = tt
unexpected_err a tail source d old (Bad number at) f h g = λ n s k. refused source n a (tail ++ s) old f h number at g

-- the expected word

pub passes : (w : Word) (source : LexedText) (d at : ℕ) (old rest : List Lexeme) → is_unlimited w ≡ true → d ≤ 64 → NextIs w at old rest → ((at : ℕ) × NextIs w at old rest) × ReadsTo (only w ∷ []) [] source d old rest
passes w source d at old rest p h x = (
  (at, x),
  λ n s f.
      ap (judge (text_end source) n (only w ∷ s)) (seen-next w source at old rest x)
      ∙ taken (text_end source) n at w _ (only w ∷ s) s (terminals_of source rest) p (omega arith) (replaced (only w) w [] s _ refl),
)

pub passes_not : (w : Word) (source : LexedText) (d : ℕ) (old : List Lexeme) (e : SyntaxError) → NextIsNot w old → e ≡ unexpected_in source old → PassesWord w source d old (Err e)
passes_not w source d old Memory h f = tt
passes_not w source d old (Bad number at) h f = λ n s g. refused source n (only w) s old refl (has_none (only w) w [] old source.bytes.now refl h) number at f

-- an opening bracket

pub opens : (w : Word) (source : LexedText) (d at : ℕ) (old rest : List Lexeme) → is_unlimited w ≡ true → d < 64 → NextIs w at old rest
    → ((at : ℕ) × NextIs w at old rest) × (d < 64) × ((a : Sym) (inside : List Sym) → IsBracket a w inside → ReadsTo (a ∷ []) inside source d old rest)
opens w source d at old rest p h x = (
  (at, x),
  h,
  λ a inside b n s f.
      let one = b.one_level s in
      ap (judge (text_end source) n (a ∷ s)) (seen-next w source at old rest x)
      ∙ taken (text_end source) n at w _ (a ∷ s) (inside ++ s) (terminals_of source rest) p (omega (arith, one)) (replaced a w inside s _ b.only_rule),
)

pub opens_not : (w : Word) (source : LexedText) (d : ℕ) (old : List Lexeme) (e : SyntaxError) → NextIsNot w old → e ≡ unexpected_in source old → OpensBracket w source d old (Err e)
opens_not w source d old Memory h f = λ a inside b. tt
opens_not w source d old (Bad number at) h f = λ a inside b n s g. refused source n a s old b.needed (has_none a w inside old source.bytes.now b.only_rule h) number at f

pub opens_deep : (w : Word) (source : LexedText) (d at : ℕ) (old rest : List Lexeme) (e : SyntaxError) → is_unlimited w ≡ true → NextIs w at old rest → Deepens d at (Err e) → OpensBracket w source d old (Err e)
opens_deep w source d at old rest Memory p x h = λ a inside b. tt
opens_deep w source d at old rest (Bad number place) p x h = λ a inside b n s f.
    let one = b.one_level s in
    let fault : ◌≡◌ {A = Option PlacedFault} (Some (5, at)) (Some (number, place)) = cc in
    ap (judge (text_end source) n (a ∷ s)) (seen-next w source at old rest x)
    ∙ deep (text_end source) n at w _ (a ∷ s) (inside ++ s) (terminals_of source rest) p (omega (arith, one)) (replaced a w inside s _ b.only_rule) ∙ fault
