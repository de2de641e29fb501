-- How a text that is put together from tokens and blanks is cut.
use Rattle.std.proofs.Common.{◌≡◌, ℕ, zero, suc, ◌+◌, ◌-◌, ◌<◌, ◌≤◌, List, [], ◌∷◌, ◌++◌, length, take, drop, map, Option, Some, None, Bool, true, false, Result, Ok, Err, refl, sym, ap, ◌∙◌, subst, arith, add-zero, append_assoc, append-nil}
use Rattle.std.proofs.lemmas.List.{length-append}
use Rattle.std.proofs.Math.Seq.{drop-append_seam}
use Rattle.script_tokens.specs.declared.token.Word.{Word}
use Rattle.script_tokens.specs.declared.token.Word.TheVariants.{Name, Number}
use Rattle.script_tokens.specs.declared.token.Lexeme.{Lexeme}
use Rattle.script_tokens.specs.declared.lexing.LexEnd.{LexEnd}
use Rattle.script_tokens.specs.declared.lexing.LexEnd.TheVariants.{End}
use Rattle.script_tokens.specs.Word.{word_of}
use Rattle.script_tokens.specs.Lexing.{is_blank, IsLongest, LexemeAt, the_end, Lexes, stops, lexeme, text_of}
use Rattle.script_tokens.proofs.Building.{one_more_byte, lexes_token, lexes_blank}
use Rattle.script_grammar.specs.Grammar.{Terminal, tok, decimal}
use Rattle.script_grammar.specs.Text.{tokens_of}
use Rattle.script_tokens.specs.declared.version.Version.{Version}

-- within the limits on numbers and names
pub record IsModest (t : Terminal) : Type 0 where
  pub number : t.word ≡ Number → decimal 0 t.text ≤ 9223372036854775807
  pub name : t.word ≡ Name → length t.text ≤ 32

abbrev pub Modest : List Terminal → Type 0
Modest [] = Unit {0}
Modest (t ∷ ts) = IsModest t × Modest ts

-- From the offset `at` on a text goes on with these bytes, and they are cut into these tokens up to its end.
pub record Spells (version : Version) (at : ℕ) (bytes : List ℕ) (ts : List Terminal) : Type 0 where
  pub lexemes : List Lexeme
  pub cut : Lexes version at bytes lexemes End
  pub texts : (front : List ℕ) → length front ≡ at → tokens_of (front ++ bytes) lexemes ≡ ts
  pub modest : Modest ts

pub spells_end : {version : Version} (at : ℕ) → Spells version at [] []
spells_end {version = version} at = record {
  lexemes = [];
  cut = stops (subst (λ n. LexemeAt version n [] (Err End)) (sym (add-zero at)) the_end);
  texts = λ front e. refl;
  modest = tt;
}

pub take_front : (text rest : List ℕ) → take (length text) (text ++ rest) ≡ text
take_front [] rest = refl
take_front (b ∷ bs) rest = ap (λ z. b ∷ z) (take_front bs rest)

pub take_one_more : (text : List ℕ) (b : ℕ) (rest : List ℕ) → take (suc (length text)) (text ++ b ∷ rest) ≡ text ++ b ∷ []
take_one_more [] b rest = refl
take_one_more (c ∷ cs) b rest = ap (λ z. c ∷ z) (take_one_more cs b rest)

drop_front : (front rest : List ℕ) (n : ℕ) → length front ≡ n → drop n (front ++ rest) ≡ rest
drop_front front rest n e = ap (λ z. drop z (front ++ rest)) (sym e) ∙ drop-append_seam front rest

text_there : (front text rest : List ℕ) (at : ℕ) (w : Word) → length front ≡ at → text_of (front ++ (text ++ rest)) (lexeme w at (at + length text)) ≡ text
text_there front text rest at w e =
    let size : at + length text - at ≡ length text = omega arith in
    ap (λ n. take n (drop at (front ++ (text ++ rest)))) size ∙ ap (take (length text)) (drop_front front (text ++ rest) at e) ∙ take_front text rest

-- a token in front
pub spells_token : {version : Version} (at : ℕ) (w : Word) (text rest : List ℕ) (ts : List Terminal) → IsLongest version (text ++ rest) (length text) w → IsModest (tok at w text) →
    Spells version (at + length text) rest ts → Spells version at (text ++ rest) (tok at w text ∷ ts)
spells_token {version = version} at w text rest ts longest m s = record {
  lexemes = lexeme w at (at + length text) ∷ s.lexemes;
  cut = lexes_token version at text rest w s.lexemes End longest s.cut;
  texts = λ front e.
      let size : length (front ++ text) ≡ at + length text = length-append front text ∙ ap (λ n. n + length text) e in
      let others : tokens_of (front ++ (text ++ rest)) s.lexemes ≡ ts = ap (λ z. tokens_of z s.lexemes) (sym (append_assoc front text rest)) ∙ s.texts (front ++ text) size in
      ap (λ z. tok at w z ∷ tokens_of (front ++ (text ++ rest)) s.lexemes) (text_there front text rest at w e) ∙ ap (λ z. tok at w text ∷ z) others;
  modest = (m, s.modest);
}

-- a blank in front
pub spells_blank : {version : Version} (at b : ℕ) (rest : List ℕ) (ts : List Terminal) → is_blank b ≡ true → Spells version (suc at) rest ts → Spells version at (b ∷ rest) ts
spells_blank {version = version} at b rest ts h s = record {
  lexemes = s.lexemes;
  cut = lexes_blank version h s.cut;
  texts = λ front e.
      let size : length (front ++ b ∷ []) ≡ suc at = length-append front (b ∷ []) ∙ (omega (arith, e)) in
      ap (λ z. tokens_of z s.lexemes) (sym (append_assoc front (b ∷ []) rest)) ∙ s.texts (front ++ b ∷ []) size;
  modest = s.modest;
}

-- whether the bytes are none, or the first one passes
abbrev pub starts : (ℕ → Bool) → List ℕ → Bool
starts f [] = true
starts f (b ∷ bs) = f b

-- a token is the longest, where no byte that may stand after it makes one more token of it
pub longest_by : {version : Version} (w : Word) (text : List ℕ) (f : ℕ → Bool) → word_of version text ≡ Some w → ((b : ℕ) → f b ≡ true → word_of version (text ++ b ∷ []) ≡ None) →
    (rest : List ℕ) → starts f rest ≡ true → IsLongest version (text ++ rest) (length text) w
longest_by {version = version} w text f e none [] s =
    one_more_byte version (text ++ []) (length text) w (omega (arith, length-append text [])) (ap (word_of version) (take_front text []) ∙ e)
    (λ h. absurd (omega (arith, length-append text [], h)))
longest_by {version = version} w text f e none (b ∷ bs) s =
    one_more_byte version (text ++ b ∷ bs) (length text) w (omega (arith, length-append text (b ∷ bs))) (ap (word_of version) (take_front text (b ∷ bs)) ∙ e)
    (λ h. ap (word_of version) (take_one_more text b bs) ∙ none b s)
