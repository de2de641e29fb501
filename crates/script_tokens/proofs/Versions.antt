-- What the versions differ in: no token of version 1 is the word `scope`, and a text of version 2 is one that begins with the version's line.
use Rattle.std.proofs.Common.{◌≡◌, ℕ, ◌-◌, ◌≤◌, arith, List, [], ◌∷◌, ◌++◌, length, take, drop, Some, Bool, true, false, not, ◌&&◌, if◌then◌else◌, refl, sym, ap, ◌∙◌, subst, bytes_eq}
use Rattle.std.specs.Prelude.{unwrap_or}
use Rattle.std.specs.List.{list_all}
use Rattle.std.proofs.lemmas.Slice.Eq.{bytes_eq-Decides}
use Rattle.std.proofs.lemmas.List.{take-append-drop, length-append}
use Rattle.script_tokens.specs.declared.version.Version.{Version}
use Rattle.script_tokens.specs.declared.version.Version.TheVariants.{One, Two}
use Rattle.script_tokens.specs.declared.token.Word.{Word}
use Rattle.script_tokens.specs.declared.token.Word.TheVariants.{Name, Number}
use Rattle.script_tokens.specs.Version.{version_line, version_of, begins_at}
use Rattle.script_tokens.specs.Word.{Spelling, common_keywords, symbols, word_spelled, is_name, is_number, word_of, is_scope}
use Rattle.script_tokens.specs.Lexing.{stops, goes_on}
use Rattle.script_tokens.specs.Laws.{VersionOneHasNoScope, VersionsBegin}
use Rattle.script_tokens.proofs.LexingLemmas.{IsNext, lexeme_is_next}

abbrev pub IsOther : Word → Type 0
IsOther w = not (is_scope w) ≡ true

both : (x y : Bool) → (x && y) ≡ true → (x ≡ true) × (y ≡ true)
both true y e = (refl, e)
both false y e = cc

-- what a table without the word has no text for, as a word or as what stands for none
spelled_other : (table : List Spelling) (text : List ℕ) (w other : Word) → list_all (λ s. not (is_scope s.1)) table ≡ true → IsOther other →
    unwrap_or (word_spelled table text) other ≡ w → IsOther w
spelled_other [] text w other h o e = subst IsOther e o
spelled_other (s ∷ ss) text w other h o e =
    go (bytes_eq s.0 text) e (λ f. spelled_other ss text w other (both (not (is_scope s.1)) _ h).1 o f)
  where
    go : (b : Bool) → unwrap_or (if b then Some s.1 else word_spelled ss text) other ≡ w → (unwrap_or (word_spelled ss text) other ≡ w → IsOther w) → IsOther w
    go true f after = subst IsOther f (both (not (is_scope s.1)) _ h).0
    go false f after = after f

some_is : {A : Type 0} (x y d : A) → Some x ≡ Some y → x ≡ y
some_is x y d e = ap (λ o. unwrap_or o d) e

-- no token of version 1 is that word
pub token_other : (text : List ℕ) (w : Word) → word_of One text ≡ Some w → IsOther w
token_other text w e = go (is_name text) (is_number text) e
  where
    go : (x y : Bool) →
        (if x then Some (unwrap_or (word_spelled common_keywords text) Name) else if y then Some Number else word_spelled symbols text) ≡ Some w → IsOther w
    go true y f = spelled_other common_keywords text w Name refl refl (some_is _ _ Name f)
    go false true f = subst IsOther (some_is _ _ Name f) refl
    go false false f = spelled_other symbols text w Name refl refl (ap (λ o. unwrap_or o Name) f)

pub one_has_no_scope : VersionOneHasNoScope
one_has_no_scope from left [] stop (stops c) = refl
one_has_no_scope from left (l ∷ ls) stop (goes_on c x) =
    let n : IsNext One from left l = lexeme_is_next One from left l c in
    let here : IsOther l.word = token_other (take (l.end - l.start) (drop (l.start - from) left)) l.word n.text in
    ap (λ b. b && list_all (λ z. not (is_scope z.word)) ls) here ∙ one_has_no_scope l.end (drop (l.end - from) left) ls stop x

chosen : (b : Bool) → (if b then Two else One) ≡ Two → b ≡ true
chosen true e = refl
chosen false e = cc

pub version_two_begins : VersionsBegin
version_two_begins text = (
  (λ e. (
    drop 10 text,
    sym (take-append-drop 10 text) ∙ ap (λ z. z ++ drop 10 text) ((bytes_eq-Decides (take 10 text) version_line).0 (chosen _ e)),
  )),
  (λ r. ap version_of r.1),
)

-- a text is no shorter than the line of its version
pub begins_in : (version : Version) (bytes : List ℕ) → version ≡ version_of bytes → begins_at version ≤ length bytes
begins_in One bytes e = omega arith
begins_in Two bytes e = let r = (version_two_begins bytes).0 (sym e) in omega (arith, ap length r.1, length-append version_line r.0)
