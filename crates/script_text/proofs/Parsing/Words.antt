-- Words are told apart by their codes.
use Rattle.std.proofs.Common.{◌≡◌, ℕ, true, nat_eq, if◌then◌else◌, refl, sym, ap, ◌∙◌}
use Rattle.std.proofs.lemmas.Bool.{eqb-true, eq-eqb}
use Rattle.script_tokens.specs.declared.token.Word.{Word}
use Rattle.script_tokens.specs.declared.token.Word.TheVariants as word
use Rattle.script_text.specs.Machine.{word_number, same_word}

-- the word with that code
abbrev word_of : ℕ → Word
word_of k =
    if nat_eq k 0 then word.Name
    else if nat_eq k 1 then word.Number
    else if nat_eq k 2 then word.Fn
    else if nat_eq k 3 then word.Id
    else if nat_eq k 4 then word.Let
    else if nat_eq k 5 then word.Spawn
    else if nat_eq k 6 then word.Call
    else if nat_eq k 7 then word.Sync
    else if nat_eq k 8 then word.Print
    else if nat_eq k 9 then word.If
    else if nat_eq k 10 then word.Else
    else if nat_eq k 11 then word.While
    else if nat_eq k 12 then word.Pfor
    else if nat_eq k 13 then word.In
    else if nat_eq k 14 then word.Into
    else if nat_eq k 15 then word.Draw
    else if nat_eq k 16 then word.New
    else if nat_eq k 17 then word.Return
    else if nat_eq k 18 then word.Same
    else if nat_eq k 19 then word.Older
    else if nat_eq k 20 then word.Open
    else if nat_eq k 21 then word.Close
    else if nat_eq k 22 then word.OpenBlock
    else if nat_eq k 23 then word.CloseBlock
    else if nat_eq k 24 then word.OpenItem
    else if nat_eq k 25 then word.CloseItem
    else if nat_eq k 26 then word.Comma
    else if nat_eq k 27 then word.Semicolon
    else if nat_eq k 28 then word.Assign
    else if nat_eq k 29 then word.Plus
    else if nat_eq k 30 then word.Minus
    else if nat_eq k 31 then word.Times
    else if nat_eq k 32 then word.Over
    else if nat_eq k 33 then word.Modulo
    else if nat_eq k 34 then word.Eq
    else if nat_eq k 35 then word.Ne
    else if nat_eq k 36 then word.Lt
    else if nat_eq k 37 then word.Le
    else if nat_eq k 38 then word.Gt
    else if nat_eq k 39 then word.Ge
    else if nat_eq k 40 then word.Arrow
    else if nat_eq k 41 then word.Range
    else word.Scope

word_of-code : (w : Word) → word_of (word_number w) ≡ w
word_of-code word.Name = refl
word_of-code word.Number = refl
word_of-code word.Fn = refl
word_of-code word.Id = refl
word_of-code word.Let = refl
word_of-code word.Spawn = refl
word_of-code word.Call = refl
word_of-code word.Sync = refl
word_of-code word.Print = refl
word_of-code word.If = refl
word_of-code word.Else = refl
word_of-code word.While = refl
word_of-code word.Pfor = refl
word_of-code word.In = refl
word_of-code word.Into = refl
word_of-code word.Draw = refl
word_of-code word.New = refl
word_of-code word.Return = refl
word_of-code word.Same = refl
word_of-code word.Older = refl
word_of-code word.Open = refl
word_of-code word.Close = refl
word_of-code word.OpenBlock = refl
word_of-code word.CloseBlock = refl
word_of-code word.OpenItem = refl
word_of-code word.CloseItem = refl
word_of-code word.Comma = refl
word_of-code word.Semicolon = refl
word_of-code word.Assign = refl
word_of-code word.Plus = refl
word_of-code word.Minus = refl
word_of-code word.Times = refl
word_of-code word.Over = refl
word_of-code word.Modulo = refl
word_of-code word.Eq = refl
word_of-code word.Ne = refl
word_of-code word.Lt = refl
word_of-code word.Le = refl
word_of-code word.Gt = refl
word_of-code word.Ge = refl
word_of-code word.Arrow = refl
word_of-code word.Range = refl
word_of-code word.Scope = refl

pub same_words : (v w : Word) → same_word v w ≡ true → v ≡ w
same_words v w e = sym (word_of-code v) ∙ ap word_of (eqb-true (word_number v) (word_number w) e) ∙ word_of-code w

pub same_word-refl : (w : Word) → same_word w w ≡ true
same_word-refl w = eq-eqb (word_number w) (word_number w) refl
