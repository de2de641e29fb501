-- The canonical text of a script that was read is the text of the same tree apart from offsets.
use Rattle.std.proofs.Common.{◌≡◌, ℕ, zero, suc, ◌+◌, ◌<◌, ◌≤◌, List, [], ◌∷◌, ◌++◌, length, drop, map, flat_map, All, slice_get, Option, Some, None, Bool, true, false, ◌⊎◌, inl, inr, if◌then◌else◌, refl, sym, ap, ◌∙◌, subst, arith, append_assoc, append-nil}
use Rattle.std.proofs.lemmas.Bool.{cases_lt}
use Rattle.std.proofs.lemmas.List.{length-append}
use Rattle.script_tokens.specs.declared.version.Version.{Version}
use Rattle.script_tokens.specs.declared.version.Version.TheVariants.{One, Two}
use Rattle.script_tokens.specs.declared.token.Word.{Word}
use Rattle.script_tokens.specs.declared.token.Word.TheVariants as word
use Rattle.script_tokens.specs.declared.token.Lexeme.{Lexeme}
use Rattle.script_tokens.specs.Word.{word_of}
use Rattle.script_tokens.specs.Version.{version_of, begins_at}
use Rattle.script_tokens.specs.declared.lexing.LexEnd.TheVariants.{End}
use Rattle.script_tokens.specs.Lexing.{text_of, Lexes, IsLexed}
use Rattle.script_tokens.proofs.LexingLemmas.{lexemes_tokens}
use Rattle.script_tokens.proofs.Versions.{begins_in}
use Rattle.script_grammar.proofs.Versions.{are_of_cut}
use Rattle.script_grammar.specs.declared.tree.Function.{Function}
use Rattle.script_grammar.specs.declared.tree.Script.{Script}
use Rattle.script_grammar.specs.Grammar.{Terminal, tok, decimal, IsFunctions, IsScript, AreOf}
use Rattle.script_grammar.specs.Nesting.{functions_nesting}
use Rattle.script_grammar.specs.Fault.{is_fn, functions_begun, NestsAt, BreaksLimit, number_out_of_range, name_too_long, nested_too_deep, too_many_functions, WithinAfter, IsProgram}
use Rattle.script_grammar.specs.Text.{token_of, tokens_of, Text, IsOfText}
use Rattle.script_print.specs.Canonical.{function_text, version_text, canonical}
use Rattle.script_print.specs.Unplaced.{unplaced_function, unplaced, IsTextOf}
use Rattle.script_print.proofs.Cutting.{IsModest, Modest, Spells, spells_end, starts}
use Rattle.script_print.proofs.Forms.{Forms, any}
use Rattle.script_print.proofs.Eats.{functions_counted}
use Rattle.script_print.proofs.Expressions.{Low, IsSound, Sound}
use Rattle.script_print.proofs.Functions.{FunctionsOf, functions_shown}
use Rattle.script_print.proofs.Scan.{ScanState, effect, nested, step, scan, start, script_scanned}

-- The state after these tokens.
abbrev after : ScanState → List Terminal → ScanState
after s [] = s
after s (t ∷ ts) = after (step (effect t.word) s) ts

after-more : (s : ScanState) (before : List Terminal) (t : Terminal) → after s (before ++ t ∷ []) ≡ step (effect t.word) (after s before)
after-more s [] t = refl
after-more s (b ∷ bs) t = after-more (step (effect b.word) s) bs t

-- the nesting at a token is told by those before it
scan_at : (s : ScanState) (before : List Terminal) (t : Terminal) (more : List Terminal) → slice_get (scan s (before ++ t ∷ more)) (length before) ≡ Some (nested (effect t.word) (after s before))
scan_at s [] t more = refl
scan_at s (b ∷ bs) t more = scan_at (step (effect b.word) s) bs t more

nested_there : (before : List Terminal) (t : Terminal) (more : List Terminal) (fs : List Function) (d : IsScript (before ++ t ∷ more) fs) →
    slice_get (functions_nesting d 0) (length before) ≡ Some (nested (effect t.word) (after start before))
nested_there before t more fs d = ap (λ z. slice_get z (length before)) (script_scanned d) ∙ scan_at start before t more

-- Of a program the nestings are within the limit, and it begins no more functions than it may.

low_after : (version : Version) (before ts : List Terminal) (fs : List Function) → AreOf version (before ++ ts) → IsScript (before ++ ts) fs → WithinAfter version before ts → Low (scan (after start before) ts)
low_after version before [] fs of d w = tt
low_after version before (t ∷ ts) fs of d w =
    let n : ℕ = nested (effect t.word) (after start before) in
    let is : NestsAt version before t n = (ts, fs, of, d, nested_there before t ts fs d) in
    let here : n ≤ 64 = go (cases_lt 64 n) is in
    let others : Low (scan (after start (before ++ t ∷ [])) ts) = low_after version (before ++ t ∷ []) ts fs (subst (AreOf version) (sym (append_assoc before (t ∷ []) ts)) of) (subst (λ z. IsScript z fs) (sym (append_assoc before (t ∷ []) ts)) d) w.1 in
    (here, subst (λ z. Low (scan z ts)) (after-more start before t) others)
  where
    go : {n : ℕ} → (64 < n) ⊎ (n ≤ 64) → NestsAt version before t n → n ≤ 64
    go (inl h) is = absurd (w.0 5 (nested_too_deep is h))
    go (inr h) is = h

begun-append : (before : List Terminal) (ts : List Terminal) → functions_begun (before ++ ts) ≡ functions_begun before + functions_begun ts
begun-append [] ts = omega arith
begun-append (b ∷ bs) ts = go (is_fn b.word) (begun-append bs ts)
  where
    go : (c : Bool) → functions_begun (bs ++ ts) ≡ functions_begun bs + functions_begun ts →
        (if c then suc (functions_begun (bs ++ ts)) else functions_begun (bs ++ ts)) ≡ (if c then suc (functions_begun bs) else functions_begun bs) + functions_begun ts
    go true e = omega (arith, e)
    go false e = e

is_fn_word : (w : Word) → is_fn w ≡ true → w ≡ word.Fn
is_fn_word word.Fn e = refl
is_fn_word _ e = absurd cc

few_functions : (version : Version) (before ts : List Terminal) → functions_begun before ≤ 1024 → WithinAfter version before ts → functions_begun (before ++ ts) ≤ 1024
few_functions version before [] h w = subst (λ z. functions_begun z ≤ 1024) (sym (append-nil before)) h
few_functions version before (t ∷ ts) h w =
    subst (λ z. functions_begun z ≤ 1024) (append_assoc before (t ∷ []) ts)
    (few_functions version (before ++ t ∷ []) ts (omega (arith, begun-append before (t ∷ []), here (is_fn t.word) refl)) w.1)
  where
    here : (c : Bool) → is_fn t.word ≡ c → functions_begun before + (if c then 1 else 0) ≤ 1024
    here true e = go (cases_lt (functions_begun before) 1024)
      where
        go : (functions_begun before < 1024) ⊎ (1024 ≤ functions_begun before) → functions_begun before + 1 ≤ 1024
        go (inl k) = omega arith
        go (inr k) = absurd (w.0 7 (too_many_functions (is_fn_word t.word e) k))
    here false e = omega arith

modest_after : (version : Version) (before : List Terminal) (t : Terminal) → ((n : ℕ) → BreaksLimit version before t n → ⊥) → IsModest t
modest_after version before t w = record { number = λ e. number (cases_lt 9223372036854775807 (decimal 0 t.text)) e; name = λ e. name (cases_lt 32 (length t.text)) e }
  where
    number : (9223372036854775807 < decimal 0 t.text) ⊎ (decimal 0 t.text ≤ 9223372036854775807) → t.word ≡ word.Number → decimal 0 t.text ≤ 9223372036854775807
    number (inl h) e = absurd (w 3 (number_out_of_range e h))
    number (inr h) e = h

    name : (32 < length t.text) ⊎ (length t.text ≤ 32) → t.word ≡ word.Name → length t.text ≤ 32
    name (inl h) e = absurd (w 4 (name_too_long e h))
    name (inr h) e = h

sound_tokens : (version : Version) (bytes : List ℕ) (before : List Terminal) (ls : List Lexeme) → All (λ l. word_of version (text_of bytes l) ≡ Some l.word) ls → WithinAfter version before (tokens_of bytes ls) → Sound version (tokens_of bytes ls)
sound_tokens version bytes before [] h w = tt
sound_tokens version bytes before (l ∷ ls) h w = (
  record { word_is = h 0 l (omega arith); modest = modest_after version before (token_of bytes l) w.0 },
  sound_tokens version bytes (before ++ token_of bytes l ∷ []) ls (λ k d below. h (suc k) d (omega arith)) w.1,
)

-- Tokens of which all that holds are a program.

same_some : {m n : ℕ} → ◌≡◌ {A = Option ℕ} (Some m) (Some n) → m ≡ n
same_some e = cc

none_breaks : (version : Version) (before : List Terminal) (t : Terminal) (n : ℕ) → IsModest t → nested (effect t.word) (after start before) ≤ 64 → functions_begun before + functions_begun (t ∷ []) ≤ 1024 → BreaksLimit version before t n → ⊥
none_breaks version before t n m low few (number_out_of_range e h) = omega (arith, m.number e, h)
none_breaks version before t n m low few (name_too_long e h) = omega (arith, m.name e, h)
none_breaks version before t n m low few (nested_too_deep {n = k} (more, fs, of, d, e) h) =
    let same : nested (effect t.word) (after start before) ≡ k = same_some (sym (nested_there before t more fs d) ∙ e) in
    omega (arith, low, same, h)
none_breaks version before t n m low few (too_many_functions e h) =
    let one : functions_begun (t ∷ []) ≡ 1 = ap (λ w. if is_fn w then 1 else 0) e in
    omega (arith, few, one, h)

within_after : (version : Version) (before ts : List Terminal) → Modest ts → Low (scan (after start before) ts) → functions_begun (before ++ ts) ≤ 1024 → WithinAfter version before ts
within_after version before [] m low few = tt
within_after version before (t ∷ ts) m low few =
    let all : functions_begun ((before ++ t ∷ []) ++ ts) ≤ 1024 = subst (λ z. functions_begun z ≤ 1024) (sym (append_assoc before (t ∷ []) ts)) few in
    let front : functions_begun before + functions_begun (t ∷ []) ≤ 1024 = omega (arith, all, begun-append (before ++ t ∷ []) ts, begun-append before (t ∷ [])) in (
      λ n. none_breaks version before t n m.0 low.0 front,
      within_after version (before ++ t ∷ []) ts m.1 (subst (λ z. Low (scan z ts)) (sym (after-more start before t)) low.1) all,
    )

count_same : (fs gs : List Function) → map unplaced_function fs ≡ map unplaced_function gs → length fs ≡ length gs
count_same [] [] e = refl
count_same [] (g ∷ gs) e = absurd cc
count_same (f ∷ fs) [] e = absurd cc
count_same (f ∷ fs) (g ∷ gs) e = let after : map unplaced_function fs ≡ map unplaced_function gs = cc in ap suc (count_same fs gs after)

-- the tokens of the canonical text, and what they derive
program_of : (version : Version) (fs gs : List Function) (us : List Terminal) (d : IsScript us gs) → AreOf version us → Low (functions_nesting d 0) → map unplaced_function gs ≡ map unplaced_function fs → Modest us → length fs ≤ 1024 → IsProgram version us gs
program_of version fs gs us d of low same modest few = record {
  of_version = of;
  derives = d;
  within = within_after version [] us modest (subst Low (script_scanned d) low) (omega (arith, functions_counted d, count_same gs fs same, few));
}

-- The version's line

line_ends : (version : Version) → length (version_text version) ≡ begins_at version
line_ends One = refl
line_ends Two = refl

after_line : (version : Version) (text : List ℕ) → drop (begins_at version) (version_text version ++ text) ≡ text
after_line One text = refl
after_line Two text = refl

-- functions begin with no version's line
line_told : (version : Version) (fs : List Function) → version ≡ version_of (version_text version ++ flat_map function_text fs)
line_told One [] = refl
line_told One (f ∷ fs) = refl
line_told Two fs = refl

pub canonical_is_text : (script : Script) → IsOfText script → IsTextOf (canonical script) script
canonical_is_text script o =
    let version = script.version in
    let bytes = o.bytes in
    let ls = o.text.lexemes in
    let ts : List Terminal = tokens_of bytes ls in
    let text = flat_map function_text script.functions in
    let d : IsScript ts script.functions = o.text.program.derives in
    let within : WithinAfter version [] ts = o.text.program.within in
    let low : Low (functions_nesting d 0) = subst Low (sym (script_scanned d)) (low_after version [] ts script.functions o.text.program.of_version d within) in
    let sound : Sound version ts = sound_tokens version bytes [] ls (lexemes_tokens version bytes (begins_at version) ls _ (begins_within o) o.text.cut.cut) within in
    let few : length script.functions ≤ 1024 = omega (arith, functions_counted d, few_functions version [] ts (omega arith) within) in
    let cut = (functions_shown d 0 low sound).cut [] (λ at. []) refl spells_end (begins_at version) in
    let spells : Spells version (begins_at version) text cut.tokens = subst (λ z. Spells version (begins_at version) z cut.tokens) (append-nil text) cut.spells in
    let is_cut : IsLexed (canonical script) version spells.lexemes End =
    record { told = line_told version script.functions; cut = subst (λ z. Lexes version (begins_at version) z spells.lexemes End) (sym (after_line version text)) spells.cut } in
    let tokens : tokens_of (canonical script) spells.lexemes ≡ cut.tokens = spells.texts (version_text version) (line_ends version) in
    let of : AreOf version cut.tokens = subst (AreOf version) tokens (are_of_cut (canonical script) version spells.lexemes End is_cut) in
    let program : IsProgram version cut.tokens cut.form.tree = program_of version script.functions cut.form.tree cut.tokens cut.form.derived of cut.form.low cut.form.same spells.modest few in (
      record { version = version; functions = cut.form.tree },
      record { lexemes = spells.lexemes; cut = is_cut; program = subst (λ z. IsProgram version z cut.form.tree) (sym tokens) program },
      ap (λ (z : List Function). record { version = version; functions = z }) cut.form.same,
    )
  where
    -- a text of version 2 has its line
    begins_within : (o : IsOfText script) → begins_at script.version ≤ length o.bytes
    begins_within o = begins_in script.version o.bytes o.text.cut.told
