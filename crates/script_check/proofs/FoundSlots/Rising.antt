-- In a text each variable stands after those that are named before it, and each called name after those that are called before it.
use Rattle.std.proofs.Common.{ℕ, suc, ◌+◌, ◌≤◌, List, [], ◌∷◌, length, drop, map, arith}
use Rattle.script_tokens.specs.declared.token.Lexeme.{Lexeme}
use Rattle.script_tokens.specs.declared.lexing.LexEnd.TheVariants.{End}
use Rattle.script_tokens.specs.Laws.{InOrder}
use Rattle.script_tokens.specs.Version.{begins_at}
use Rattle.script_tokens.proofs.LexingLemmas.{lexemes_in_order}
use Rattle.script_grammar.specs.declared.tree.Name.{Name}
use Rattle.script_grammar.specs.declared.tree.Script.{Script}
use Rattle.script_grammar.specs.Grammar.{Terminal, IsFunctions}
use Rattle.script_grammar.specs.Text.{IsOfText, tokens_of}
use Rattle.script_check.specs.Slots.{called_in, joined, named_in_function}
use Rattle.script_check.proofs.FoundSlots.Called.{functions-picked}
use Rattle.script_check.proofs.FoundSlots.Picked.{Picked, no_more, passed, picked, in_functions}

-- they stand from the offset on, each after the one before it
abbrev pub Rises : ℕ → List Name → Type 0
Rises from [] = Unit {0}
Rises from (x ∷ xs) = (from ≤ x.at) × Rises (suc x.at) xs

abbrev TokensRise : ℕ → List Terminal → Type 0
TokensRise from [] = Unit {0}
TokensRise from (t ∷ ts) = (from ≤ t.at) × TokensRise (suc t.at) ts

pub sooner : (m n : ℕ) (xs : List Name) → m ≤ n → Rises n xs → Rises m xs
sooner m n [] h r = tt
sooner m n (x ∷ xs) h r = (omega (arith, h, r.0), r.1)

tokens-sooner : (m n : ℕ) (ts : List Terminal) → m ≤ n → TokensRise n ts → TokensRise m ts
tokens-sooner m n [] h r = tt
tokens-sooner m n (t ∷ ts) h r = (omega (arith, h, r.0), r.1)

tokens-rise : (bytes : List ℕ) (from end : ℕ) (ls : List Lexeme) → InOrder from end ls → TokensRise from (tokens_of bytes ls)
tokens-rise bytes from end [] h = tt
tokens-rise bytes from end (l ∷ ls) h =
    (h.0, tokens-sooner (suc l.start) l.end (tokens_of bytes ls) (omega (arith, h.1)) (tokens-rise bytes l.end end ls h.2))

picked-rise : (from : ℕ) {xs : List Name} {ts rest : List Terminal} → Picked xs ts rest → TokensRise from ts → Rises from xs
picked-rise from no_more r = tt
picked-rise from (passed {xs} {t} d) r = sooner from (suc t.at) xs (omega (arith, r.0)) (picked-rise (suc t.at) d r.1)
picked-rise from (picked {a} d) r = (r.0, picked-rise (suc a) d r.1)

-- what is picked of a script's text
text-rises : (script : Script) → IsOfText script → (names : List Name) → ((ts : List Terminal) → IsFunctions ts script.functions [] → Picked names ts []) → Rises 0 names
text-rises script is names picks =
    let text = is.text in
    let from = begins_at script.version in
    let left = drop from is.bytes in
    let order : InOrder from (from + length left) text.lexemes = lexemes_in_order script.version from left text.lexemes End text.cut.cut in
    sooner 0 from names (omega arith) (picked-rise from (picks (tokens_of is.bytes text.lexemes) text.program.derives) (tokens-rise is.bytes from (from + length left) text.lexemes order))

pub script-rises : (script : Script) → IsOfText script → Rises 0 (joined (map named_in_function script.functions))
script-rises script is = text-rises script is (joined (map named_in_function script.functions)) (λ ts d. in_functions d)

pub calls-rise : (script : Script) → IsOfText script → Rises 0 (called_in script.functions)
calls-rise script is = text-rises script is (called_in script.functions) (λ ts d. functions-picked d)
