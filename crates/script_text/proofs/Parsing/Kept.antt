-- What was read, where something was kept beside it.
use Rattle.std.proofs.Common.{◌≡◌, ℕ, List, [], ◌∷◌, Result, Ok, Err, sym, subst}
use Rattle.std.specs.Borrow.{Bor}
use Rattle.script_tokens.specs.declared.token.Word.{Word}
use Rattle.script_tokens.specs.declared.token.Lexeme.{Lexeme}
use Rattle.script_text.specs.declared.error.SyntaxError.{SyntaxError}
use Rattle.script_text.specs.declared.parser.source.LexedText.{LexedText}
use Rattle.script_grammar.specs.Grammar.{Terminal}
use Rattle.script_text.specs.Machine.{Sym, only}
use Rattle.script_text.specs.Zips.{Zips}
use Rattle.script_text.specs.Reads.{Errs, Reads, PassesWord}
use Rattle.script_text.proofs.Parsing.Steps.{Comes, Passed}

pub passed : (w : Word) (source : LexedText) (d : ℕ) (old : List Lexeme) (r : Result (Bor (List Lexeme)) SyntaxError) (rest : Bor (List Lexeme)) → r ≡ Ok rest → PassesWord w source d old r → Passed w source d old rest.now
passed w source d old r rest e f = subst (PassesWord w source d old) e f

pub passed_not : (w : Word) (source : LexedText) (d : ℕ) (old : List Lexeme) (r : Result (Bor (List Lexeme)) SyntaxError) (fault : SyntaxError) → r ≡ Err fault → PassesWord w source d old r → Errs (only w ∷ []) source d old fault
passed_not w source d old r fault e f = subst (PassesWord w source d old) e f

module _ {X : Type 0} (R : List Terminal → X → List Terminal → Type 0) (front : List Sym) (source : LexedText) (d : ℕ) (old : List Lexeme) where
  pub came : (r : Result (X × Bor (List Lexeme)) SyntaxError) (p : X × Bor (List Lexeme)) → r ≡ Ok p → Reads R front source d old r → Comes R front source d old p.0 p.1.now
  came r p e f = subst (Reads R front source d old) e f

  pub came_not : (r : Result (X × Bor (List Lexeme)) SyntaxError) (fault : SyntaxError) → r ≡ Err fault → Reads R front source d old r → Errs front source d old fault
  came_not r fault e f = subst (Reads R front source d old) e f

  -- what was read, and the word after it
  pub kept : (w : Word) (d' : ℕ) (mid : List Lexeme) (x : X) (r : Result (Bor (List Lexeme)) SyntaxError) (result : Result (X × Bor (List Lexeme)) SyntaxError) → PassesWord w source d' mid r → Zips x r result
      → ((last : List Lexeme) → Passed w source d' mid last → Comes R front source d old x last) → ((fault : SyntaxError) → Errs (only w ∷ []) source d' mid fault → Errs front source d old fault) → Reads R front source d old result
  kept w d' mid x r (Ok p) a b f g = subst (λ z. Comes R front source d old z p.1.now) (sym b.0) (f p.1.now (subst (PassesWord w source d' mid) b.1 a))
  kept w d' mid x r (Err e) a b f g = g e (subst (PassesWord w source d' mid) b a)
