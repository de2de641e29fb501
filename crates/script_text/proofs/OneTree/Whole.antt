-- From lexemes to bytes.
use Rattle.std.proofs.Common.{◌≡◌, ℕ, List, [], ◌∷◌, drop, arith, length, Result, Ok, Err, IfOk, refl, sym, ap, ◌∙◌, subst}
use Rattle.script_tokens.specs.declared.token.Lexeme.{Lexeme}
use Rattle.script_tokens.specs.declared.lexing.LexEnd.{LexEnd}
use Rattle.script_tokens.specs.declared.lexing.LexEnd.TheVariants.{End}
use Rattle.script_tokens.specs.declared.version.Version.{Version}
use Rattle.script_tokens.specs.Version.{version_of, begins_at}
use Rattle.script_tokens.specs.Lexing.{IsLexed, Lexes}
use Rattle.script_tokens.proofs.LexingLemmas.{lexing_unique}
use Rattle.script_grammar.proofs.Versions.{are_of_cut}
use Rattle.script_text.specs.declared.error.SyntaxError.{SyntaxError}
use Rattle.script_text.specs.declared.error.SyntaxError.TheVariants.{Bad}
use Rattle.script_text.specs.declared.parser.source.LexedText.{LexedText}
use Rattle.script_grammar.specs.declared.tree.Script.{Script}
use Rattle.script_grammar.specs.declared.tree.Function.{Function}
use Rattle.script_grammar.specs.Grammar.{AreOf}
use Rattle.script_grammar.specs.Fault.{FaultAfter, IsProgram}
use Rattle.script_grammar.specs.Text.{tokens_of, Text, SyntaxFault}
use Rattle.script_text.specs.Reads.{terminals_of, text_end, Judges}
use Rattle.script_text.specs.Machine.{functions}
use Rattle.script_text.specs.Laws.{FaultIsUnique}
use Rattle.script_text.proofs.OneFault.Judged.{bad_is_fault, none_is_program, never_bad, of_none}
use Rattle.script_text.proofs.OneTree.Same.{same_functions}
use Rattle.script_text.proofs.OneFault.Unique.{one_fault}

module _ (source : LexedText) (bytes : List ℕ) (ls : List Lexeme) (stop : LexEnd) (b : source.bytes.now ≡ bytes) (e : source.end ≡ length bytes) (s : source.stop ≡ stop)
    (cut : IsLexed bytes source.version ls stop) where
  of_source : AreOf source.version (terminals_of source ls)
  of_source = subst (λ z. AreOf source.version (tokens_of z ls)) (sym b) (are_of_cut bytes source.version ls stop cut)

  pub ok_is_text : (r : Result Script SyntaxError) → Judges source ls r → IfOk r (λ x. Text bytes x)
  ok_is_text (Err g) j = tt
  ok_is_text (Ok x) j =
      let p = none_is_program source.version (text_end source) (terminals_of source ls) x.functions of_source j.2 j.1 in
      record {
        lexemes = ls;
        cut = subst (λ z. IsLexed bytes z ls End) (sym j.0) (subst (λ z. IsLexed bytes source.version ls z) (sym s ∙ p.0) cut);
        program = subst (λ z. IsProgram z (tokens_of bytes ls) x.functions) (sym j.0) (subst (λ z. IsProgram source.version (tokens_of z ls) x.functions) b p.1);
      }

  pub bad_is_syntax_fault : (r : Result Script SyntaxError) → Judges source ls r → (number at : ℕ) → r ≡ Err (Bad number at) → SyntaxFault bytes number at
  bad_is_syntax_fault r j number at g =
      let j' : Judges source ls (Err (Bad number at)) = subst (Judges source ls) g j in
      let f = bad_is_fault source.version (text_end source) (terminals_of source ls) number at of_source j' in
      let f' = subst (λ z. FaultAfter source.version (record { end = z; stop = stop }) [] (tokens_of bytes ls) number at) e
      (subst (λ z. FaultAfter source.version (record { end = source.end; stop = z }) [] (tokens_of bytes ls) number at) s
      (subst (λ z. FaultAfter source.version (text_end source) [] (tokens_of z ls) number at) b f)) in
      record {
        lexemes = ls;
        stop = stop;
        cut = subst (λ z. IsLexed bytes z ls stop) cut.told cut;
        fault = subst (λ z. FaultAfter z (record { end = length bytes; stop = stop }) [] (tokens_of bytes ls) number at) cut.told f';
      }

-- two ways to cut a text are one
pub cut_once : (bytes : List ℕ) (v w : Version) (ls ms : List Lexeme) (stop end : LexEnd) → IsLexed bytes v ls stop → IsLexed bytes w ms end → (v ≡ w) × (ls ≡ ms) × (stop ≡ end)
cut_once bytes v w ls ms stop end x y =
    let same : w ≡ v = y.told ∙ sym x.told in
    let y' : Lexes v (begins_at v) (drop (begins_at v) bytes) ms end = subst (λ z. Lexes z (begins_at z) (drop (begins_at z) bytes) ms end) same y.cut in
    let u = lexing_unique v (begins_at v) (drop (begins_at v) bytes) ls ms stop end x.cut y' in
    (sym same, u.0, u.1)

-- a text of a script has no fault
pub no_fault_in_text : (bytes : List ℕ) (x : Script) (number at : ℕ) → Text bytes x → SyntaxFault bytes number at → ⊥
no_fault_in_text bytes x number at t f =
    let u = cut_once bytes x.version (version_of bytes) t.lexemes f.lexemes End f.stop t.cut f.cut in
    let p : IsProgram (version_of bytes) (tokens_of bytes f.lexemes) x.functions =
    subst (λ z. IsProgram z (tokens_of bytes f.lexemes) x.functions) u.0 (subst (λ z. IsProgram x.version (tokens_of bytes z) x.functions) u.1 t.program) in
    never_bad (version_of bytes) (record { end = length bytes; stop = f.stop }) (tokens_of bytes f.lexemes) x.functions number at (sym u.2) p f.fault

-- and one tree
pub one_script : (bytes : List ℕ) (x y : Script) → Text bytes x → Text bytes y → x ≡ y
one_script bytes x y t u =
    let v = cut_once bytes x.version y.version t.lexemes u.lexemes End End t.cut u.cut in
    let p : IsProgram x.version (tokens_of bytes u.lexemes) x.functions = subst (λ z. IsProgram x.version (tokens_of bytes z) x.functions) v.1 t.program in
    let make : Version → List Function → Script = λ w fs. record { version = w; functions = fs } in
    ap (λ w. make w x.functions) v.0 ∙ ap (make y.version) (same_functions p.derives u.program.derives refl refl)

-- another text has one fault at most
pub fault_unique : FaultIsUnique
fault_unique bytes number at other place f g =
    let v = version_of bytes in
    let u = cut_once bytes v v f.lexemes g.lexemes f.stop g.stop f.cut g.cut in
    let same : FaultAfter v (record { end = length bytes; stop = f.stop }) [] (tokens_of bytes f.lexemes) other place =
    subst (λ z. FaultAfter v (record { end = length bytes; stop = z }) [] (tokens_of bytes f.lexemes) other place) (sym u.2)
    (subst (λ z. FaultAfter v (record { end = length bytes; stop = g.stop }) [] (tokens_of bytes z) other place) (sym u.1) g.fault) in
    one_fault v (record { end = length bytes; stop = f.stop }) (tokens_of bytes f.lexemes) [] (functions ∷ []) (of_none v) (are_of_cut bytes v f.lexemes f.stop f.cut) refl (omega arith) number at other place f.fault same
