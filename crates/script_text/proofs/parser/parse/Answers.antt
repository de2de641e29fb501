use Rattle.std.proofs.Common.{length, refl, sym, subst}
use Rattle.script_tokens.specs.Lexing.{IsLexed}
use Rattle.script_text.proofs.OneTree.Whole.{ok_is_text, bad_is_syntax_fault, no_fault_in_text, one_script}
use Rattle.script_text.proofs.parser.parse.Goals as goal

pub returns-in_err-lexed-clause-one_tree : goal.returns-in_err-lexed-clause-one_tree
returns-in_err-lexed-clause-one_tree c = λ x y t u. one_script c.args.bytes.now x y t u

pub returns-clause-one_tree : goal.returns-clause-one_tree
returns-clause-one_tree c = λ x y t u. one_script c.args.bytes.now x y t u

pub returns-clause-ok : goal.returns-clause-ok
returns-clause-ok c =
    ok_is_text (record { alloc = c.args.alloc; bytes = c.args.bytes; version = c.in_ok-lexed.lexed.version; end = length c.args.bytes.now; stop = c.in_ok-lexed.lexed.stop }) c.args.bytes.now c.as_slice.result.now c.in_ok-lexed.lexed.stop refl refl refl
    (subst (λ z. IsLexed c.args.bytes.now c.in_ok-lexed.lexed.version z c.in_ok-lexed.lexed.stop) (sym c.as_slice.ensures.value) c.in_ok-lexed.ensures) c.script.result c.script.ensures

pub returns-clause-bad : goal.returns-clause-bad
returns-clause-bad c = λ number at e.
    bad_is_syntax_fault (record { alloc = c.args.alloc; bytes = c.args.bytes; version = c.in_ok-lexed.lexed.version; end = length c.args.bytes.now; stop = c.in_ok-lexed.lexed.stop }) c.args.bytes.now c.as_slice.result.now c.in_ok-lexed.lexed.stop refl refl refl
    (subst (λ z. IsLexed c.args.bytes.now c.in_ok-lexed.lexed.version z c.in_ok-lexed.lexed.stop) (sym c.as_slice.ensures.value) c.in_ok-lexed.ensures) c.script.result c.script.ensures number at e

pub returns-clause-only : goal.returns-clause-only
returns-clause-only c = λ tree number at t e. no_fault_in_text c.args.bytes.now tree number at t
    (bad_is_syntax_fault (record { alloc = c.args.alloc; bytes = c.args.bytes; version = c.in_ok-lexed.lexed.version; end = length c.args.bytes.now; stop = c.in_ok-lexed.lexed.stop }) c.args.bytes.now c.as_slice.result.now c.in_ok-lexed.lexed.stop refl refl refl
    (subst (λ z. IsLexed c.args.bytes.now c.in_ok-lexed.lexed.version z c.in_ok-lexed.lexed.stop) (sym c.as_slice.ensures.value) c.in_ok-lexed.ensures) c.script.result c.script.ensures number at e)
