use Rattle.std.proofs.Common.{◌∙◌, sym}
use Rattle.std.specs.Cmp.Lexicographic.{same_text, other_text}
use Rattle.script_text.proofs.Parsing.Loops.{repeats, repeats_other, repeats_missing}
use Rattle.script_text.proofs.parser.parallel_loop.repeated.Goals as goal

pub returns-in_default : goal.returns-in_default
returns-in_default c = repeats_missing c.args.source.now c.args.depth c.args.name.now.bytes c.args.tokens.now _ c.in_default.ensures c.unexpected.ensures

pub returns-then-eq : goal.returns-then-eq
returns-then-eq c =
    repeats c.args.source.now c.args.depth c.args.name.now.bytes c.args.tokens.now _ _ c.requires.short c.requires.depth c.in-Some.ensures
    (sym c.text.ensures ∙ same_text c.text.result.now c.as_slice.result.now (sym c.if-eq.true ∙ c.eq.ensures) ∙ c.as_slice.ensures)

pub returns-else-eq : goal.returns-else-eq
returns-else-eq c =
    repeats_other c.args.source.now c.args.depth c.args.name.now.bytes c.args.tokens.now c.in-Some.rest.now c.in-Some.lexeme _ c.in-Some.ensures
    (λ q. other_text c.text.result.now c.as_slice.result.now (sym c.if-eq.false ∙ c.eq.ensures) (c.text.ensures ∙ q ∙ sym c.as_slice.ensures)) c.unexpected-else-eq.ensures
