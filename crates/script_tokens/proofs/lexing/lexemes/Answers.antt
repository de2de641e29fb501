use Rattle.std.proofs.Common.{arith}
use Rattle.script_tokens.proofs.LexingLemmas.{begins_all, begins_more, begins_nothing, next_ends}
use Rattle.script_tokens.proofs.Versions.{begins_in}
use Rattle.script_tokens.proofs.lexing.lexemes.Goals as goal

pub loop-lexeme-init : goal.loop-lexeme-init
loop-lexeme-init c = record {
  within = omega (arith, c.begins_at-from.ensures, begins_in _ c.args.bytes.now c.of-version.ensures);
  so_far = begins_nothing _ c.args.bytes.now _ _ _ c.new-lexemes.ensures.items c.begins_at-from.ensures;
}

pub loop-lexeme-smaller : goal.loop-lexeme-smaller
loop-lexeme-smaller c =
    omega (arith, next_ends _ c.args.bytes.now _ _ c.in-Ok.lexeme c.loop-lexeme.invariant.within c.next_lexeme.ensures c.in-Ok.is)

pub loop-lexeme-preserved : goal.loop-lexeme-preserved
loop-lexeme-preserved c = record {
  within = (next_ends _ c.args.bytes.now _ _ c.in-Ok.lexeme c.loop-lexeme.invariant.within c.next_lexeme.ensures c.in-Ok.is).1;
  so_far = begins_more _ c.args.bytes.now _ _ _ _ _ c.in-Ok.lexeme c.loop-lexeme.invariant.so_far c.next_lexeme.ensures c.in-Ok.is c.in_ok-push-in-Ok.ensures.items;
}

pub returns-in-Err : goal.returns-in-Err
returns-in-Err c = record {
  told = c.of-version.ensures;
  cut = begins_all _ c.args.bytes.now _ _ _ _ _ c.loop-lexeme.invariant.so_far c.next_lexeme.ensures c.in-Err.is;
}
