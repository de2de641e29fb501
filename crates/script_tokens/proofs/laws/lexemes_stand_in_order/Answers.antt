use Rattle.script_tokens.proofs.LexingLemmas.{lexemes_in_order}
use Rattle.script_tokens.proofs.laws.lexemes_stand_in_order.Goals as goal

pub returns : goal.returns
returns c = lexemes_in_order
