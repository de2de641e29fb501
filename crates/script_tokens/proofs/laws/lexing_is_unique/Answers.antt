use Rattle.script_tokens.proofs.LexingLemmas.{lexing_unique}
use Rattle.script_tokens.proofs.laws.lexing_is_unique.Goals as goal

pub returns : goal.returns
returns c = lexing_unique
