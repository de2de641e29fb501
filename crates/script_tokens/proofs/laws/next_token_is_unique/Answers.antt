use Rattle.script_tokens.proofs.LexingLemmas.{next_token_unique}
use Rattle.script_tokens.proofs.laws.next_token_is_unique.Goals as goal

pub returns : goal.returns
returns c = next_token_unique
