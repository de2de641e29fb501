use Rattle.script_tokens.proofs.LexingLemmas.{lexemes_tokens}
use Rattle.script_tokens.proofs.laws.lexemes_are_tokens.Goals as goal

pub returns : goal.returns
returns c = lexemes_tokens
