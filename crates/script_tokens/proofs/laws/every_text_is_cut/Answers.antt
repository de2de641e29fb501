use Rattle.script_tokens.proofs.Cuts.{every_text}
use Rattle.script_tokens.proofs.laws.every_text_is_cut.Goals as goal

pub returns : goal.returns
returns c = every_text
