use Rattle.script_tokens.proofs.Building.{one_more_byte_decides as decides}
use Rattle.script_tokens.proofs.laws.one_more_byte_decides.Goals as goal

pub returns : goal.returns
returns c = decides
