use Rattle.script_tokens.proofs.Versions.{version_two_begins}
use Rattle.script_tokens.proofs.laws.versions_begin.Goals as goal

pub returns : goal.returns
returns c = version_two_begins
