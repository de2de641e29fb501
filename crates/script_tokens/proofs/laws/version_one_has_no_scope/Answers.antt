use Rattle.script_tokens.proofs.Versions.{one_has_no_scope}
use Rattle.script_tokens.proofs.laws.version_one_has_no_scope.Goals as goal

pub returns : goal.returns
returns c = one_has_no_scope
