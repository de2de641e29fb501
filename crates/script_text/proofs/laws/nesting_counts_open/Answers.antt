use Rattle.script_text.proofs.Nesting.Nested.{nesting_counts_open}
use Rattle.script_text.proofs.laws.nesting_counts_open.Goals as goal

pub returns : goal.returns
returns c = nesting_counts_open
