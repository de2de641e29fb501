use Rattle.script_text.proofs.Nesting.Gaps.{gaps_are_lists}
use Rattle.script_text.proofs.laws.gaps_are_blanks_and_comments.Goals as goal

pub returns : goal.returns
returns c = gaps_are_lists
