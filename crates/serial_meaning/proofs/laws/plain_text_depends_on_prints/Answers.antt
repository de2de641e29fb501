use Rattle.serial_meaning.proofs.PlainLines.{plain_text_depends_on_prints}
use Rattle.serial_meaning.proofs.laws.plain_text_depends_on_prints.Goals as goal

pub returns : goal.returns
returns c = plain_text_depends_on_prints
