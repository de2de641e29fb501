use Rattle.script_text.proofs.Parsing.Steps.{passes, passes_not}
use Rattle.script_text.proofs.parser.source.expect.Goals as goal

pub returns-in-Some : goal.returns-in-Some
returns-in-Some c = passes _ c.args.source.now _ _ _ _ c.requires.plain c.requires.depth c.in-Some.ensures

pub returns-in-None : goal.returns-in-None
returns-in-None c = passes_not _ c.args.source.now _ _ _ c.in-None.ensures c.unexpected.ensures
