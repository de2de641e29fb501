use Rattle.engine.specs.Promise.{watched}
use Rattle.engine.proofs.call.answer_command.Goals as goal

pub returns-else-is_whole-clause-answers : goal.returns-else-is_whole-clause-answers
returns-else-is_whole-clause-answers g c = c.answer_in_parts.ensures.answers (watched g.S.Source.left g.S.Source.faults c.args.source.now c.args.source.now)
