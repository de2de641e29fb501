use Rattle.std.proofs.Common.{◌∙◌, ◌++◌, ◌∷◌, [], refl, ap, subst}
use Rattle.serial_meaning.specs.Answer.{AnswerTag, AnswerView}
use Rattle.strand_machine.specs.Links.{GiveView}
use Rattle.parallel_runner.specs.Hands.{TurnAnswers}
use Rattle.parallel_runner.proofs.Stopping.{cut_advances}
use Rattle.parallel_runner.proofs.steps.cut.Goals as goal

pub returns-clause-turn : goal.returns-clause-turn
returns-clause-turn g c =
    cut_advances c.args.task _ _ c.requires.current refl c.put_answer.result c.args.by c.requires.fresh c.requires.stands
    (subst (λ (a : GiveView AnswerTag). TurnAnswers a c.put_answer.result) c.cut-answer.ensures.give c.put_answer.ensures.turn)
    (c.put_answer.ensures.put ∙ ap (λ (a : AnswerView). c.args.state.now.answered ++ a ∷ []) c.cut-answer.ensures.answer)
