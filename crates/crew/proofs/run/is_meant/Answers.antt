use Rattle.std.proofs.Common.{subst}
use Rattle.serial_meaning.specs.Answer.{AnswerView, IsAnswer}
use Rattle.crew.proofs.run.is_meant.Goals as goal

pub returns : goal.returns
returns g c =
    let a = c.args.answer.now in
    let is : IsAnswer a.plan a.origin a.out a.outcome = subst (λ (x : AnswerView). IsAnswer x.plan x.origin x.out x.outcome) c.answer.view_is c.answer.invariant in
    c.whole_answers_are_evals.ensures a.plan a.origin a.out a.outcome is c.requires
