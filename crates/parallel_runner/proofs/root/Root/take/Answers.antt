use Rattle.std.proofs.Common.{◌≡◌, ◌∷◌, [], subst}
use Rattle.meet_block.specs.Joined.{JoinView}
use Rattle.serial_meaning.specs.Answer.{AnswerTag, AnswerView, IsAnswer}
use Rattle.strand_machine.specs.Links.{tag}
use Rattle.parallel_runner.proofs.Rooted.{only_one, is_whole}
use Rattle.parallel_runner.proofs.root.Root.take.Goals as goal

pub returns-clause-tag : goal.returns-clause-tag
returns-clause-tag g c =
    subst (λ (j : JoinView AnswerTag). j.children.tags ≡ tag c.take-answer.result.plan c.take-answer.result.origin ∷ []) c.self.view_is
    (only_one c.self.inside.join.children.tags (tag c.take-answer.result.plan c.take-answer.result.origin) c.self.invariant.0 c.take-answer.ensures.tag)

pub returns-clause-whole : goal.returns-clause-whole
returns-clause-whole g c =
    is_whole c.self.inside.join.children.tags c.take-answer.result c.main_is_not_cut.ensures c.self.invariant.0 c.take-answer.ensures.tag
    (subst (λ (a : AnswerView). IsAnswer a.plan a.origin a.out a.outcome) c.answer.view_is c.answer.invariant)
