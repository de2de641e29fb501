-- The one child of a root.
use Rattle.std.proofs.Common.{◌≡◌, List, [], ◌∷◌, Some, subst}
use Rattle.std.specs.Prelude.{slice_get}
use Rattle.serial_meaning.specs.Answer.{AnswerTag, AnswerView, IsAnswer}
use Rattle.serial_meaning.specs.Cuts.{MainIsNotCut}
use Rattle.serial_meaning.specs.Eval.{main_origin}
use Rattle.serial_meaning.specs.Render.{IsWhole}
use Rattle.serial_meaning.specs.declared.origin.Origin.{Origin}
use Rattle.strand_machine.specs.Links.{tag}
use Rattle.parallel_runner.specs.Crews.{IsMainAlone}

pub only_one : (tags : List AnswerTag) (t : AnswerTag) → IsMainAlone tags → slice_get tags 0 ≡ Some t → tags ≡ t ∷ []
only_one [] t h e = absurd h
only_one (x ∷ []) t h e = cc
only_one (x ∷ y ∷ ys) t h e = absurd h

-- its answer is no cut
pub is_whole : (tags : List AnswerTag) (answer : AnswerView) → MainIsNotCut → IsMainAlone tags → slice_get tags 0 ≡ Some (tag answer.plan answer.origin) →
    IsAnswer answer.plan answer.origin answer.out answer.outcome → IsWhole answer.outcome
is_whole tags answer law alone e is =
    let main : answer.origin ≡ main_origin answer.plan = subst IsMainAlone (only_one tags (tag answer.plan answer.origin) alone e) alone in
    law answer.plan answer.out answer.outcome (subst (λ (main : Origin). IsAnswer answer.plan main answer.out answer.outcome) main is)
