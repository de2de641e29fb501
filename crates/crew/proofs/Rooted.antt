-- The answers of roots.
use Rattle.std.proofs.Common.{◌≡◌, List, [], ◌∷◌, ◌++◌, length, refl, sym, subst, append_assoc, append-nil, arith}
use Rattle.meet_block.specs.Joined.{JoinView}
use Rattle.serial_meaning.specs.Answer.{AnswerTag, AnswerView, IsEval}
use Rattle.serial_meaning.specs.Eval.{main_origin}
use Rattle.serial_meaning.specs.Laws.{IsOriginOf, Main}
use Rattle.serial_meaning.specs.Plan.{PlanView}
use Rattle.serial_meaning.specs.declared.origin.Origin.{Origin}
use Rattle.strand_machine.specs.Links.{tag}
use Rattle.parallel_runner.specs.Crews.{AreRootAnswers}

-- an answer for the one tag is main's
pub root_is : (plan answered : PlanView) (o : Origin) → tag plan (main_origin plan) ∷ [] ≡ tag answered o ∷ [] → IsOriginOf answered o
root_is plan answered o e = let t : tag plan (main_origin plan) ≡ tag answered o = cc in subst (λ (a : AnswerTag). IsOriginOf a.plan a.origin) t Main

-- Answers of several roots, where those of the roots that are left make them whole

pub one-more-answer : (all left left' : List (JoinView AnswerTag)) (root : JoinView AnswerTag) (answer : AnswerView) (answers rest : List AnswerView) →
    ((more : List AnswerView) → AreRootAnswers left more → AreRootAnswers all (answers ++ more)) → left ≡ root ∷ left' → root.children.tags ≡ tag answer.plan answer.origin ∷ [] →
    IsEval answer.plan answer.origin answer.out answer.outcome → AreRootAnswers left' rest → AreRootAnswers all ((answers ++ answer ∷ []) ++ rest)
one-more-answer all left left' root answer answers rest was next tagged meant are =
    subst (AreRootAnswers all) (sym (append_assoc answers (answer ∷ []) rest))
    (was (answer ∷ rest) (subst (λ (rs : List (JoinView AnswerTag)). AreRootAnswers rs (answer ∷ rest)) (sym next) (tagged, meant, are)))

pub no-more-answers : (all left : List (JoinView AnswerTag)) (answers : List AnswerView) → length left ≡ 0 →
    ((more : List AnswerView) → AreRootAnswers left more → AreRootAnswers all (answers ++ more)) → AreRootAnswers all answers
no-more-answers all [] answers none was = subst (AreRootAnswers all) (append-nil answers) (was [] refl)
no-more-answers all (r ∷ rs) answers none was = absurd (omega (arith, none))
