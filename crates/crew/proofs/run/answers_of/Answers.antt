use Rattle.std.proofs.Common.{◌≡◌, List, [], ◌∷◌, ◌++◌, length, sym, ap, ◌∙◌, subst, arith}
use Rattle.std.specs.Vec.Iter.{into_iter_items}
use Rattle.meet_block.specs.Joined.{JoinView}
use Rattle.serial_meaning.specs.Answer.{AnswerTag, AnswerView}
use Rattle.parallel_runner.specs.Crews.{AreRootAnswers}
use Rattle.crew.proofs.Rooted.{one-more-answer, no-more-answers}
use Rattle.crew.proofs.run.answers_of.Goals as goal

pub loop-root-init : goal.loop-root-init
loop-root-init g c =
    let gives = c.into_iter-root-iterator.ensures.into_iter_gives in
    let roots : into_iter_items c.into_iter-root-iterator.result ≡ c.args.roots.items = gives.0 in
    record {
      roots = gives.1 ∙ c.args.roots.ok.0 ∙ ap length (sym roots);
      answers = λ rest h. subst (λ (l : List AnswerView). AreRootAnswers c.args.roots.items (l ++ rest)) (sym c.new-answers.ensures.items)
          (subst (λ (rs : List (JoinView AnswerTag)). AreRootAnswers rs rest) roots h);
    }

pub loop-root-preserved : goal.loop-root-preserved
loop-root-preserved g c =
    let was = c.loop-root.invariant in
    let roots = c.in-Some.ensures.steps in
    record {
      roots = omega (arith, was.roots, ap length roots.0, roots.1);
      answers = λ rest h. subst (λ (l : List AnswerView). AreRootAnswers c.args.roots.items (l ++ rest)) (sym c.in_ok-push.ensures.items)
          (one-more-answer _ _ _ c.in-Some.root c.roots_answer.result c.loop-root.answers.items rest was.answers roots.0 c.roots_answer.ensures.tag c.roots_answer.ensures.meant h);
    }

pub returns : goal.returns
returns g c =
    let was = c.loop-root.invariant in
    let none = c.in-None.ensures.steps in
    let left : length (into_iter_items c.loop-root.root-iterator) ≡ 0 = sym was.roots ∙ none.0 in
    no-more-answers _ _ _ left was.answers
