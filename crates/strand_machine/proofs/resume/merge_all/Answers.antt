use Rattle.std.proofs.Common.{◌≡◌, ◌+◌, ◌∷◌, [], List, length, refl, ap, ◌∙◌, subst, arith}
use Rattle.std.proofs.lemmas.List.{nil_from_length}
use Rattle.serial_meaning.specs.Answer.{AnswerView}
use Rattle.strand_machine.specs.InTurn.{in_turn}
use Rattle.strand_machine.specs.Links.{origins}
use Rattle.strand_machine.specs.Merge.{TakesAnswers, RemainingFindsAll, merge_of}
use Rattle.strand_machine.specs.AwaitedChildren.{awaited_child, awaited_children}
use Rattle.strand_machine.specs.Stops.{answer_tags}
use Rattle.strand_machine.specs.Tasks.{remaining_of}
use Rattle.strand_machine.specs.declared.trace.AfterChild.{AfterChild}
use Rattle.strand_machine.proofs.TakenAnswers.Cutting.{answers-next, answers-no-more, found-then, keeps-then, of_plan-then}
use Rattle.strand_machine.proofs.TakenAnswers.Turns.{turns-none}
use Rattle.strand_machine.proofs.resume.merge_all.Goals as goal

pub loop-taken-init : goal.loop-taken-init
loop-taken-init g c =
    let before = merge_of c.args.parts.now c.args.merging.now in
    record {
      same = ap length c.answers.view_is ∙ c.requires.many;
      count = omega (arith, c.len-count.ensures, c.args.children.ok.0);
      takes = λ after h. subst (λ (xs : List AnswerView). TakesAnswers (awaited_children (origins (answer_tags xs)) c.args.children.items) xs before after) c.answers.view_is h;
      rest = record { state = refl; unmerged = c.requires.unmerged };
      of_plan = c.requires.of_plan;
      found = c.requires.found;
    }

pub unreachable-requires : goal.unreachable-requires
unreachable-requires g c = omega (arith, ap length c.in_default.ensures.none, c.loop-taken.invariant.count)

pub unreachable-requires-in_default-take_next : goal.unreachable-requires-in_default-take_next
unreachable-requires-in_default-take_next g c = omega (arith, ap length c.in_default-take_next.ensures.none, c.loop-taken.invariant.same, c.in-Some.ensures.fewer)

pub merge_answer-requires-clause-unmerged : goal.merge_answer-requires-clause-unmerged
merge_answer-requires-clause-unmerged g c = c.loop-taken.invariant.rest.unmerged

pub merge_answer-requires-clause-of_plan : goal.merge_answer-requires-clause-of_plan
merge_answer-requires-clause-of_plan g c = c.loop-taken.invariant.of_plan

pub merge_answer-requires-clause-found : goal.merge_answer-requires-clause-found
merge_answer-requires-clause-found g c =
    let all = subst (λ (bs : List (AfterChild _)). RemainingFindsAll c.loop-taken.parts.state.links.plan bs (remaining_of c.loop-taken.parts.state.links.plan c.loop-taken.parts.remaining)) c.in-Some.ensures.some c.loop-taken.invariant.found in
    all.0

pub loop-taken-preserved : goal.loop-taken-preserved
loop-taken-preserved g c =
    let was = c.loop-taken.invariant in
    let part = c.in-Some.ensures.some in
    let front = c.in-Some-take_next.ensures.some in
    let all = subst (λ (bs : List (AfterChild _)). RemainingFindsAll c.loop-taken.parts.state.links.plan bs (remaining_of c.loop-taken.parts.state.links.plan c.loop-taken.parts.remaining)) part was.found in
    record {
      same = omega (arith, was.same, c.in-Some.ensures.fewer, c.in-Some-take_next.ensures.fewer);
      count = omega (arith, was.count, c.in-Some.ensures.fewer);
      takes = λ after h. was.takes after (answers-next _ _ _ _ c.in-Some-take_next.answer c.in-Some.part (merge_of c.loop-taken.parts c.loop-taken.merging) (merge_of c.merge_answer.new.parts c.merge_answer.new.merging) after front part c.in_ok-merge_answer.ensures.takes h);
      rest = keeps-then _ _ _ was.rest c.in_ok-merge_answer.ensures.rest;
      of_plan = of_plan-then c.loop-taken.parts c.merge_answer.new.parts c.loop-taken.merging c.merge_answer.new.merging _ _ c.in_ok-merge_answer.ensures.rest c.in_ok-merge_answer.ensures.takes was.of_plan;
      found =
          found-then c.loop-taken.parts c.merge_answer.new.parts c.loop-taken.merging c.merge_answer.new.merging (awaited_child c.in-Some-take_next.answer.origin c.in-Some.part) c.in-Some-take_next.answer _
          c.in_ok-merge_answer.ensures.rest c.in_ok-merge_answer.ensures.takes all.1;
    }

pub returns-clause-takes : goal.returns-clause-takes
returns-clause-takes g c =
    let was = c.loop-taken.invariant in
    let n = c.loop-taken.taken in
    let parts : length c.loop-taken.after.items ≡ 0 = omega (arith, was.count) in
    let after-none = nil_from_length c.loop-taken.after.items parts in
    let left-none = nil_from_length c.loop-taken.left.items (was.same ∙ parts) in
    was.takes (merge_of c.loop-taken.parts c.loop-taken.merging)
    (answers-no-more _ _ _ (ap (λ (xs : List AnswerView). length (in_turn n xs)) left-none ∙ ap length (turns-none n)) (ap (λ (bs : List (AfterChild _)). length (in_turn n bs)) after-none ∙ ap length (turns-none n)))

pub returns-clause-none : goal.returns-clause-none
returns-clause-none g c =
    let parts : length c.loop-taken.after.items ≡ 0 = omega (arith, c.loop-taken.invariant.count) in
    nil_from_length c.loop-taken.left.items (c.loop-taken.invariant.same ∙ parts)
