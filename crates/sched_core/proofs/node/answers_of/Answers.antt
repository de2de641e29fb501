use Rattle.std.proofs.Common.{◌≡◌, ◌++◌, Some, length, sym, ap, ◌∙◌, arith}
use Rattle.std.specs.Vec.Iter.{into_iter_items}
use Rattle.sched_core.specs.Nodes.{answers_in, missing}
use Rattle.sched_core.proofs.KnownOfNodes.Answered.{none-more, not-missing, one-more, rest-whole}
use Rattle.sched_core.proofs.node.answers_of.Goals as goal

pub loop-child-init : goal.loop-child-init
loop-child-init c =
    let gives = c.into_iter-child-iterator.ensures.into_iter_gives in
    let items : into_iter_items c.into_iter-child-iterator.result ≡ c.args.children = gives.0 ∙ c.children.view_is in
    record {
      left = gives.1 ∙ c.children.inside.0.ok.0 ∙ ap length (sym gives.0);
      whole = ap missing items ∙ c.requires;
      so_far = ap answers_in (sym items) ∙ ap (λ l. l ++ answers_in (into_iter_items c.into_iter-child-iterator.result)) (sym c.in_ok-answers.ensures.items);
    }

pub unreachable-requires : goal.unreachable-requires
unreachable-requires c = not-missing c.in-Some.child _ _ c.in-Some.ensures.steps.0 c.loop-child.invariant.whole c.in_default.is

pub loop-child-preserved : goal.loop-child-preserved
loop-child-preserved c =
    let was = c.loop-child.invariant in
    let steps = c.in-Some.ensures.steps in
    let shorter = ap length steps.0 in
    record {
      left = omega (arith, was.left, steps.1, shorter);
      whole = rest-whole c.in-Some.child _ _ steps.0 was.whole;
      so_far = one-more c.in-Some.child _ _ _ _ _ _ steps.0 (c.in-Some-answer.is ∙ ap (λ x. Some x) (sym c.in-Some-answer.answer-is)) was.so_far c.in_ok-push.ensures.items;
    }

pub returns : goal.returns
returns c =
    none-more (into_iter_items c.loop-child.child-iterator) (answers_in c.args.children) c.loop-child.answers.items (sym c.loop-child.invariant.left ∙ c.in-None.ensures.steps.0) c.loop-child.invariant.so_far
