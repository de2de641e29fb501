use Rattle.std.proofs.Common.{◌∙◌, ◌++◌, ◌∷◌, [], map, take, rules, sym, ap}
use Rattle.std.proofs.lemmas.List.{map_more}
use Rattle.std.specs.Arc.{arc_value}
use Rattle.parallel_runner.proofs.Meeting.{one-more-root}
use Rattle.parallel_runner.proofs.setup.begin_roots.Goals as goal

pub loop-plan-preserved : goal.loop-plan-preserved
loop-plan-preserved g c =
    let l = c.loop-plan in
    let plans = c.args.plans.now in
    let plan = c.plan-item.result in
    one-more-root _ _ l.roots.items _ l.tasks.items _ (arc_value plan) c.in_ok-root.root c.in_ok-root.task l.invariant c.in_ok-root.ensures
    (map_more arc_value plans l.plan-index plan (search rules) ∙ ap (λ x. map arc_value (take l.plan-index plans) ++ arc_value x ∷ []) (sym c.plan-item.is))
    c.in_ok-push.ensures.items c.in_ok-push-2.ensures.items
