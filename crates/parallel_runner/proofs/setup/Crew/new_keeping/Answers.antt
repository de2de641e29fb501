use Rattle.std.proofs.Common.{◌≤◌, ◌∙◌, refl, ap, Some}
use Rattle.std.specs.Arc.{arc_value}
use Rattle.parallel_runner.specs.Hands.{HandView}
use Rattle.parallel_runner.proofs.Meeting.{begins}
use Rattle.parallel_runner.proofs.setup.Crew.new_keeping.Goals as goal

pub returns : goal.returns
returns g c =
    let idle = c.in_ok-hands.hands.items in
    let few : 1 ≤ c.args.workers = c.requires.0 in
    begins (arc_value c.args.plan.now) c.args.workers idle idle c.index_mut.result.now c.set_current.new.self c.in_ok-hands.ensures.idle refl few c.in_ok-root.root c.in_ok-root.task c.in_ok-root.ensures
    (c.set_current.ensures ∙ ap (λ (x : HandView). record x { current = Some c.in_ok-root.task }) c.index_mut.ensures.value)
