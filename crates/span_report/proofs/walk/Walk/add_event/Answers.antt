use Rattle.std.proofs.Common.{ℕ, List, ap, ◌∙◌}
use Rattle.span_report.specs.declared.instance.Begun.TheVariants.{Spawned}
use Rattle.span_report.specs.Opens.{new_open_instance}
use Rattle.span_report.specs.Walks.{OpenInstances, opened_to, open_instances}
use Rattle.span_report.proofs.LongestChains.Stacks.{walked-spawn}
use Rattle.span_report.proofs.walk.Walk.add_event.Goals as goal

pub returns-in_ok-push : goal.returns-in_ok-push
returns-in_ok-push c =
    walked-spawn (open_instances c.args.self.now) (open_instances c.enter.new.self) (open_instances c.push.new.self) c.args.event.now c.in-Spawn.at c.behind-event.inside.path c.behind-event.inside.rank c.add_event.new.self c.begin-child.result
    c.in-Spawn.is (let a = c.pedigree_of.ensures in let b = c.behind-event.view_is in cc)
    (c.in_ok-enter.ensures ∙ ap (λ (v : OpenInstances). opened_to c.behind-event.inside.path v) c.leave.ensures) c.in_ok-add_event.ensures
    (c.begin-child.ensures ∙ ap (λ (p : List ℕ). new_open_instance p Spawned c.add_event.new.self.before) (c.in_ok-path.ensures ∙ (let b = c.at.view_is in cc))) c.in_ok-push.ensures
