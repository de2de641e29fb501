use Rattle.std.proofs.Common.{false, ◌++◌, sym, ap, ◌∙◌}
use Rattle.sched_core.specs.Chosen.{looks, numbers, pops, runs, steals}
use Rattle.sched_core.specs.Cores.{core_of}
use Rattle.sched_core.proofs.Choices.Picking.{choices-are}
use Rattle.sched_core.proofs.Events.Taking.{unanswered}
use Rattle.sched_core.proofs.state.CoreState.choices.Goals as goal

pub returns : goal.returns
returns c =
    let s = c.args.self.now in
    let d = core_of false s in
    c.in_ok-add_looks.ensures
    ∙ ap (λ l. l ++ looks d (numbers d)) (c.in_ok-add_steals.ensures ∙ ap (λ l. l ++ steals d (numbers d)) (c.in_ok-add_pops.ensures ∙ ap (λ l. l ++ pops d (numbers d)) (c.in_ok-add_runs.ensures ∙ ap (λ l. l ++ runs d (numbers d)) c.new-events.ensures.items)))
    ∙ sym (choices-are d (unanswered s c.requires.consistent c.requires.root))
