use Rattle.std.proofs.Common.{◌≤◌, length, refl, sym, ◌∙◌, subst}
use Rattle.sched_meaning.proofs.OneCore.OneStep.{some-one}
use Rattle.sched_core.specs.declared.node.SpawnNode.{SpawnNode}
use Rattle.sched_core.proofs.Worked.Placing.{change-at, on-ok}
use Rattle.std.proofs.lemmas.Option.{slice_get_within}
use Rattle.sched_core.proofs.stops.begin_task.Goals as goal

pub begin_child-requires-clause-parent : goal.begin_child-requires-clause-parent
begin_child-requires-clause-parent c = slice_get_within c.args.state.now.nodes.items c.args.number c.requires.node c.requires.there

pub begin_child-requires-clause-unanswered : goal.begin_child-requires-clause-unanswered
begin_child-requires-clause-unanswered c = λ n h. subst (λ (x : SpawnNode). x.unanswered ≤ length x.children) (some-one c.requires.node n (sym c.requires.there ∙ h)) c.requires.within

pub returns : goal.returns
returns c =
    on-ok c.switch_to_child.result
    (λ h. record {
      begun = c.in_ok-begun.begun;
      nodes = c.in_ok-begun.ensures.nodes;
      workers = change-at c.args.w _ c.args.state.now.workers.items c.index_mut.result.now c.switch_to_child.new.self c.index_mut.ensures.value c.requires.worker h;
      begun_is = c.in_ok-begun.ensures.number;
      plan = refl;
      given = refl;
      root = refl;
      runs = refl;
    })
    c.switch_to_child.ensures
