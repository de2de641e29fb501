use Rattle.std.proofs.Common.{◌<◌, length, refl, sym, ◌∙◌, subst, arith}
use Rattle.std.proofs.lemmas.Option.{slice_get_within}
use Rattle.strand_machine.specs.declared.stop.Stop.TheVariants as stop
use Rattle.sched_meaning.proofs.OneCore.OneStep.{some-one}
use Rattle.sched_core.specs.Moves.{CanAnswer, job}
use Rattle.sched_core.specs.declared.node.SpawnNode.{SpawnNode}
use Rattle.sched_core.proofs.Events.Arms.{by-kind, stalls-at}
use Rattle.sched_core.proofs.Worked.Placing.{on-ok}
use Rattle.sched_core.proofs.stops.stop.Goals as goal

pub begin_task-requires : goal.begin_task-requires
begin_task-requires c = c.requires

pub returns-in-Spawn : goal.returns-in-Spawn
returns-in-Spawn c = by-kind c.begin_task.result c.args.w c.args.number c.args.stop (stop.Spawn c.in-Spawn.child c.in-Spawn.rest) c.args.state.now c.begin_task.new.state c.in-Spawn.is c.begin_task.ensures

pub index_mut-requires : goal.index_mut-requires
index_mut-requires c = let small : c.args.w < length c.args.state.now.workers.items = c.requires.worker in omega (arith, small, c.args.state.now.workers.ok.0)

pub returns-in-Wait : goal.returns-in-Wait
returns-in-Wait c =
    by-kind c.stall.result c.args.w c.args.number c.args.stop (stop.Wait c.in-Wait.rest) c.args.state.now _ c.in-Wait.is
    (on-ok c.stall.result
    (stalls-at c.args.w (job c.in-Wait.rest c.args.number) c.args.state.now _ c.index_mut.result.now c.stall.new.self c.index_mut.ensures.value c.requires.worker refl refl refl refl refl refl)
    c.stall.ensures)

pub put_answer-requires-clause-number : goal.put_answer-requires-clause-number
put_answer-requires-clause-number c = slice_get_within c.args.state.now.nodes.items c.args.number c.requires.node c.requires.there

pub put_answer-requires-clause-parent_awaits : goal.put_answer-requires-clause-parent_awaits
put_answer-requires-clause-parent_awaits c = λ n h. subst (λ (x : SpawnNode). CanAnswer c.args.state.now.nodes.items x.link) (some-one c.requires.node n (sym c.requires.there ∙ h)) c.requires.parent_awaits

pub returns : goal.returns
returns c = by-kind c.put_answer.result c.args.w c.args.number c.args.stop (stop.Done c.in-Done.answer c.in-Done.give) c.args.state.now c.put_answer.new.state c.in-Done.is c.put_answer.ensures
