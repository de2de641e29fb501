use Rattle.std.proofs.Common.{Ok, Option, refl, sym, ap}
use Rattle.script_grammar.specs.declared.tree.Name.{Name}
use Rattle.strand_meaning.specs.Machine.{Looped}
use Rattle.strand_machine.specs.Tasks.{stage_of}
use Rattle.strand_machine.proofs.TakenAnswers.Taking.{goes-of, loop-of, loops-goes, loops-loop, loops-sync, sync-of}
use Rattle.strand_machine.proofs.TakenAnswers.Targets.{found-at, goes-found, loop-found, sync-found}
use Rattle.strand_machine.proofs.merge.fill_stage.Goals as goal

pub receive_values-requires-clause-sound : goal.receive_values-requires-clause-sound
receive_values-requires-clause-sound c = goes-of c.args.plan.now c.args.stage.now _ c.requires.stands c.in-Running.is

pub receive_values-requires-clause-found : goal.receive_values-requires-clause-found
receive_values-requires-clause-found c =
    let at = ap (λ (t : Option Name). Looped t) (sym c.as_ref-into.ensures.value) in
    goes-found c.args.plan.now c.args.stage.now _ (Looped _) (found-at c.args.plan.now (Looped c.args.target.now) (Looped _) (stage_of c.args.plan.now c.args.stage.now) at c.requires.found) c.in-Running.is

pub receive_values-requires-in-AtSync-clause-sound : goal.receive_values-requires-in-AtSync-clause-sound
receive_values-requires-in-AtSync-clause-sound c = sync-of c.args.plan.now c.args.stage.now _ c.requires.stands c.in-AtSync.is

pub receive_values-requires-in-AtSync-clause-found : goal.receive_values-requires-in-AtSync-clause-found
receive_values-requires-in-AtSync-clause-found c =
    let at = ap (λ (t : Option Name). Looped t) (sym c.as_ref-into.ensures.value) in
    sync-found c.args.plan.now c.args.stage.now _ (Looped _) (found-at c.args.plan.now (Looped c.args.target.now) (Looped _) (stage_of c.args.plan.now c.args.stage.now) at c.requires.found) c.in-AtSync.is

pub receive_values-requires-in-AtLoop-clause-sound : goal.receive_values-requires-in-AtLoop-clause-sound
receive_values-requires-in-AtLoop-clause-sound c = loop-of c.args.plan.now c.args.stage.now _ c.requires.stands c.in-AtLoop.is

pub receive_values-requires-in-AtLoop-clause-found : goal.receive_values-requires-in-AtLoop-clause-found
receive_values-requires-in-AtLoop-clause-found c =
    let at = ap (λ (t : Option Name). Looped t) (sym c.as_ref-into.ensures.value) in
    loop-found c.args.plan.now c.args.stage.now _ (Looped _) (found-at c.args.plan.now (Looped c.args.target.now) (Looped _) (stage_of c.args.plan.now c.args.stage.now) at c.requires.found) c.in-AtLoop.is

pub returns-in-Running : goal.returns-in-Running
returns-in-Running c =
    let e = c.receive_values.ensures in
    loops-goes (Ok c.args.values.now) c.args.target.now _ c.args.values.now _ c.args.stage.now _ _ refl c.as_ref-into.ensures.value c.as_slice-given.ensures c.in-Running.is e.machine e.path e.sound

pub returns-in-AtSync : goal.returns-in-AtSync
returns-in-AtSync c =
    let e = c.receive_values-in-AtSync.ensures in
    loops-sync (Ok c.args.values.now) c.args.target.now _ c.args.values.now _ c.args.stage.now _ _ refl c.as_ref-into.ensures.value c.as_slice-given.ensures c.in-AtSync.is e.machine e.path e.sound

pub returns-in-AtLoop : goal.returns-in-AtLoop
returns-in-AtLoop c =
    let e = c.receive_values-in-AtLoop.ensures in
    loops-loop (Ok c.args.values.now) c.args.target.now _ c.args.values.now _ c.args.stage.now _ _ refl c.as_ref-into.ensures.value c.as_slice-given.ensures c.in-AtLoop.is e.machine e.path e.sound
