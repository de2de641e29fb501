use Rattle.std.proofs.Common.{subst}
use Rattle.strand_machine.specs.Tasks.{TaskView}
use Rattle.parallel_runner.specs.Hands.{IsPut}
use Rattle.parallel_runner.proofs.Dealing.{all-but-one, refused-late, pushed-alone}
use Rattle.parallel_runner.proofs.steps.put_all.Goals as goal

pub loop-task-preserved : goal.loop-task-preserved
loop-task-preserved g c =
    let l = c.loop-task in
    let put = subst (λ (t : TaskView). IsPut t l.overflow l.deck c.put_rest.new.overflow c.put_rest.new.deck) c.new.ensures c.in_ok-put_rest.ensures.ok in
    record {
      all = all-but-one c.in-Some.task l.overflow c.put_rest.new.overflow l.deck c.put_rest.new.deck l.left.items c.pop.new.self.items _ c.in-Some.ensures.items put l.invariant.all;
      refused = refused-late c.in-Some.task l.overflow c.put_rest.new.overflow l.deck c.put_rest.new.deck put l.invariant.refused;
      deck = pushed-alone c.in-Some.task l.overflow c.put_rest.new.overflow l.deck c.put_rest.new.deck c.args.deck.now put l.invariant.deck;
    }
