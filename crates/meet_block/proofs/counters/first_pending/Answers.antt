use Rattle.std.proofs.Common.{arith, ◌+◌, length-set}
use Rattle.meet_block.proofs.Orders.{at_or, reads_ready, reads_pending, few_pending, is_waiting}
use Rattle.meet_block.proofs.counters.first_pending.Goals as goal

pub look-pending-requires : goal.look-pending-requires
look-pending-requires g c = is_waiting c.loop-at.counters c.loop-at.at _ c.loop-at.invariant.order (at_or _ _ c.index-counters-at.result c.loop-at-test.true)

pub returns-then-pending-gt0-clause-pending : goal.returns-then-pending-gt0-clause-pending
returns-then-pending-gt0-clause-pending g c =
    let ps = c.loop-at.counters in let at = at_or ps c.loop-at.at c.index-counters-at.result c.loop-at-test.true in
    let read = c.loop-at.invariant.read in let q = c.look-pending.new.self in
    let r = reads_pending c.args.counters.now ps c.loop-at.at read.0 c.look-pending.result _ q c.loop-at.invariant.order read.1 at (c.look-pending.ensures.pending (λ z. omega arith)) in
    record {
      order = r.0;
      within = omega (arith, length-set ps c.loop-at.at q);
      some_pending = omega arith;
      few_pending = few_pending c.args.counters.now ps c.loop-at.at c.look-pending.result _ _ read.1 at c.look-pending.ensures.few;
      passed = read.0;
      searched = r.1;
    }

pub loop-at-preserved : goal.loop-at-preserved
loop-at-preserved g c =
    let ps = c.loop-at.counters in let at = at_or ps c.loop-at.at c.index-counters-at.result c.loop-at-test.true in
    let read = c.loop-at.invariant.read in
    let r = reads_ready c.args.counters.now ps c.loop-at.at read.0 _ c.look-pending.new.self c.loop-at.invariant.order read.1 at (c.look-pending.ensures.ready (omega arith)) in
    record { order = r.0; read = (read.0 + 1, r.1) }
