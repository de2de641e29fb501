use Rattle.std.proofs.Common.{ap}
use Rattle.strand_machine.specs.Merge.{result_of_outcome}
use Rattle.strand_machine.proofs.TakenAnswers.Taking.{fault-taken}
use Rattle.strand_machine.proofs.merge.merge_spawned.Goals as goal

pub returns-in-Fault-clause-machine : goal.returns-in-Fault-clause-machine
returns-in-Fault-clause-machine c = λ plan.
    fault-taken plan c.args.height c.args.target.now c.in-Fault.fault (result_of_outcome c.args.outcome) c.args.instance.now c.receive_fault.new.self (ap result_of_outcome c.in-Fault.is) (c.receive_fault.ensures.machine plan c.args.target.now)

pub returns-in-Cut-clause-machine : goal.returns-in-Cut-clause-machine
returns-in-Cut-clause-machine c = λ plan.
    fault-taken plan c.args.height c.args.target.now c.in-Cut.by (result_of_outcome c.args.outcome) c.args.instance.now c.receive_fault-in-Cut.new.self (ap result_of_outcome c.in-Cut.is) (c.receive_fault-in-Cut.ensures.machine plan c.args.target.now)
