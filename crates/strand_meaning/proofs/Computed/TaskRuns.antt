-- Proofs of the examples: the stops of each task are computed.
use Rattle.script_grammar.specs.declared.tree.Act.{out-Act}
use Rattle.serial_meaning.proofs.Equations.Computing.{value_of-number, spawns-out}
use Rattle.strand_meaning.specs.Examples.{ReturnWaitsForAChild, SyncAloneIsPassed, FaultWaitsForAChild, LoopsBeginWhole, LoopTasksBeginHalves}

pub return_waits_for_a_child : ReturnWaitsForAChild
unfolding out-Act denote.Hole.Carrier.out
return_waits_for_a_child = simp (value_of-number, spawns-out)

pub sync_alone_is_passed : SyncAloneIsPassed
unfolding out-Act denote.Hole.Carrier.out
sync_alone_is_passed = simp (value_of-number, spawns-out)

pub fault_waits_for_a_child : FaultWaitsForAChild
unfolding out-Act denote.Hole.Carrier.out
fault_waits_for_a_child = simp value_of-number

pub loops_begin_whole : LoopsBeginWhole
unfolding out-Act denote.Hole.Carrier.out
loops_begin_whole = simp (value_of-number, spawns-out)

pub loop_tasks_begin_halves : LoopTasksBeginHalves
unfolding out-Act denote.Hole.Carrier.out
loop_tasks_begin_halves = simp value_of-number
