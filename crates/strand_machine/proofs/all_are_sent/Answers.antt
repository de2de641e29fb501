use denote.Param.Send.{IsSend, param_send}
use contract.Lifetimes.{Lfts}
use mir.Syntax.{given}
use Rattle.serial_meaning.specs.contracts.keep.All as all
use Rattle.serial_meaning.specs.contracts.keep.AllKeep.TheImpl.{ghosts}
use Rattle.strand_machine.proofs.CodeLemmas.Shares.{task_sends, stop_sends, resumed_sends, paused_sends}
use Rattle.strand_machine.proofs.all_are_sent.Lts as types
use Rattle.strand_machine.proofs.all_are_sent.Goals as goal

-- field by field: the two rows are too large to be compared
task_goes : (κs : Lfts 1) → IsSend (types.arg-0-0 κs)
task_goes κs = let sends = task_sends all.the_row ghosts (given 0) in record { owned = sends.owned; leaving = sends.leaving }

stop_goes : (κs : Lfts 1) → IsSend (types.arg-1-0 κs)
stop_goes κs = let sends = stop_sends all.the_row ghosts (given 0) in record { owned = sends.owned; leaving = sends.leaving }

resumed_goes : (κs : Lfts 1) → IsSend (types.arg-2-0 κs)
resumed_goes κs = let sends = resumed_sends all.the_row ghosts (given 0) in record { owned = sends.owned; leaving = sends.leaving }

paused_goes : (κs : Lfts 1) → IsSend (types.arg-3-0 κs)
paused_goes κs = let sends = paused_sends all.the_row ghosts (given 0) in record { owned = sends.owned; leaving = sends.leaving }

pub is_sent-requires-send-T : goal.is_sent-requires-send-T
is_sent-requires-send-T c κs = param_send 0 (types.arg-0-0 κs) (task_goes κs)

pub is_sent-requires-2-send-T : goal.is_sent-requires-2-send-T
is_sent-requires-2-send-T c κs = param_send 0 (types.arg-1-0 κs) (stop_goes κs)

pub is_sent-requires-3-send-T : goal.is_sent-requires-3-send-T
is_sent-requires-3-send-T c κs = param_send 0 (types.arg-2-0 κs) (resumed_goes κs)

pub is_sent-requires-4-send-T : goal.is_sent-requires-4-send-T
is_sent-requires-4-send-T c κs = param_send 0 (types.arg-3-0 κs) (paused_goes κs)
