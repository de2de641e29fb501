use denote.Param.Send.{IsSend, IsSync, param_send, param_sync}
use contract.Lifetimes.{Lfts}
use Rattle.serial_meaning.proofs.CodeLemmas.Shares.{plan_sends, plan_syncs, answer_sends, answer_syncs, key_sends, key_syncs, known_sends, known_syncs}
use Rattle.serial_meaning.specs.contracts.keep.All as all
use Rattle.serial_meaning.specs.contracts.keep.AllKeep.TheImpl.{ghosts}
use Rattle.serial_meaning.proofs.all_are_shared.Lts as types
use Rattle.serial_meaning.proofs.all_are_shared.Goals as goal

-- field by field: the two rows are too large to be compared
plan_goes : (κs : Lfts 1) → IsSend (types.arg-4-0 κs)
plan_goes κs = record { owned = plan_sends.owned; leaving = plan_sends.leaving }

plan_is_read : (κs : Lfts 1) → IsSync (types.arg-4-0 κs)
plan_is_read κs = record { shared = plan_syncs.shared }

answer_goes : (κs : Lfts 1) → IsSend (types.arg-5-0 κs)
answer_goes κs = let sends = answer_sends all.the_row ghosts in record { owned = sends.owned; leaving = sends.leaving }

answer_is_read : (κs : Lfts 1) → IsSync (types.arg-5-0 κs)
answer_is_read κs = let syncs = answer_syncs all.the_row ghosts in record { shared = syncs.shared }

key_goes : (κs : Lfts 1) → IsSend (types.arg-6-0 κs)
key_goes κs = record { owned = key_sends.owned; leaving = key_sends.leaving }

key_is_read : (κs : Lfts 1) → IsSync (types.arg-6-0 κs)
key_is_read κs = record { shared = key_syncs.shared }

known_goes : (κs : Lfts 1) → IsSend (types.arg-7-0 κs)
known_goes κs = record { owned = known_sends.owned; leaving = known_sends.leaving }

known_is_read : (κs : Lfts 1) → IsSync (types.arg-7-0 κs)
known_is_read κs = record { shared = known_syncs.shared }

pub is_shared-requires-5-send-T : goal.is_shared-requires-5-send-T
is_shared-requires-5-send-T c κs = param_send 0 (types.arg-4-0 κs) (plan_goes κs)

pub is_shared-requires-5-sync-T : goal.is_shared-requires-5-sync-T
is_shared-requires-5-sync-T c κs = param_sync 0 (types.arg-4-0 κs) (plan_is_read κs)

pub is_shared-requires-6-send-T : goal.is_shared-requires-6-send-T
is_shared-requires-6-send-T c κs = param_send 0 (types.arg-5-0 κs) (answer_goes κs)

pub is_shared-requires-6-sync-T : goal.is_shared-requires-6-sync-T
is_shared-requires-6-sync-T c κs = param_sync 0 (types.arg-5-0 κs) (answer_is_read κs)

pub is_shared-requires-7-send-T : goal.is_shared-requires-7-send-T
is_shared-requires-7-send-T c κs = param_send 0 (types.arg-6-0 κs) (key_goes κs)

pub is_shared-requires-7-sync-T : goal.is_shared-requires-7-sync-T
is_shared-requires-7-sync-T c κs = param_sync 0 (types.arg-6-0 κs) (key_is_read κs)

pub is_shared-requires-8-send-T : goal.is_shared-requires-8-send-T
is_shared-requires-8-send-T c κs = param_send 0 (types.arg-7-0 κs) (known_goes κs)

pub is_shared-requires-8-sync-T : goal.is_shared-requires-8-sync-T
is_shared-requires-8-sync-T c κs = param_sync 0 (types.arg-7-0 κs) (known_is_read κs)
