use denote.Param.Send.{IsSend, IsSync, param_send, param_sync}
use contract.Lifetimes.{Lfts}
use Rattle.strand_moves.proofs.Shares.{instance_sends, instance_syncs, moved_sends, moved_syncs}
use Rattle.strand_moves.proofs.all_are_shared.Lts as types
use Rattle.strand_moves.proofs.all_are_shared.Goals as goal

-- field by field: the two rows are too large to be compared
instance_goes : (κs : Lfts 1) → IsSend (types.arg-0-0 κs)
instance_goes κs = record { owned = instance_sends.owned; leaving = instance_sends.leaving }

instance_is_read : (κs : Lfts 1) → IsSync (types.arg-0-0 κs)
instance_is_read κs = record { shared = instance_syncs.shared }

moved_goes : (κs : Lfts 1) → IsSend (types.arg-1-0 κs)
moved_goes κs = record { owned = moved_sends.owned; leaving = moved_sends.leaving }

moved_is_read : (κs : Lfts 1) → IsSync (types.arg-1-0 κs)
moved_is_read κs = record { shared = moved_syncs.shared }

pub is_shared-requires-send-T : goal.is_shared-requires-send-T
is_shared-requires-send-T c κs = param_send 0 (types.arg-0-0 κs) (instance_goes κs)

pub is_shared-requires-sync-T : goal.is_shared-requires-sync-T
is_shared-requires-sync-T c κs = param_sync 0 (types.arg-0-0 κs) (instance_is_read κs)

pub is_shared-requires-2-send-T : goal.is_shared-requires-2-send-T
is_shared-requires-2-send-T c κs = param_send 0 (types.arg-1-0 κs) (moved_goes κs)

pub is_shared-requires-2-sync-T : goal.is_shared-requires-2-sync-T
is_shared-requires-2-sync-T c κs = param_sync 0 (types.arg-1-0 κs) (moved_is_read κs)
