use denote.Param.Send.{IsSend, IsSync, param_send, param_sync}
use contract.Lifetimes.{Lfts}
use Rattle.strand_values.proofs.Shares.{environment_sends, environment_syncs}
use Rattle.strand_values.proofs.all_are_shared.Lts as types
use Rattle.strand_values.proofs.all_are_shared.Goals as goal

-- field by field: the two rows are too large to be compared
sends : (κs : Lfts 1) → IsSend (types.arg-0-0 κs)
sends κs = record { owned = environment_sends.owned; leaving = environment_sends.leaving }

syncs : (κs : Lfts 1) → IsSync (types.arg-0-0 κs)
syncs κs = record { shared = environment_syncs.shared }

pub is_shared-requires-send-T : goal.is_shared-requires-send-T
is_shared-requires-send-T c κs = param_send 0 (types.arg-0-0 κs) (sends κs)

pub is_shared-requires-sync-T : goal.is_shared-requires-sync-T
is_shared-requires-sync-T c κs = param_sync 0 (types.arg-0-0 κs) (syncs κs)
