-- An environment may go to another thread and be read by several at once. Its names and their order only contracts know, and the search for
-- these facts ends before that, so they are put together by hand from those that the toolchain writes.
use denote.Param.Send.{IsSend, IsSync, view_send, view_sync}
use denote.Param.SendFields.{declared_send, declared_sync}
use Rattle.std.proofs.Crossing.{Vec-send, Vec-sync, crosses}
use Rattle.contract_views.proofs.known_list.KnownList.TheSendSync as log_shared
use Rattle.strand_values.proofs.entry.Entry.TheSendSync as entry_shared
use Rattle.strand_values.specs.contracts.entry.Entry as entry
use Rattle.strand_values.specs.contracts.environment.Environment as environment
use Rattle.strand_values.specs.contracts.environment.Environment.TheInside as inside

inside_sends : IsSend inside.the_row
inside_sends = declared_send inside.the_type (Vec-send entry.the_row entry_shared.the_send, (search crosses, (log_shared.the_send _, tt)))

inside_syncs : IsSync inside.the_row
inside_syncs = declared_sync inside.the_type (Vec-sync entry.the_row entry_shared.the_sync, (search crosses, (log_shared.the_sync _, tt)))

pub environment_sends : IsSend environment.the_row
environment_sends = view_send inside.the_row _ _ _ _ inside_sends

pub environment_syncs : IsSync environment.the_row
environment_syncs = view_sync inside.the_row _ _ _ _ inside_syncs
