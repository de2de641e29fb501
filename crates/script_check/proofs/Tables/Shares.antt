-- A checked script may go to another thread and be read by several at once, as the script in it may.
use denote.Param.Send.{IsSend, IsSync, view_send, view_sync, sendable}
use denote.Param.SendFields.{declared_send, declared_sync}
use denote.Builtin.{u16, u32, bool}
use Rattle.std.proofs.Crossing.{Arc-send, Arc-sync}
use Rattle.std.specs.contracts.alloc.Global as global
use Rattle.std.specs.contracts.impls.GlobalAllocator.TheImpl.{ghosts}
use Rattle.std.specs.contracts.sync.Arc as arc
use Rattle.script_check.specs.contracts.checked.Checked as checked
use Rattle.script_check.specs.contracts.checked.Checked.TheInside as inside
use Rattle.script_check.specs.contracts.checked.CheckedScript as kept
use Rattle.script_check.proofs.names.NameTable.TheSendSync as table_shared
use Rattle.script_grammar.proofs.Shares.{script_sends, script_syncs}
use Rattle.contract_views.proofs.items.Items.TheSendSync as items_shared
use Rattle.script_grammar.proofs.name_text.NameText.TheSendSync as text_shared
use Rattle.contract_views.specs.contracts.items.Items as items
use Rattle.script_grammar.specs.contracts.name_text.NameText as text

number_sends : IsSend u32
number_sends = search sendable

number_syncs : IsSync u32
number_syncs = search sendable

short_sends : IsSend u16
short_sends = search sendable

short_syncs : IsSync u16
short_syncs = search sendable

bool_sends : IsSend bool
bool_sends = search sendable

bool_syncs : IsSync bool
bool_syncs = search sendable

names_sends : IsSend (items.the_row text.the_row)
names_sends = items_shared.the_send text.the_row text_shared.the_send

names_syncs : IsSync (items.the_row text.the_row)
names_syncs = items_shared.the_sync text.the_row text_shared.the_sync

table_sends : IsSend (items.the_row u16)
table_sends = items_shared.the_send u16 short_sends

table_syncs : IsSync (items.the_row u16)
table_syncs = items_shared.the_sync u16 short_syncs

kept_sends : IsSend kept.the_row
kept_sends = declared_send kept.the_type
    (script_sends, (table_shared.the_send u32 number_sends, (items_shared.the_send bool bool_sends, (table_sends, (items_shared.the_send (items.the_row text.the_row) names_sends, (table_sends, tt))))))

kept_syncs : IsSync kept.the_row
kept_syncs = declared_sync kept.the_type
    (script_syncs, (table_shared.the_sync u32 number_syncs, (items_shared.the_sync bool bool_syncs, (table_syncs, (items_shared.the_sync (items.the_row text.the_row) names_syncs, (table_syncs, tt))))))

shared_sends : IsSend (arc.the_row kept.the_row global.the_row ghosts)
shared_sends = Arc-send kept.the_row kept_sends kept_syncs

shared_syncs : IsSync (arc.the_row kept.the_row global.the_row ghosts)
shared_syncs = Arc-sync kept.the_row kept_sends kept_syncs

inside_sends : IsSend inside.the_row
inside_sends = declared_send inside.the_type (shared_sends, tt)

inside_syncs : IsSync inside.the_row
inside_syncs = declared_sync inside.the_type (shared_syncs, tt)

pub checked_sends : IsSend checked.the_row
checked_sends = view_send inside.the_row _ _ _ _ inside_sends

pub checked_syncs : IsSync checked.the_row
checked_syncs = view_sync inside.the_row _ _ _ _ inside_syncs
