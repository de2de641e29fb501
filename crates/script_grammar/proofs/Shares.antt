-- A script may go to another thread and be read by several at once. The search for these facts ends before the leaves of a tree, so
-- they are put together by hand from those that the toolchain writes for each type.
use denote.Param.Send.{IsSend, IsSync, sendable, struct_send, struct_sync, enum_send, enum_sync}
use denote.Param.SendFields.{declared_send, declared_sync, as_row_send, as_row_sync}
use denote.Struct.Declared as struct
use denote.Enum.Declared as enum
use denote.Struct.Field.{u32-field, bool-field}
use Rattle.std.specs.contracts.option.Option as option
use Rattle.script_grammar.specs.contracts.tree.Script as script
use Rattle.script_grammar.specs.contracts.tree.Function as function
use Rattle.script_grammar.specs.contracts.tree.CallText as call
use Rattle.script_grammar.specs.contracts.tree.Right as right
use Rattle.script_grammar.specs.contracts.tree.Stmt as stmt
use Rattle.script_grammar.specs.contracts.tree.Expr as expr
use Rattle.script_grammar.specs.contracts.tree.Name as name
use Rattle.script_grammar.specs.contracts.tree.Param as param
use Rattle.script_tokens.proofs.version.Version.TheSendSync as version_shared
use Rattle.contract_views.proofs.boxed.Boxed.TheSendSync as boxed_shared
use Rattle.contract_views.proofs.items.Items.TheSendSync as items_shared
use Rattle.script_grammar.proofs.tree.Name.TheSendSync as name_shared
use Rattle.script_grammar.proofs.tree.Number.TheSendSync as number_shared
use Rattle.script_grammar.proofs.tree.Param.TheSendSync as param_shared
use Rattle.script_grammar.proofs.tree.Kind.TheSendSync as kind_shared
use Rattle.script_grammar.proofs.tree.Comparison.TheSendSync as comparison_shared
use Rattle.script_grammar.proofs.tree.ProductSign.TheSendSync as sign_shared
use Rattle.script_grammar.proofs.tree.Act.TheLaws.TheKnot as stmt_shared
use Rattle.script_grammar.proofs.tree.Expr.TheLaws.TheKnot as expr_shared

-- to another thread

number_sends : IsSend u32-field.row
number_sends = search sendable

bool_sends : IsSend bool-field.row
bool_sends = search sendable

target_sends : IsSend (option.the_field name.the_row).row
target_sends = search (sendable, name_shared.the_send)

expr_sends : IsSend expr.the_field.row
expr_sends = expr_shared.send-Expr number_shared.the_field_send name_shared.the_field_send boxed_shared.the_send number_sends comparison_shared.the_field_send items_shared.the_send sign_shared.the_field_send bool_sends

expr_row_sends : IsSend expr.the_row
expr_row_sends = as_row_send expr.the_field expr_sends

call_sends : IsSend call.the_field.row
call_sends = struct_send (struct.shape call.the_type) (name_shared.the_field_send, (items_shared.the_send expr.the_row expr_row_sends, tt))

right_sends : IsSend right.the_field.row
right_sends = enum_send (enum.shape right.the_type) ((expr_sends, tt), ((number_sends, tt), ((number_sends, tt), ((number_sends, (call_sends, tt)), ((number_sends, (call_sends, tt)), tt)))))

stmt_sends : IsSend stmt.the_field.row
stmt_sends = stmt_shared.send-Stmt name_shared.the_field_send right_sends number_shared.the_field_send expr_sends call_sends items_shared.the_send target_sends number_sends

stmt_row_sends : IsSend stmt.the_row
stmt_row_sends = as_row_send stmt.the_field stmt_sends

function_sends : IsSend function.the_row
function_sends = declared_send function.the_type (name_shared.the_send, (items_shared.the_send param.the_row param_shared.the_send, (kind_shared.the_send, (items_shared.the_send stmt.the_row stmt_row_sends, (search sendable, (expr_row_sends, tt))))))

pub script_sends : IsSend script.the_row
script_sends = declared_send script.the_type (version_shared.the_send, (items_shared.the_send function.the_row function_sends, tt))

-- read by several

number_syncs : IsSync u32-field.row
number_syncs = search sendable

bool_syncs : IsSync bool-field.row
bool_syncs = search sendable

target_syncs : IsSync (option.the_field name.the_row).row
target_syncs = search (sendable, name_shared.the_sync)

expr_syncs : IsSync expr.the_field.row
expr_syncs = expr_shared.sync-Expr number_shared.the_field_sync name_shared.the_field_sync boxed_shared.the_sync number_syncs comparison_shared.the_field_sync items_shared.the_sync sign_shared.the_field_sync bool_syncs

expr_row_syncs : IsSync expr.the_row
expr_row_syncs = as_row_sync expr.the_field expr_syncs

call_syncs : IsSync call.the_field.row
call_syncs = struct_sync (struct.shape call.the_type) (name_shared.the_field_sync, (items_shared.the_sync expr.the_row expr_row_syncs, tt))

right_syncs : IsSync right.the_field.row
right_syncs = enum_sync (enum.shape right.the_type) ((expr_syncs, tt), ((number_syncs, tt), ((number_syncs, tt), ((number_syncs, (call_syncs, tt)), ((number_syncs, (call_syncs, tt)), tt)))))

stmt_syncs : IsSync stmt.the_field.row
stmt_syncs = stmt_shared.sync-Stmt name_shared.the_field_sync right_syncs number_shared.the_field_sync expr_syncs call_syncs items_shared.the_sync target_syncs number_syncs

stmt_row_syncs : IsSync stmt.the_row
stmt_row_syncs = as_row_sync stmt.the_field stmt_syncs

function_syncs : IsSync function.the_row
function_syncs = declared_sync function.the_type (name_shared.the_sync, (items_shared.the_sync param.the_row param_shared.the_sync, (kind_shared.the_sync, (items_shared.the_sync stmt.the_row stmt_row_syncs, (search sendable, (expr_row_syncs, tt))))))

pub script_syncs : IsSync script.the_row
script_syncs = declared_sync script.the_type (version_shared.the_sync, (items_shared.the_sync function.the_row function_syncs, tt))
