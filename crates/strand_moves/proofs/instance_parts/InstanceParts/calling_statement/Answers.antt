use Rattle.script_check.specs.Slots.{finds_callee, has_slot}
use Rattle.std.proofs.Common.{ap, ◌∙◌, refl}
use Rattle.script_grammar.specs.declared.tree.Act.{Act, out-Act}
use Rattle.script_grammar.specs.declared.tree.Act.TheOpen as act
use Rattle.script_grammar.specs.declared.tree.Act.TheOpen.{Act-F}
use Rattle.script_grammar.specs.declared.tree.Act.TheVariants as variant
use Rattle.script_grammar.specs.declared.tree.Stmt.{Stmt, out-Stmt}
use Rattle.serial_meaning.specs.Plan.{functions_of}
use Rattle.strand_moves.specs.InstanceParts.{machine_of, present_of}
use Rattle.strand_moves.specs.Moves.{acted}
use Rattle.strand_moves.proofs.Statements.Equations.{let-is-set}
use Rattle.strand_moves.proofs.Statements.FoundParts.{in_call, in_let, in_set}
use Rattle.strand_moves.proofs.Statements.Paying.{act-is}
use Rattle.strand_moves.proofs.Statements.FastPathLemmas.{called-alike, called-is}
use Rattle.strand_moves.proofs.instance_parts.InstanceParts.calling_statement.Goals as goal

pub returns-in-Let-clause-did : goal.returns-in-Let-clause-did
returns-in-Let-clause-did c =
    let i = c.args.self.now in
    let plan = c.args.plan.now in
    let st = c.args.statement.now in
    let is = act-is (act.Let c.in-Let.x c.in-Let.r) st.act (variant.Let c.in-Let.x c.in-Let.r) c.in-Let.is (variant.rolls-Let c.in-Let.x c.in-Let.r) in
    called-alike plan st (act.Set c.in-Let.x c.in-Let.r) i c.calling_right.new.self (out-Act (out-Stmt st).act)
    (ap (λ (b : Act-F Act Stmt). acted plan (present_of i) (machine_of plan i) st b) is ∙ let-is-set plan (present_of i) (machine_of plan i) st c.in-Let.x c.in-Let.r) c.calling_right.result (c.calling_right.ensures.did st)

pub returns-in-Set-clause-did : goal.returns-in-Set-clause-did
returns-in-Set-clause-did c =
    let i = c.args.self.now in
    let plan = c.args.plan.now in
    let st = c.args.statement.now in
    let a = act.Set c.in-Set.x c.in-Set.r in
    let is = act-is a st.act (variant.Set c.in-Set.x c.in-Set.r) c.in-Set.is (variant.rolls-Set c.in-Set.x c.in-Set.r) in
    called-alike plan st a i c.calling_right-in-Set.new.self (out-Act (out-Stmt st).act) (ap (λ (b : Act-F Act Stmt). acted plan (present_of i) (machine_of plan i) st b) is) c.calling_right-in-Set.result (c.calling_right-in-Set.ensures.did st)

pub returns-in-Call-clause-did : goal.returns-in-Call-clause-did
returns-in-Call-clause-did c =
    let i = c.args.self.now in
    let plan = c.args.plan.now in
    let st = c.args.statement.now in
    let a = act.Call c.in-Call.c in
    let is = act-is a st.act (variant.Call c.in-Call.c) c.in-Call.is (variant.rolls-Call c.in-Call.c) in
    called-alike plan st a i c.call.new.self (out-Act (out-Stmt st).act) (ap (λ (b : Act-F Act Stmt). acted plan (present_of i) (machine_of plan i) st b) is) c.moved.result
    (called-is plan st a i c.call.new.self c.call.result c.moved.result (c.call.ensures.shows st) c.call.ensures.same c.call.ensures.stays c.call.ensures.begins c.moved.ensures)

pub calling_right-requires-clause-name : goal.calling_right-requires-clause-name
calling_right-requires-clause-name c =
    let st = c.args.statement.now in
    let is = act-is (act.Let c.in-Let.x c.in-Let.r) st.act (variant.Let c.in-Let.x c.in-Let.r) c.in-Let.is (variant.rolls-Let c.in-Let.x c.in-Let.r) in
    (in_let (has_slot c.args.slots.now c.args.self.now.top.env.names) (finds_callee (functions_of c.args.plan.now)) st c.requires.finds c.in-Let.x c.in-Let.r is).0

pub calling_right-requires-clause-right : goal.calling_right-requires-clause-right
calling_right-requires-clause-right c =
    let st = c.args.statement.now in
    let is = act-is (act.Let c.in-Let.x c.in-Let.r) st.act (variant.Let c.in-Let.x c.in-Let.r) c.in-Let.is (variant.rolls-Let c.in-Let.x c.in-Let.r) in
    (in_let (has_slot c.args.slots.now c.args.self.now.top.env.names) (finds_callee (functions_of c.args.plan.now)) st c.requires.finds c.in-Let.x c.in-Let.r is).1

pub calling_right-requires-in-Set-clause-name : goal.calling_right-requires-in-Set-clause-name
calling_right-requires-in-Set-clause-name c =
    let st = c.args.statement.now in
    let is = act-is (act.Set c.in-Set.x c.in-Set.r) st.act (variant.Set c.in-Set.x c.in-Set.r) c.in-Set.is (variant.rolls-Set c.in-Set.x c.in-Set.r) in
    (in_set (has_slot c.args.slots.now c.args.self.now.top.env.names) (finds_callee (functions_of c.args.plan.now)) st c.requires.finds c.in-Set.x c.in-Set.r is).0

pub calling_right-requires-in-Set-clause-right : goal.calling_right-requires-in-Set-clause-right
calling_right-requires-in-Set-clause-right c =
    let st = c.args.statement.now in
    let is = act-is (act.Set c.in-Set.x c.in-Set.r) st.act (variant.Set c.in-Set.x c.in-Set.r) c.in-Set.is (variant.rolls-Set c.in-Set.x c.in-Set.r) in
    (in_set (has_slot c.args.slots.now c.args.self.now.top.env.names) (finds_callee (functions_of c.args.plan.now)) st c.requires.finds c.in-Set.x c.in-Set.r is).1

pub call-requires-clause-called : goal.call-requires-clause-called
call-requires-clause-called c =
    let st = c.args.statement.now in
    let is = act-is (act.Call c.in-Call.c) st.act (variant.Call c.in-Call.c) c.in-Call.is (variant.rolls-Call c.in-Call.c) in
    (in_call (has_slot c.args.slots.now c.args.self.now.top.env.names) (finds_callee (functions_of c.args.plan.now)) st c.requires.finds c.in-Call.c is).0

pub call-requires-clause-args : goal.call-requires-clause-args
call-requires-clause-args c =
    let st = c.args.statement.now in
    let is = act-is (act.Call c.in-Call.c) st.act (variant.Call c.in-Call.c) c.in-Call.is (variant.rolls-Call c.in-Call.c) in
    (in_call (has_slot c.args.slots.now c.args.self.now.top.env.names) (finds_callee (functions_of c.args.plan.now)) st c.requires.finds c.in-Call.c is).1

pub call-requires-clause-target : goal.call-requires-clause-target
call-requires-clause-target c = refl

pub returns-in-Let-clause-named : goal.returns-in-Let-clause-named
returns-in-Let-clause-named c = c.calling_right.ensures.named

pub returns-in-Set-clause-named : goal.returns-in-Set-clause-named
returns-in-Set-clause-named c = c.calling_right-in-Set.ensures.named

pub returns-in-Call-clause-named : goal.returns-in-Call-clause-named
returns-in-Call-clause-named c = c.call.ensures.named
