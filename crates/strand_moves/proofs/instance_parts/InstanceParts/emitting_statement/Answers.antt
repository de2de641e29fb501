use Rattle.script_check.specs.Slots.{finds_callee, has_slot}
use Rattle.std.proofs.Common.{ap, ◌∙◌, refl}
use Rattle.script_grammar.specs.declared.tree.Act.{Act}
use Rattle.script_grammar.specs.declared.tree.Act.TheOpen as act
use Rattle.script_grammar.specs.declared.tree.Act.TheOpen.{Act-F}
use Rattle.script_grammar.specs.declared.tree.Act.TheVariants as variant
use Rattle.script_grammar.specs.declared.tree.Stmt.{Stmt, out-Stmt}
use Rattle.script_grammar.specs.declared.tree.Act.{out-Act}
use Rattle.serial_meaning.specs.Plan.{functions_of}
use Rattle.strand_moves.specs.InstanceParts.{machine_of, present_of}
use Rattle.strand_moves.specs.Moves.{acted}
use Rattle.strand_moves.specs.FastPath.{is_emitting}
use Rattle.strand_moves.proofs.Statements.Equations.{let-is-set}
use Rattle.strand_moves.proofs.Statements.FoundParts.{in_let, in_print, in_set}
use Rattle.strand_moves.proofs.Statements.Paying.{act-is}
use Rattle.strand_moves.proofs.Statements.FastPathLemmas.{sent-alike, sent-is}
use Rattle.strand_moves.proofs.instance_parts.InstanceParts.emitting_statement.Goals as goal

pub returns-in-Let-clause-did : goal.returns-in-Let-clause-did
returns-in-Let-clause-did g c =
    let i = c.args.self.now in
    let plan = c.args.plan.now in
    let st = c.args.statement.now in
    let a = act.Set c.in-Let.x c.in-Let.r in
    let is = act-is (act.Let c.in-Let.x c.in-Let.r) st.act (variant.Let c.in-Let.x c.in-Let.r) c.in-Let.is (variant.rolls-Let c.in-Let.x c.in-Let.r) in
    sent-alike g.S.EventSink.after plan st a i c.emitting_right.new.self c.args.sink.now c.emitting_right.new.sink (out-Act (out-Stmt st).act)
    (ap (λ (b : Act-F Act Stmt). acted plan (present_of i) (machine_of plan i) st b) is ∙ let-is-set plan (present_of i) (machine_of plan i) st c.in-Let.x c.in-Let.r) (ap (λ (b : Act-F Act Stmt). is_emitting b) is)
    c.emitting_right.result (c.emitting_right.ensures.did st)

pub returns-in-Set-clause-did : goal.returns-in-Set-clause-did
returns-in-Set-clause-did g c =
    let i = c.args.self.now in
    let plan = c.args.plan.now in
    let st = c.args.statement.now in
    let a = act.Set c.in-Set.x c.in-Set.r in
    let is = act-is a st.act (variant.Set c.in-Set.x c.in-Set.r) c.in-Set.is (variant.rolls-Set c.in-Set.x c.in-Set.r) in
    sent-alike g.S.EventSink.after plan st a i c.emitting_right-in-Set.new.self c.args.sink.now c.emitting_right-in-Set.new.sink (out-Act (out-Stmt st).act)
    (ap (λ (b : Act-F Act Stmt). acted plan (present_of i) (machine_of plan i) st b) is) (ap (λ (b : Act-F Act Stmt). is_emitting b) is)
    c.emitting_right-in-Set.result (c.emitting_right-in-Set.ensures.did st)

pub returns-in-Print-clause-did : goal.returns-in-Print-clause-did
returns-in-Print-clause-did g c =
    let i = c.args.self.now in
    let plan = c.args.plan.now in
    let st = c.args.statement.now in
    let a = act.Print c.in-Print.e in
    let is = act-is a st.act (variant.Print c.in-Print.e) c.in-Print.is (variant.rolls-Print c.in-Print.e) in
    sent-alike g.S.EventSink.after plan st a i i c.args.sink.now c.sent.new.sink (out-Act (out-Stmt st).act)
    (ap (λ (b : Act-F Act Stmt). acted plan (present_of i) (machine_of plan i) st b) is) (ap (λ (b : Act-F Act Stmt). is_emitting b) is) c.sent.result
    (sent-is g.S.EventSink.after plan st a i i c.args.sink.now c.sent.new.sink c.print.result c.sent.result (c.print.ensures plan st) (λ kind h. refl) c.sent.ensures)

pub emitting_right-requires-clause-name : goal.emitting_right-requires-clause-name
emitting_right-requires-clause-name g c =
    let st = c.args.statement.now in
    let is = act-is (act.Let c.in-Let.x c.in-Let.r) st.act (variant.Let c.in-Let.x c.in-Let.r) c.in-Let.is (variant.rolls-Let c.in-Let.x c.in-Let.r) in
    (in_let (has_slot c.args.slots.now c.args.self.now.top.env.names) (finds_callee (functions_of c.args.plan.now)) st c.requires.finds c.in-Let.x c.in-Let.r is).0

pub emitting_right-requires-in-Set-clause-name : goal.emitting_right-requires-in-Set-clause-name
emitting_right-requires-in-Set-clause-name g c =
    let st = c.args.statement.now in
    let is = act-is (act.Set c.in-Set.x c.in-Set.r) st.act (variant.Set c.in-Set.x c.in-Set.r) c.in-Set.is (variant.rolls-Set c.in-Set.x c.in-Set.r) in
    (in_set (has_slot c.args.slots.now c.args.self.now.top.env.names) (finds_callee (functions_of c.args.plan.now)) st c.requires.finds c.in-Set.x c.in-Set.r is).0

pub print-requires-clause-finds : goal.print-requires-clause-finds
print-requires-clause-finds g c =
    let st = c.args.statement.now in
    let is = act-is (act.Print c.in-Print.e) st.act (variant.Print c.in-Print.e) c.in-Print.is (variant.rolls-Print c.in-Print.e) in
    in_print (has_slot c.args.slots.now c.args.self.now.top.env.names) (finds_callee (functions_of c.args.plan.now)) st c.requires.finds c.in-Print.e is

pub returns-in-Let-clause-named : goal.returns-in-Let-clause-named
returns-in-Let-clause-named g c = c.emitting_right.ensures.named

pub returns-in-Set-clause-named : goal.returns-in-Set-clause-named
returns-in-Set-clause-named g c = c.emitting_right-in-Set.ensures.named
