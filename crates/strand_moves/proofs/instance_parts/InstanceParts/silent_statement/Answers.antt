use Rattle.script_check.specs.Slots.{has_slot}
use Rattle.std.proofs.Common.{ap, ◌∙◌}
use Rattle.script_grammar.specs.declared.tree.Act.{Act}
use Rattle.script_grammar.specs.declared.tree.Act.TheOpen as act
use Rattle.script_grammar.specs.declared.tree.Act.TheOpen.{Act-F}
use Rattle.script_grammar.specs.declared.tree.Act.TheVariants as variant
use Rattle.script_grammar.specs.declared.tree.Stmt.{Stmt}
use Rattle.strand_moves.specs.InstanceParts.{machine_of, present_of}
use Rattle.strand_moves.specs.Moves.{acted}
use Rattle.strand_moves.specs.FastPath.{is_plain}
use Rattle.strand_moves.proofs.Statements.Equations.{let-is-set}
use Rattle.strand_moves.proofs.Statements.FoundParts.{in_array, in_if, in_let, in_set, in_store, in_while}
use Rattle.strand_moves.proofs.Statements.Paying.{act-is}
use Rattle.strand_moves.proofs.Statements.FastPathLemmas.{done-silent, may-enter, silent-is, stays-there}
use Rattle.strand_moves.proofs.instance_parts.InstanceParts.silent_statement.Goals as goal

pub returns-in-Let-clause-did : goal.returns-in-Let-clause-did
returns-in-Let-clause-did c =
    let i = c.args.self.now in
    let st = c.args.statement.now in
    let is = act-is (act.Let c.in-Let.x c.in-Let.r) st.act (variant.Let c.in-Let.x c.in-Let.r) c.in-Let.is (variant.rolls-Let c.in-Let.x c.in-Let.r) in
    done-silent st (act.Set c.in-Let.x c.in-Let.r) i c.silent_right.new.self
    (λ plan. ap (λ (b : Act-F Act Stmt). acted plan (present_of i) (machine_of plan i) st b) is ∙ let-is-set plan (present_of i) (machine_of plan i) st c.in-Let.x c.in-Let.r)
    (ap (λ (b : Act-F Act Stmt). is_plain b) is) c.silent_right.result (c.silent_right.ensures.did st)

pub returns-in-Set-clause-did : goal.returns-in-Set-clause-did
returns-in-Set-clause-did c =
    let i = c.args.self.now in
    let st = c.args.statement.now in
    let is = act-is (act.Set c.in-Set.x c.in-Set.r) st.act (variant.Set c.in-Set.x c.in-Set.r) c.in-Set.is (variant.rolls-Set c.in-Set.x c.in-Set.r) in
    done-silent st (act.Set c.in-Set.x c.in-Set.r) i c.silent_right-in-Set.new.self
    (λ plan. ap (λ (b : Act-F Act Stmt). acted plan (present_of i) (machine_of plan i) st b) is)
    (ap (λ (b : Act-F Act Stmt). is_plain b) is) c.silent_right-in-Set.result (c.silent_right-in-Set.ensures.did st)

pub returns-in-Array-clause-did : goal.returns-in-Array-clause-did
returns-in-Array-clause-did c =
    let a = act.Array c.in-Array.x c.in-Array.n in
    let st = c.args.statement.now in
    let is = act-is a st.act (variant.Array c.in-Array.x c.in-Array.n) c.in-Array.is (variant.rolls-Array c.in-Array.x c.in-Array.n) in
    done-silent st a c.args.self.now c.silent_array.new.self (λ plan. ap (λ (b : Act-F Act Stmt). acted plan (present_of c.args.self.now) (machine_of plan c.args.self.now) st b) is)
    (ap (λ (b : Act-F Act Stmt). is_plain b) is) c.silent_array.result (c.silent_array.ensures.did st)

pub returns-in-Store-clause-did : goal.returns-in-Store-clause-did
returns-in-Store-clause-did c =
    let a = act.Store c.in-Store.x c.in-Store.i c.in-Store.e in
    let st = c.args.statement.now in
    let is = act-is a st.act (variant.Store c.in-Store.x c.in-Store.i c.in-Store.e) c.in-Store.is (variant.rolls-Store c.in-Store.x c.in-Store.i c.in-Store.e) in
    done-silent st a c.args.self.now c.silent_store.new.self (λ plan. ap (λ (b : Act-F Act Stmt). acted plan (present_of c.args.self.now) (machine_of plan c.args.self.now) st b) is)
    (ap (λ (b : Act-F Act Stmt). is_plain b) is) c.silent_store.result (c.silent_store.ensures.did st)

pub returns-in-If-clause-did : goal.returns-in-If-clause-did
returns-in-If-clause-did c =
    let a = act.If c.in-If.e c.in-If.yes c.in-If.no in
    let st = c.args.statement.now in
    let is = act-is a st.act (variant.If c.in-If.e c.in-If.yes c.in-If.no) c.in-If.is (variant.rolls-If c.in-If.e c.in-If.yes c.in-If.no) in
    silent-is st a c.args.self.now c.branch-self.new.self is c.branch-self.result c.moved.result (λ plan after. c.branch-self.ensures.shows plan st after is) c.branch-self.ensures.same c.moved.ensures

pub returns-in-While-clause-did : goal.returns-in-While-clause-did
returns-in-While-clause-did c =
    let a = act.While c.in-While.e c.in-While.field-1 in
    let st = c.args.statement.now in
    let is = act-is a st.act (variant.While c.in-While.e c.in-While.field-1) c.in-While.is (variant.rolls-While c.in-While.e c.in-While.field-1) in
    silent-is st a c.args.self.now c.while_test.new.self is c.while_test.result c.moved-in-While.result (λ plan after. c.while_test.ensures.shows plan st c.in-While.field-1 after is) c.while_test.ensures.same c.moved-in-While.ensures

pub silent_right-requires-clause-name : goal.silent_right-requires-clause-name
silent_right-requires-clause-name c =
    let st = c.args.statement.now in
    let is = act-is (act.Let c.in-Let.x c.in-Let.r) st.act (variant.Let c.in-Let.x c.in-Let.r) c.in-Let.is (variant.rolls-Let c.in-Let.x c.in-Let.r) in
    (in_let (has_slot c.args.slots.now c.args.self.now.top.env.names) c.requires.0 st c.requires.1 c.in-Let.x c.in-Let.r is).0

pub silent_right-requires-clause-right : goal.silent_right-requires-clause-right
silent_right-requires-clause-right c =
    let st = c.args.statement.now in
    let is = act-is (act.Let c.in-Let.x c.in-Let.r) st.act (variant.Let c.in-Let.x c.in-Let.r) c.in-Let.is (variant.rolls-Let c.in-Let.x c.in-Let.r) in
    (c.requires.0, (in_let (has_slot c.args.slots.now c.args.self.now.top.env.names) c.requires.0 st c.requires.1 c.in-Let.x c.in-Let.r is).1)

pub silent_right-requires-in-Set-clause-name : goal.silent_right-requires-in-Set-clause-name
silent_right-requires-in-Set-clause-name c =
    let st = c.args.statement.now in
    let is = act-is (act.Set c.in-Set.x c.in-Set.r) st.act (variant.Set c.in-Set.x c.in-Set.r) c.in-Set.is (variant.rolls-Set c.in-Set.x c.in-Set.r) in
    (in_set (has_slot c.args.slots.now c.args.self.now.top.env.names) c.requires.0 st c.requires.1 c.in-Set.x c.in-Set.r is).0

pub silent_right-requires-in-Set-clause-right : goal.silent_right-requires-in-Set-clause-right
silent_right-requires-in-Set-clause-right c =
    let st = c.args.statement.now in
    let is = act-is (act.Set c.in-Set.x c.in-Set.r) st.act (variant.Set c.in-Set.x c.in-Set.r) c.in-Set.is (variant.rolls-Set c.in-Set.x c.in-Set.r) in
    (c.requires.0, (in_set (has_slot c.args.slots.now c.args.self.now.top.env.names) c.requires.0 st c.requires.1 c.in-Set.x c.in-Set.r is).1)

pub silent_array-requires : goal.silent_array-requires
silent_array-requires c =
    let st = c.args.statement.now in
    let is = act-is (act.Array c.in-Array.x c.in-Array.n) st.act (variant.Array c.in-Array.x c.in-Array.n) c.in-Array.is (variant.rolls-Array c.in-Array.x c.in-Array.n) in
    in_array (has_slot c.args.slots.now c.args.self.now.top.env.names) c.requires.0 st c.requires.1 c.in-Array.x c.in-Array.n is

pub silent_store-requires-clause-name : goal.silent_store-requires-clause-name
silent_store-requires-clause-name c =
    let st = c.args.statement.now in
    let is = act-is (act.Store c.in-Store.x c.in-Store.i c.in-Store.e) st.act (variant.Store c.in-Store.x c.in-Store.i c.in-Store.e) c.in-Store.is (variant.rolls-Store c.in-Store.x c.in-Store.i c.in-Store.e) in
    (in_store (has_slot c.args.slots.now c.args.self.now.top.env.names) c.requires.0 st c.requires.1 c.in-Store.x c.in-Store.i c.in-Store.e is).0

pub silent_store-requires-clause-index : goal.silent_store-requires-clause-index
silent_store-requires-clause-index c =
    let st = c.args.statement.now in
    let is = act-is (act.Store c.in-Store.x c.in-Store.i c.in-Store.e) st.act (variant.Store c.in-Store.x c.in-Store.i c.in-Store.e) c.in-Store.is (variant.rolls-Store c.in-Store.x c.in-Store.i c.in-Store.e) in
    (in_store (has_slot c.args.slots.now c.args.self.now.top.env.names) c.requires.0 st c.requires.1 c.in-Store.x c.in-Store.i c.in-Store.e is).1.0

pub silent_store-requires-clause-value : goal.silent_store-requires-clause-value
silent_store-requires-clause-value c =
    let st = c.args.statement.now in
    let is = act-is (act.Store c.in-Store.x c.in-Store.i c.in-Store.e) st.act (variant.Store c.in-Store.x c.in-Store.i c.in-Store.e) c.in-Store.is (variant.rolls-Store c.in-Store.x c.in-Store.i c.in-Store.e) in
    (in_store (has_slot c.args.slots.now c.args.self.now.top.env.names) c.requires.0 st c.requires.1 c.in-Store.x c.in-Store.i c.in-Store.e is).1.1

pub branch-self-requires : goal.branch-self-requires
branch-self-requires c =
    let st = c.args.statement.now in
    let is = act-is (act.If c.in-If.e c.in-If.yes c.in-If.no) st.act (variant.If c.in-If.e c.in-If.yes c.in-If.no) c.in-If.is (variant.rolls-If c.in-If.e c.in-If.yes c.in-If.no) in
    in_if (has_slot c.args.slots.now c.args.self.now.top.env.names) c.requires.0 st c.requires.1 c.in-If.e c.in-If.yes c.in-If.no is

pub while_test-requires : goal.while_test-requires
while_test-requires c =
    let st = c.args.statement.now in
    let is = act-is (act.While c.in-While.e c.in-While.field-1) st.act (variant.While c.in-While.e c.in-While.field-1) c.in-While.is (variant.rolls-While c.in-While.e c.in-While.field-1) in
    in_while (has_slot c.args.slots.now c.args.self.now.top.env.names) c.requires.0 st c.requires.1 c.in-While.e c.in-While.field-1 is

pub returns-in-Let-clause-named : goal.returns-in-Let-clause-named
returns-in-Let-clause-named c = c.silent_right.ensures.named

pub returns-in-Set-clause-named : goal.returns-in-Set-clause-named
returns-in-Set-clause-named c = c.silent_right-in-Set.ensures.named

pub returns-in-Array-clause-named : goal.returns-in-Array-clause-named
returns-in-Array-clause-named c = c.silent_array.ensures.named

pub returns-in-Store-clause-named : goal.returns-in-Store-clause-named
returns-in-Store-clause-named c = c.silent_store.ensures.named

pub returns-in-If-clause-named : goal.returns-in-If-clause-named
returns-in-If-clause-named c = c.branch-self.ensures.named

pub returns-in-While-clause-named : goal.returns-in-While-clause-named
returns-in-While-clause-named c = c.while_test.ensures.named

pub returns-in-Let-clause-cursor : goal.returns-in-Let-clause-cursor
returns-in-Let-clause-cursor c = stays-there c.args.self.now c.silent_right.new.self c.silent_right.result c.silent_right.ensures.cursor

pub returns-in-Set-clause-cursor : goal.returns-in-Set-clause-cursor
returns-in-Set-clause-cursor c = stays-there c.args.self.now c.silent_right-in-Set.new.self c.silent_right-in-Set.result c.silent_right-in-Set.ensures.cursor

pub returns-in-Array-clause-cursor : goal.returns-in-Array-clause-cursor
returns-in-Array-clause-cursor c = stays-there c.args.self.now c.silent_array.new.self c.silent_array.result c.silent_array.ensures.cursor

pub returns-in-Store-clause-cursor : goal.returns-in-Store-clause-cursor
returns-in-Store-clause-cursor c = stays-there c.args.self.now c.silent_store.new.self c.silent_store.result c.silent_store.ensures.cursor

pub returns-in-If-clause-cursor : goal.returns-in-If-clause-cursor
returns-in-If-clause-cursor c = may-enter c.args.self.now c.branch-self.new.self c.branch-self.result c.moved.result c.moved.ensures c.branch-self.ensures.same c.branch-self.ensures.cursor

pub returns-in-While-clause-cursor : goal.returns-in-While-clause-cursor
returns-in-While-clause-cursor c = may-enter c.args.self.now c.while_test.new.self c.while_test.result c.moved-in-While.result c.moved-in-While.ensures c.while_test.ensures.same c.while_test.ensures.cursor
