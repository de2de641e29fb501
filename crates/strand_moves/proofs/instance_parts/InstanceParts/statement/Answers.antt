use Rattle.script_check.specs.Slots.{finds_callee, has_slot}
use Rattle.std.proofs.Common.{◌∙◌, [], ◌∷◌, ◌++◌, ap, arith, refl, sym}
use Rattle.script_grammar.specs.declared.tree.Act.TheOpen as act
use Rattle.serial_meaning.specs.declared.event.FaultKind.{FaultKind}
use Rattle.script_grammar.specs.declared.tree.Act.TheVariants as variant
use Rattle.serial_meaning.specs.Plan.{functions_of}
use Rattle.strand_moves.specs.InstanceParts.{machine_of, path_of, present_of}
use Rattle.strand_moves.specs.Moves.{acted, present_pedigree}
use Rattle.strand_meaning.specs.Machine.{statement_move}
use Rattle.strand_moves.proofs.Statements.Equations.{faults, let-is-set}
use Rattle.strand_moves.proofs.OpenScopes.Exits.{shows-fault}
use Rattle.strand_moves.proofs.Statements.FoundParts.{every-spawn, in_array, in_call, in_if, in_let, in_pfor, in_print, in_set, in_store, in_while, paid-finds}
use Rattle.strand_moves.proofs.Statements.Paying.{act-is, shows-same, statement-paid, statement-unpaid, paid-after}
use Rattle.strand_moves.proofs.Statements.FastPathLemmas.{emitted-child, silent-child}
use Rattle.strand_moves.proofs.OpenScopes.Keeping.{here-is, keeps-into, keeps-paid, keeps-unless}
use Rattle.strand_moves.proofs.instance_parts.InstanceParts.statement.Goals as goal

pub returns-in-Let-clause-shows : goal.returns-in-Let-clause-shows
returns-in-Let-clause-shows c =
    let plan = c.args.plan.now in
    let p = c.pay.new.self in
    let st = c.args.statement.now in
    let is = act-is (act.Let c.in-Let.x c.in-Let.r) st.act (variant.Let c.in-Let.x c.in-Let.r) c.in-Let.is (variant.rolls-Let c.in-Let.x c.in-Let.r) in
    let m = machine_of plan p in
    let acts = shows-same (acted plan (present_of p) m st (act.Let c.in-Let.x c.in-Let.r)) (acted plan (present_of p) m st (act.Set c.in-Let.x c.in-Let.r)) (present_pedigree (present_of p) m) (machine_of plan c.assign.new.self) c.assign.result
    (let-is-set plan (present_of p) m st c.in-Let.x c.in-Let.r) (c.assign.ensures.shows st) in
    statement-paid plan c.args.self.now p p.steps c.in_ok-pay.ensures.ok c.in_ok-pay.ensures.paid (here-is plan c.args.self.now c.requires.instance) st (act.Let c.in-Let.x c.in-Let.r) c.assign.new.self c.assign.result is acts

pub returns-in-Array-clause-shows : goal.returns-in-Array-clause-shows
returns-in-Array-clause-shows c =
    let plan = c.args.plan.now in
    let p = c.pay.new.self in
    let st = c.args.statement.now in
    let is = act-is (act.Array c.in-Array.x c.in-Array.n) st.act (variant.Array c.in-Array.x c.in-Array.n) c.in-Array.is (variant.rolls-Array c.in-Array.x c.in-Array.n) in
    statement-paid plan c.args.self.now p p.steps c.in_ok-pay.ensures.ok c.in_ok-pay.ensures.paid (here-is plan c.args.self.now c.requires.instance) st (act.Array c.in-Array.x c.in-Array.n) c.array.new.self c.silent.result is (rw c.silent.ensures (c.array.ensures.shows plan st))

pub returns-in-Set-clause-shows : goal.returns-in-Set-clause-shows
returns-in-Set-clause-shows c =
    let plan = c.args.plan.now in
    let p = c.pay.new.self in
    let st = c.args.statement.now in
    let is = act-is (act.Set c.in-Set.x c.in-Set.r) st.act (variant.Set c.in-Set.x c.in-Set.r) c.in-Set.is (variant.rolls-Set c.in-Set.x c.in-Set.r) in
    statement-paid plan c.args.self.now p p.steps c.in_ok-pay.ensures.ok c.in_ok-pay.ensures.paid (here-is plan c.args.self.now c.requires.instance) st (act.Set c.in-Set.x c.in-Set.r) c.assign-in-Set.new.self c.assign-in-Set.result is (c.assign-in-Set.ensures.shows st)

pub returns-in-Store-clause-shows : goal.returns-in-Store-clause-shows
returns-in-Store-clause-shows c =
    let plan = c.args.plan.now in
    let p = c.pay.new.self in
    let st = c.args.statement.now in
    let is = act-is (act.Store c.in-Store.x c.in-Store.i c.in-Store.e) st.act (variant.Store c.in-Store.x c.in-Store.i c.in-Store.e) c.in-Store.is (variant.rolls-Store c.in-Store.x c.in-Store.i c.in-Store.e) in
    statement-paid plan c.args.self.now p p.steps c.in_ok-pay.ensures.ok c.in_ok-pay.ensures.paid (here-is plan c.args.self.now c.requires.instance) st (act.Store c.in-Store.x c.in-Store.i c.in-Store.e) c.store.new.self c.silent-in-Store.result is (rw c.silent-in-Store.ensures (c.store.ensures.shows plan st))

pub returns-in-Spawn-clause-shows : goal.returns-in-Spawn-clause-shows
returns-in-Spawn-clause-shows c =
    let plan = c.args.plan.now in
    let p = c.pay.new.self in
    let st = c.args.statement.now in
    let is = act-is (act.Spawn c.in-Spawn.c) st.act (variant.Spawn c.in-Spawn.c) c.in-Spawn.is (variant.rolls-Spawn c.in-Spawn.c) in
    statement-paid plan c.args.self.now p p.steps c.in_ok-pay.ensures.ok c.in_ok-pay.ensures.paid (here-is plan c.args.self.now c.requires.instance) st (act.Spawn c.in-Spawn.c) c.spawn_move.new.self c.spawn_move.result is
    (c.spawn_move.ensures.shows st)

pub returns-in-Call-clause-shows : goal.returns-in-Call-clause-shows
returns-in-Call-clause-shows c =
    let plan = c.args.plan.now in
    let p = c.pay.new.self in
    let st = c.args.statement.now in
    let is = act-is (act.Call c.in-Call.c) st.act (variant.Call c.in-Call.c) c.in-Call.is (variant.rolls-Call c.in-Call.c) in
    statement-paid plan c.args.self.now p p.steps c.in_ok-pay.ensures.ok c.in_ok-pay.ensures.paid (here-is plan c.args.self.now c.requires.instance) st (act.Call c.in-Call.c) c.call.new.self c.silent-in-Call.result is (rw c.silent-in-Call.ensures (c.call.ensures.shows st))

pub returns-in-Sync-clause-shows : goal.returns-in-Sync-clause-shows
returns-in-Sync-clause-shows c =
    let plan = c.args.plan.now in
    let p = c.pay.new.self in
    let st = c.args.statement.now in
    let is = act-is act.Sync st.act variant.Sync c.in-Sync.is variant.rolls-Sync in
    statement-paid plan c.args.self.now p p.steps c.in_ok-pay.ensures.ok c.in_ok-pay.ensures.paid (here-is plan c.args.self.now c.requires.instance) st act.Sync c.sync_statement.new.self c.sync_statement.result is (c.sync_statement.ensures.shows plan st)

pub returns-in-Sync-clause-child : goal.returns-in-Sync-clause-child
returns-in-Sync-clause-child c = c.sync_statement.ensures.child c.args.plan.now

pub returns-in-Print-clause-shows : goal.returns-in-Print-clause-shows
returns-in-Print-clause-shows c =
    let plan = c.args.plan.now in
    let p = c.pay.new.self in
    let st = c.args.statement.now in
    let is = act-is (act.Print c.in-Print.e) st.act (variant.Print c.in-Print.e) c.in-Print.is (variant.rolls-Print c.in-Print.e) in
    statement-paid plan c.args.self.now p p.steps c.in_ok-pay.ensures.ok c.in_ok-pay.ensures.paid (here-is plan c.args.self.now c.requires.instance) st (act.Print c.in-Print.e) p c.emitted.result is (rw c.emitted.ensures (c.print.ensures plan st))

pub returns-in-If-clause-shows : goal.returns-in-If-clause-shows
returns-in-If-clause-shows c =
    let plan = c.args.plan.now in
    let p = c.pay.new.self in
    let st = c.args.statement.now in
    let is = act-is (act.If c.in-If.e c.in-If.yes c.in-If.no) st.act (variant.If c.in-If.e c.in-If.yes c.in-If.no) c.in-If.is (variant.rolls-If c.in-If.e c.in-If.yes c.in-If.no) in
    let after = paid-after plan c.args.self.now p p.steps c.in_ok-pay.ensures.ok c.in_ok-pay.ensures.paid st c.requires.after in
    statement-paid plan c.args.self.now p p.steps c.in_ok-pay.ensures.ok c.in_ok-pay.ensures.paid (here-is plan c.args.self.now c.requires.instance) st (act.If c.in-If.e c.in-If.yes c.in-If.no) c.branch-self.new.self c.silent-in-If.result is
    (rw c.silent-in-If.ensures (c.branch-self.ensures.shows plan st after is))

pub returns-in-While-clause-shows : goal.returns-in-While-clause-shows
returns-in-While-clause-shows c =
    let plan = c.args.plan.now in
    let p = c.pay.new.self in
    let st = c.args.statement.now in
    let is = act-is (act.While c.in-While.e c.in-While.field-1) st.act (variant.While c.in-While.e c.in-While.field-1) c.in-While.is (variant.rolls-While c.in-While.e c.in-While.field-1) in
    let after = paid-after plan c.args.self.now p p.steps c.in_ok-pay.ensures.ok c.in_ok-pay.ensures.paid st c.requires.after in
    statement-paid plan c.args.self.now p p.steps c.in_ok-pay.ensures.ok c.in_ok-pay.ensures.paid (here-is plan c.args.self.now c.requires.instance) st (act.While c.in-While.e c.in-While.field-1) c.while_test.new.self c.silent-in-While.result is
    (rw c.silent-in-While.ensures (c.while_test.ensures.shows plan st c.in-While.field-1 after is))

pub returns-in-Pfor-clause-shows : goal.returns-in-Pfor-clause-shows
returns-in-Pfor-clause-shows c =
    let plan = c.args.plan.now in
    let p = c.pay.new.self in
    let st = c.args.statement.now in
    let is = act-is (act.Pfor c.in-Pfor.var c.in-Pfor.lo c.in-Pfor.hi c.in-Pfor.target c.in-Pfor.call) st.act (variant.Pfor c.in-Pfor.var c.in-Pfor.lo c.in-Pfor.hi c.in-Pfor.target c.in-Pfor.call) c.in-Pfor.is (variant.rolls-Pfor c.in-Pfor.var c.in-Pfor.lo c.in-Pfor.hi c.in-Pfor.target c.in-Pfor.call) in
    statement-paid plan c.args.self.now p p.steps c.in_ok-pay.ensures.ok c.in_ok-pay.ensures.paid (here-is plan c.args.self.now c.requires.instance) st (act.Pfor c.in-Pfor.var c.in-Pfor.lo c.in-Pfor.hi c.in-Pfor.target c.in-Pfor.call) c.pfor_move.new.self c.pfor_move.result is
    (c.pfor_move.ensures.shows st c.in-Pfor.var)

pub returns-in-Array-clause-child : goal.returns-in-Array-clause-child
returns-in-Array-clause-child c = rw c.silent.ensures (silent-child c.args.plan.now c.array.result)

pub returns-in-Store-clause-child : goal.returns-in-Store-clause-child
returns-in-Store-clause-child c = rw c.silent-in-Store.ensures (silent-child c.args.plan.now c.store.result)

pub returns-in-Call-clause-child : goal.returns-in-Call-clause-child
returns-in-Call-clause-child c = rw c.silent-in-Call.ensures (silent-child c.args.plan.now c.call.result)

pub returns-in-Print-clause-child : goal.returns-in-Print-clause-child
returns-in-Print-clause-child c = rw c.emitted.ensures (emitted-child c.args.plan.now c.print.result)

pub returns-in-If-clause-child : goal.returns-in-If-clause-child
returns-in-If-clause-child c = rw c.silent-in-If.ensures (silent-child c.args.plan.now c.branch-self.result)

pub returns-in-While-clause-child : goal.returns-in-While-clause-child
returns-in-While-clause-child c = rw c.silent-in-While.ensures (silent-child c.args.plan.now c.while_test.result)

pub returns-in-Let-clause-keeps : goal.returns-in-Let-clause-keeps
returns-in-Let-clause-keeps c =
    keeps-unless c.args.plan.now c.args.self.now c.pay.new.self c.pay.new.self.steps c.requires.instance c.requires.goes_on c.in_ok-pay.ensures.ok c.in_ok-pay.ensures.paid c.assign.new.self c.assign.ensures.named c.assign.ensures.few c.assign.result c.assign.ensures.stays

pub returns-in-Array-clause-keeps : goal.returns-in-Array-clause-keeps
returns-in-Array-clause-keeps c =
    keeps-paid c.args.plan.now c.args.self.now c.pay.new.self c.pay.new.self.steps c.requires.instance c.requires.goes_on c.in_ok-pay.ensures.ok c.in_ok-pay.ensures.paid c.array.new.self (c.array.ensures.named c.args.plan.now) c.array.ensures.stays c.array.ensures.few c.silent.result

pub returns-in-Set-clause-keeps : goal.returns-in-Set-clause-keeps
returns-in-Set-clause-keeps c =
    keeps-unless c.args.plan.now c.args.self.now c.pay.new.self c.pay.new.self.steps c.requires.instance c.requires.goes_on c.in_ok-pay.ensures.ok c.in_ok-pay.ensures.paid c.assign-in-Set.new.self c.assign-in-Set.ensures.named c.assign-in-Set.ensures.few c.assign-in-Set.result c.assign-in-Set.ensures.stays

pub returns-in-Store-clause-keeps : goal.returns-in-Store-clause-keeps
returns-in-Store-clause-keeps c =
    keeps-paid c.args.plan.now c.args.self.now c.pay.new.self c.pay.new.self.steps c.requires.instance c.requires.goes_on c.in_ok-pay.ensures.ok c.in_ok-pay.ensures.paid c.store.new.self (c.store.ensures.named c.args.plan.now) c.store.ensures.stays c.store.ensures.few c.silent-in-Store.result

pub returns-in-Spawn-clause-keeps : goal.returns-in-Spawn-clause-keeps
returns-in-Spawn-clause-keeps c =
    keeps-paid c.args.plan.now c.args.self.now c.pay.new.self c.pay.new.self.steps c.requires.instance c.requires.goes_on c.in_ok-pay.ensures.ok c.in_ok-pay.ensures.paid c.spawn_move.new.self (c.spawn_move.ensures.named c.args.plan.now) c.spawn_move.ensures.stays c.spawn_move.ensures.few c.spawn_move.result

pub returns-in-Call-clause-keeps : goal.returns-in-Call-clause-keeps
returns-in-Call-clause-keeps c =
    keeps-unless c.args.plan.now c.args.self.now c.pay.new.self c.pay.new.self.steps c.requires.instance c.requires.goes_on c.in_ok-pay.ensures.ok c.in_ok-pay.ensures.paid c.call.new.self c.call.ensures.named c.call.ensures.few c.silent-in-Call.result (rw c.silent-in-Call.ensures c.call.ensures.stays)

pub returns-in-Sync-clause-keeps : goal.returns-in-Sync-clause-keeps
returns-in-Sync-clause-keeps c =
    keeps-paid c.args.plan.now c.args.self.now c.pay.new.self c.pay.new.self.steps c.requires.instance c.requires.goes_on c.in_ok-pay.ensures.ok c.in_ok-pay.ensures.paid c.sync_statement.new.self (c.sync_statement.ensures.named c.args.plan.now) c.sync_statement.ensures.stays c.sync_statement.ensures.few c.sync_statement.result

pub returns-in-Print-clause-keeps : goal.returns-in-Print-clause-keeps
returns-in-Print-clause-keeps c =
    keeps-paid c.args.plan.now c.args.self.now c.pay.new.self c.pay.new.self.steps c.requires.instance c.requires.goes_on c.in_ok-pay.ensures.ok c.in_ok-pay.ensures.paid c.pay.new.self (λ h. h) (record { trail = refl; scopes = refl; leaving = refl }) (omega arith) c.emitted.result

pub returns-in-If-clause-keeps : goal.returns-in-If-clause-keeps
returns-in-If-clause-keeps c =
    keeps-paid c.args.plan.now c.args.self.now c.pay.new.self c.pay.new.self.steps c.requires.instance c.requires.goes_on c.in_ok-pay.ensures.ok c.in_ok-pay.ensures.paid c.branch-self.new.self (c.branch-self.ensures.named c.args.plan.now) c.branch-self.ensures.stays c.branch-self.ensures.few c.silent-in-If.result

pub returns-in-While-clause-keeps : goal.returns-in-While-clause-keeps
returns-in-While-clause-keeps c =
    keeps-paid c.args.plan.now c.args.self.now c.pay.new.self c.pay.new.self.steps c.requires.instance c.requires.goes_on c.in_ok-pay.ensures.ok c.in_ok-pay.ensures.paid c.while_test.new.self (c.while_test.ensures.named c.args.plan.now) c.while_test.ensures.stays c.while_test.ensures.few c.silent-in-While.result

pub returns-in-Pfor-clause-keeps : goal.returns-in-Pfor-clause-keeps
returns-in-Pfor-clause-keeps c =
    keeps-paid c.args.plan.now c.args.self.now c.pay.new.self c.pay.new.self.steps c.requires.instance c.requires.goes_on c.in_ok-pay.ensures.ok c.in_ok-pay.ensures.paid c.pfor_move.new.self (c.pfor_move.ensures.named c.args.plan.now) c.pfor_move.ensures.stays c.pfor_move.ensures.few c.pfor_move.result

pub returns-in-Scope-clause-shows : goal.returns-in-Scope-clause-shows
returns-in-Scope-clause-shows c =
    let plan = c.args.plan.now in
    let p = c.pay.new.self in
    let st = c.args.statement.now in
    let is = act-is (act.Scope c.in-Scope.field-0) st.act (variant.Scope c.in-Scope.field-0) c.in-Scope.is (variant.rolls-Scope c.in-Scope.field-0) in
    let after = paid-after plan c.args.self.now p p.steps c.in_ok-pay.ensures.ok c.in_ok-pay.ensures.paid st c.requires.after in
    statement-paid plan c.args.self.now p p.steps c.in_ok-pay.ensures.ok c.in_ok-pay.ensures.paid (here-is plan c.args.self.now c.requires.instance) st (act.Scope c.in-Scope.field-0) c.scope.new.self c.scope.result is
    (c.scope.ensures.shows st c.in-Scope.field-0 after is)

pub returns-in-Scope-clause-keeps : goal.returns-in-Scope-clause-keeps
returns-in-Scope-clause-keeps c =
    keeps-into c.args.plan.now c.args.self.now c.pay.new.self c.pay.new.self.steps c.requires.instance c.requires.goes_on c.in_ok-pay.ensures.ok c.in_ok-pay.ensures.paid c.scope.new.self (c.scope.ensures.named c.args.plan.now) c.scope.result c.scope.ensures.into c.scope.ensures.same

pub pfor_move-requires-clause-steps : goal.pfor_move-requires-clause-steps
pfor_move-requires-clause-steps c =
    let few = c.requires.instance.few in
    let paid = c.in_ok-pay.ensures.paid in
    omega (arith, few, paid)

pub returns-in_err-pay-clause-shows : goal.returns-in_err-pay-clause-shows
returns-in_err-pay-clause-shows c =
    let plan = c.args.plan.now in
    let i = c.args.self.now in
    let m = machine_of plan i in
    let unpaid = c.pay.ensures.err c.in_err-pay.field-0.0 c.in_err-pay.was in
    shows-fault (statement_move plan (path_of i) m c.args.statement.now m.top.left) (present_pedigree (present_of i) m) _ c.from_residual.result c.in_err-pay.field-0.0 c.from_residual.ensures.1
    (statement-unpaid plan i c.args.statement.now m.top.left unpaid.1 (here-is plan i c.requires.instance) ∙ ap (λ (kind : FaultKind). faults kind (present_of i ++ i.rank ∷ [])) (sym unpaid.2))

pub assign-requires-clause-name : goal.assign-requires-clause-name
assign-requires-clause-name c =
    let p = c.pay.new.self in
    let st = c.args.statement.now in
    let is = act-is (act.Let c.in-Let.x c.in-Let.r) st.act (variant.Let c.in-Let.x c.in-Let.r) c.in-Let.is (variant.rolls-Let c.in-Let.x c.in-Let.r) in
    let found = paid-finds c.args.plan.now c.args.slots.now c.args.self.now p p.steps c.in_ok-pay.ensures.ok st c.requires.finds in
    (in_let (has_slot c.args.slots.now p.top.env.names) (finds_callee (functions_of c.args.plan.now)) st found c.in-Let.x c.in-Let.r is).0

pub assign-requires-clause-right : goal.assign-requires-clause-right
assign-requires-clause-right c =
    let p = c.pay.new.self in
    let st = c.args.statement.now in
    let is = act-is (act.Let c.in-Let.x c.in-Let.r) st.act (variant.Let c.in-Let.x c.in-Let.r) c.in-Let.is (variant.rolls-Let c.in-Let.x c.in-Let.r) in
    let found = paid-finds c.args.plan.now c.args.slots.now c.args.self.now p p.steps c.in_ok-pay.ensures.ok st c.requires.finds in
    (in_let (has_slot c.args.slots.now p.top.env.names) (finds_callee (functions_of c.args.plan.now)) st found c.in-Let.x c.in-Let.r is).1

pub assign-requires-in-Set-clause-name : goal.assign-requires-in-Set-clause-name
assign-requires-in-Set-clause-name c =
    let p = c.pay.new.self in
    let st = c.args.statement.now in
    let is = act-is (act.Set c.in-Set.x c.in-Set.r) st.act (variant.Set c.in-Set.x c.in-Set.r) c.in-Set.is (variant.rolls-Set c.in-Set.x c.in-Set.r) in
    let found = paid-finds c.args.plan.now c.args.slots.now c.args.self.now p p.steps c.in_ok-pay.ensures.ok st c.requires.finds in
    (in_set (has_slot c.args.slots.now p.top.env.names) (finds_callee (functions_of c.args.plan.now)) st found c.in-Set.x c.in-Set.r is).0

pub assign-requires-in-Set-clause-right : goal.assign-requires-in-Set-clause-right
assign-requires-in-Set-clause-right c =
    let p = c.pay.new.self in
    let st = c.args.statement.now in
    let is = act-is (act.Set c.in-Set.x c.in-Set.r) st.act (variant.Set c.in-Set.x c.in-Set.r) c.in-Set.is (variant.rolls-Set c.in-Set.x c.in-Set.r) in
    let found = paid-finds c.args.plan.now c.args.slots.now c.args.self.now p p.steps c.in_ok-pay.ensures.ok st c.requires.finds in
    (in_set (has_slot c.args.slots.now p.top.env.names) (finds_callee (functions_of c.args.plan.now)) st found c.in-Set.x c.in-Set.r is).1

pub array-requires : goal.array-requires
array-requires c =
    let p = c.pay.new.self in
    let st = c.args.statement.now in
    let is = act-is (act.Array c.in-Array.x c.in-Array.n) st.act (variant.Array c.in-Array.x c.in-Array.n) c.in-Array.is (variant.rolls-Array c.in-Array.x c.in-Array.n) in
    let found = paid-finds c.args.plan.now c.args.slots.now c.args.self.now p p.steps c.in_ok-pay.ensures.ok st c.requires.finds in
    in_array (has_slot c.args.slots.now p.top.env.names) (finds_callee (functions_of c.args.plan.now)) st found c.in-Array.x c.in-Array.n is

pub store-requires-clause-name : goal.store-requires-clause-name
store-requires-clause-name c =
    let p = c.pay.new.self in
    let st = c.args.statement.now in
    let is = act-is (act.Store c.in-Store.x c.in-Store.i c.in-Store.e) st.act (variant.Store c.in-Store.x c.in-Store.i c.in-Store.e) c.in-Store.is (variant.rolls-Store c.in-Store.x c.in-Store.i c.in-Store.e) in
    let found = paid-finds c.args.plan.now c.args.slots.now c.args.self.now p p.steps c.in_ok-pay.ensures.ok st c.requires.finds in
    (in_store (has_slot c.args.slots.now p.top.env.names) (finds_callee (functions_of c.args.plan.now)) st found c.in-Store.x c.in-Store.i c.in-Store.e is).0

pub store-requires-clause-index : goal.store-requires-clause-index
store-requires-clause-index c =
    let p = c.pay.new.self in
    let st = c.args.statement.now in
    let is = act-is (act.Store c.in-Store.x c.in-Store.i c.in-Store.e) st.act (variant.Store c.in-Store.x c.in-Store.i c.in-Store.e) c.in-Store.is (variant.rolls-Store c.in-Store.x c.in-Store.i c.in-Store.e) in
    let found = paid-finds c.args.plan.now c.args.slots.now c.args.self.now p p.steps c.in_ok-pay.ensures.ok st c.requires.finds in
    (in_store (has_slot c.args.slots.now p.top.env.names) (finds_callee (functions_of c.args.plan.now)) st found c.in-Store.x c.in-Store.i c.in-Store.e is).1.0

pub store-requires-clause-value : goal.store-requires-clause-value
store-requires-clause-value c =
    let p = c.pay.new.self in
    let st = c.args.statement.now in
    let is = act-is (act.Store c.in-Store.x c.in-Store.i c.in-Store.e) st.act (variant.Store c.in-Store.x c.in-Store.i c.in-Store.e) c.in-Store.is (variant.rolls-Store c.in-Store.x c.in-Store.i c.in-Store.e) in
    let found = paid-finds c.args.plan.now c.args.slots.now c.args.self.now p p.steps c.in_ok-pay.ensures.ok st c.requires.finds in
    (in_store (has_slot c.args.slots.now p.top.env.names) (finds_callee (functions_of c.args.plan.now)) st found c.in-Store.x c.in-Store.i c.in-Store.e is).1.1

pub call-requires-clause-called : goal.call-requires-clause-called
call-requires-clause-called c =
    let p = c.pay.new.self in
    let st = c.args.statement.now in
    let is = act-is (act.Call c.in-Call.c) st.act (variant.Call c.in-Call.c) c.in-Call.is (variant.rolls-Call c.in-Call.c) in
    let found = paid-finds c.args.plan.now c.args.slots.now c.args.self.now p p.steps c.in_ok-pay.ensures.ok st c.requires.finds in
    (in_call (has_slot c.args.slots.now p.top.env.names) (finds_callee (functions_of c.args.plan.now)) st found c.in-Call.c is).0

pub call-requires-clause-args : goal.call-requires-clause-args
call-requires-clause-args c =
    let p = c.pay.new.self in
    let st = c.args.statement.now in
    let is = act-is (act.Call c.in-Call.c) st.act (variant.Call c.in-Call.c) c.in-Call.is (variant.rolls-Call c.in-Call.c) in
    let found = paid-finds c.args.plan.now c.args.slots.now c.args.self.now p p.steps c.in_ok-pay.ensures.ok st c.requires.finds in
    (in_call (has_slot c.args.slots.now p.top.env.names) (finds_callee (functions_of c.args.plan.now)) st found c.in-Call.c is).1

pub call-requires-clause-target : goal.call-requires-clause-target
call-requires-clause-target c = refl

pub print-requires-clause-finds : goal.print-requires-clause-finds
print-requires-clause-finds c =
    let p = c.pay.new.self in
    let st = c.args.statement.now in
    let is = act-is (act.Print c.in-Print.e) st.act (variant.Print c.in-Print.e) c.in-Print.is (variant.rolls-Print c.in-Print.e) in
    let found = paid-finds c.args.plan.now c.args.slots.now c.args.self.now p p.steps c.in_ok-pay.ensures.ok st c.requires.finds in
    in_print (has_slot c.args.slots.now p.top.env.names) (finds_callee (functions_of c.args.plan.now)) st found c.in-Print.e is

pub branch-self-requires : goal.branch-self-requires
branch-self-requires c =
    let p = c.pay.new.self in
    let st = c.args.statement.now in
    let is = act-is (act.If c.in-If.e c.in-If.yes c.in-If.no) st.act (variant.If c.in-If.e c.in-If.yes c.in-If.no) c.in-If.is (variant.rolls-If c.in-If.e c.in-If.yes c.in-If.no) in
    let found = paid-finds c.args.plan.now c.args.slots.now c.args.self.now p p.steps c.in_ok-pay.ensures.ok st c.requires.finds in
    in_if (has_slot c.args.slots.now p.top.env.names) (finds_callee (functions_of c.args.plan.now)) st found c.in-If.e c.in-If.yes c.in-If.no is

pub while_test-requires : goal.while_test-requires
while_test-requires c =
    let p = c.pay.new.self in
    let st = c.args.statement.now in
    let is = act-is (act.While c.in-While.e c.in-While.field-1) st.act (variant.While c.in-While.e c.in-While.field-1) c.in-While.is (variant.rolls-While c.in-While.e c.in-While.field-1) in
    let found = paid-finds c.args.plan.now c.args.slots.now c.args.self.now p p.steps c.in_ok-pay.ensures.ok st c.requires.finds in
    in_while (has_slot c.args.slots.now p.top.env.names) (finds_callee (functions_of c.args.plan.now)) st found c.in-While.e c.in-While.field-1 is

pub spawn_move-requires-clause-finds : goal.spawn_move-requires-clause-finds
spawn_move-requires-clause-finds c =
    let p = c.pay.new.self in
    let st = c.args.statement.now in
    let is = act-is (act.Spawn c.in-Spawn.c) st.act (variant.Spawn c.in-Spawn.c) c.in-Spawn.is (variant.rolls-Spawn c.in-Spawn.c) in
    let found = paid-finds c.args.plan.now c.args.slots.now c.args.self.now p p.steps c.in_ok-pay.ensures.ok st c.requires.finds in
    every-spawn (has_slot c.args.slots.now p.top.env.names) (finds_callee (functions_of c.args.plan.now)) st found c.in-Spawn.c is

pub pfor_move-requires-clause-finds : goal.pfor_move-requires-clause-finds
pfor_move-requires-clause-finds c =
    let p = c.pay.new.self in
    let st = c.args.statement.now in
    let is = act-is (act.Pfor c.in-Pfor.var c.in-Pfor.lo c.in-Pfor.hi c.in-Pfor.target c.in-Pfor.call) st.act (variant.Pfor c.in-Pfor.var c.in-Pfor.lo c.in-Pfor.hi c.in-Pfor.target c.in-Pfor.call) c.in-Pfor.is (variant.rolls-Pfor c.in-Pfor.var c.in-Pfor.lo c.in-Pfor.hi c.in-Pfor.target c.in-Pfor.call) in
    let found = paid-finds c.args.plan.now c.args.slots.now c.args.self.now p p.steps c.in_ok-pay.ensures.ok st c.requires.finds in
    let parts = in_pfor (has_slot c.args.slots.now p.top.env.names) (finds_callee (functions_of c.args.plan.now)) st found c.in-Pfor.var c.in-Pfor.lo c.in-Pfor.hi c.in-Pfor.target c.in-Pfor.call is in
    record { first = parts.0; end = parts.1.0; target = parts.1.1.0; called = parts.1.1.1.0; args = parts.1.1.1.1 }
