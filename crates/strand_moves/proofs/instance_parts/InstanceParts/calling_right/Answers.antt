use Rattle.script_check.specs.Slots.{finds_callee, has_slot}
use Rattle.script_grammar.specs.declared.tree.Act.TheOpen as act
use Rattle.script_grammar.specs.declared.tree.Right.TheVariants as right
use Rattle.serial_meaning.specs.Plan.{functions_of}
use Rattle.strand_moves.specs.InstanceParts.{machine_of, present_of}
use Rattle.strand_moves.proofs.Statements.FoundParts.{in_called}
use Rattle.strand_moves.proofs.Statements.Paying.{call-at}
use Rattle.strand_moves.proofs.Statements.FastPathLemmas.{called-alike, called-is}
use Rattle.strand_moves.proofs.instance_parts.InstanceParts.calling_right.Goals as goal

pub returns-in-Call-clause-did : goal.returns-in-Call-clause-did
returns-in-Call-clause-did c = λ st.
    let i = c.args.self.now in
    let plan = c.args.plan.now in
    let x = c.args.x.now in
    let a = act.Set x (right.Call 0 c.in-Call.c) in
    rw c.in-Call.is
    (called-alike plan st a i c.call.new.self (act.Set x (right.Call c.in-Call.field-0 c.in-Call.c)) (call-at plan (present_of i) (machine_of plan i) st x c.in-Call.field-0 c.in-Call.c) c.moved.result
    (called-is plan st a i c.call.new.self c.call.result c.moved.result (c.call.ensures.shows st) c.call.ensures.same c.call.ensures.stays c.call.ensures.begins c.moved.ensures))

pub call-requires-clause-called : goal.call-requires-clause-called
call-requires-clause-called c = (in_called (has_slot c.args.slots.now c.args.self.now.top.env.names) (finds_callee (functions_of c.args.plan.now)) c.args.r.now c.in-Call.field-0 c.in-Call.c c.in-Call.is c.requires.right).0

pub call-requires-clause-args : goal.call-requires-clause-args
call-requires-clause-args c = (in_called (has_slot c.args.slots.now c.args.self.now.top.env.names) (finds_callee (functions_of c.args.plan.now)) c.args.r.now c.in-Call.field-0 c.in-Call.c c.in-Call.is c.requires.right).1

pub call-requires-clause-target : goal.call-requires-clause-target
call-requires-clause-target c = c.requires.name

pub returns-in-Call-clause-named : goal.returns-in-Call-clause-named
returns-in-Call-clause-named c = c.call.ensures.named
