use Rattle.script_check.specs.Slots.{finds_callee, has_slot}
use Rattle.serial_meaning.specs.Plan.{functions_of}
use Rattle.strand_moves.specs.InstanceParts.{machine_of, present_of}
use Rattle.strand_moves.proofs.Statements.FoundParts.{in_called, in_spawned, in_value}
use Rattle.strand_moves.proofs.Statements.Paying.{call-at, spawn-at}
use Rattle.strand_moves.proofs.Statements.FastPathLemmas.{silent-child}
use Rattle.strand_moves.proofs.instance_parts.InstanceParts.assign.Goals as goal

pub returns-in-Value-clause-shows : goal.returns-in-Value-clause-shows
returns-in-Value-clause-shows c = λ st. rw (c.in-Value.is, c.silent.ensures) (c.set_value.ensures.shows c.args.plan.now st)

pub returns-in_ok-at-in-Draw-clause-shows : goal.returns-in_ok-at-in-Draw-clause-shows
returns-in_ok-at-in-Draw-clause-shows c = λ st. rw (c.in-Draw.is, c.in_ok-at-in-Draw.ensures) (c.draw-word.ensures.shows st c.in-Draw.field-0)

pub returns-in_ok-make_object-in-New-clause-shows : goal.returns-in_ok-make_object-in-New-clause-shows
returns-in_ok-make_object-in-New-clause-shows c = λ st. rw (c.in-New.is, c.in_ok-at-in-New.ensures) (c.in_ok-make_object-in-New.ensures.shows c.args.plan.now st c.in-New.field-0)

pub returns-in-Call-clause-shows : goal.returns-in-Call-clause-shows
returns-in-Call-clause-shows c = λ st.
    let i = c.args.self.now in
    let m = machine_of c.args.plan.now i in
    rw (c.in-Call.is, call-at c.args.plan.now (present_of i) m st c.args.x.now c.in-Call.field-0 c.in-Call.c, c.silent-in-Call.ensures) (c.call.ensures.shows st)

pub returns-in-Spawn-clause-shows : goal.returns-in-Spawn-clause-shows
returns-in-Spawn-clause-shows c = λ st.
    let i = c.args.self.now in
    let m = machine_of c.args.plan.now i in
    rw (c.in-Spawn.is, spawn-at c.args.plan.now (present_of i) m st c.args.x.now c.in-Spawn.field-0 c.in-Spawn.c) (c.spawn_move.ensures.shows st)

pub returns-in-Value-clause-child : goal.returns-in-Value-clause-child
returns-in-Value-clause-child c = rw c.silent.ensures (silent-child c.args.plan.now c.set_value.result)

pub returns-in-Call-clause-child : goal.returns-in-Call-clause-child
returns-in-Call-clause-child c = rw c.silent-in-Call.ensures (silent-child c.args.plan.now c.call.result)

pub returns-in-Call-clause-stays : goal.returns-in-Call-clause-stays
returns-in-Call-clause-stays c = rw c.silent-in-Call.ensures c.call.ensures.stays

pub set_value-requires-clause-value : goal.set_value-requires-clause-value
set_value-requires-clause-value c = in_value (has_slot c.args.slots.now c.args.self.now.top.env.names) (finds_callee (functions_of c.args.plan.now)) c.args.r.now c.in-Value.e c.in-Value.is c.requires.right

pub call-requires-clause-called : goal.call-requires-clause-called
call-requires-clause-called c = (in_called (has_slot c.args.slots.now c.args.self.now.top.env.names) (finds_callee (functions_of c.args.plan.now)) c.args.r.now c.in-Call.field-0 c.in-Call.c c.in-Call.is c.requires.right).0

pub call-requires-clause-args : goal.call-requires-clause-args
call-requires-clause-args c = (in_called (has_slot c.args.slots.now c.args.self.now.top.env.names) (finds_callee (functions_of c.args.plan.now)) c.args.r.now c.in-Call.field-0 c.in-Call.c c.in-Call.is c.requires.right).1

pub call-requires-clause-target : goal.call-requires-clause-target
call-requires-clause-target c = c.requires.name

pub returns-in-Value-clause-named : goal.returns-in-Value-clause-named
returns-in-Value-clause-named c = c.set_value.ensures.named c.args.plan.now

pub returns-in_ok-at-in-Draw-clause-named : goal.returns-in_ok-at-in-Draw-clause-named
returns-in_ok-at-in-Draw-clause-named c = c.draw-word.ensures.named c.args.plan.now

pub returns-in_ok-make_object-in-New-clause-named : goal.returns-in_ok-make_object-in-New-clause-named
returns-in_ok-make_object-in-New-clause-named c = c.make_object.ensures.named c.args.plan.now

pub returns-in_err-make_object-in-New-clause-named : goal.returns-in_err-make_object-in-New-clause-named
returns-in_err-make_object-in-New-clause-named c = c.make_object.ensures.named c.args.plan.now

pub returns-in-Call-clause-named : goal.returns-in-Call-clause-named
returns-in-Call-clause-named c = c.call.ensures.named

pub returns-in-Spawn-clause-named : goal.returns-in-Spawn-clause-named
returns-in-Spawn-clause-named c = c.spawn_move.ensures.named c.args.plan.now

pub spawn_move-requires-clause-finds : goal.spawn_move-requires-clause-finds
spawn_move-requires-clause-finds c =
    let call = in_spawned (has_slot c.args.slots.now c.args.self.now.top.env.names) (finds_callee (functions_of c.args.plan.now)) c.args.r.now c.in-Spawn.field-0 c.in-Spawn.c c.in-Spawn.is c.requires.right in
    record { target = c.requires.name; called = call.0; args = call.1 }
