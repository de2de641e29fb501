use Rattle.std.proofs.Common.{◌≡◌, ◌+◌, true, length, refl, sym, ap, ◌∙◌, arith}
use Rattle.std.specs.Option.{option_copied}
use Rattle.serial_meaning.specs.Functions.{function_at}
use Rattle.serial_meaning.specs.Open.{answer_placeholder}
use Rattle.serial_meaning.specs.Plan.{PlanView, functions_of}
use Rattle.serial_meaning.specs.Values.{values_of}
use Rattle.serial_meaning.specs.declared.event.Event.TheVariants as event
use Rattle.strand_moves.specs.declared.instance_parts.InstanceParts.{InstanceParts}
use Rattle.strand_moves.specs.InstanceParts.{machine_of, present_of}
use Rattle.strand_moves.specs.Moves.{acted, spawn_to, present_pedigree}
use Rattle.strand_moves.proofs.Frames.CallLemmas.{is_not_below}
use Rattle.strand_moves.proofs.SpawnedChildren.ChildLemmas.{spawned-child, strand_at}
use Rattle.strand_moves.proofs.Statements.Equations.{spawn-args-fault, spawn-depth-fault}
use Rattle.strand_moves.proofs.SpawnedChildren.Spawning.{boxed-exit}
use Rattle.strand_moves.proofs.Statements.Naming.{top-named, variables-are}
use Rattle.strand_moves.proofs.instance_parts.InstanceParts.spawn.Goals as goal

pub values_in-requires-clause-args : goal.values_in-requires-clause-args
values_in-requires-clause-args c = rw c.as_slice.ensures c.requires.finds.args

pub receive_placeholder-requires : goal.receive_placeholder-requires
receive_placeholder-requires c = c.requires.finds.target

pub returns-in_err-args-clause-shows : goal.returns-in_err-args-clause-shows
returns-in_err-args-clause-shows c = λ st.
    let i = c.args.self.now in
    let plan = c.args.plan.now in
    let to = option_copied c.args.target in
    let known = rw c.as_slice.ensures at c.in_err-args.ensures in
    boxed-exit (acted plan (present_of i) (machine_of plan i) st (spawn_to to c.args.call.now)) (present_pedigree (present_of i) (machine_of plan i)) _ (event.Spawn (strand_at i)) c.from_residual-in_err-args.result c.in_err-args.field-0.0
    (values_of c.args.call.now.args i.top.env.variables) c.from_residual-in_err-args.ensures.1 known (spawn-args-fault plan (present_of i) (machine_of plan i) st to c.args.call.now)

pub returns-then-len-plan-clause-shows : goal.returns-then-len-plan-clause-shows
returns-then-len-plan-clause-shows c = λ st.
    let i = c.args.self.now in
    let plan = c.args.plan.now in
    let known = rw c.as_slice.ensures at c.in_ok-args.ensures in
    let depth = ap (λ (p : PlanView). p.limits.depth) c.plan.view_is in
    spawn-depth-fault plan (present_of i) (machine_of plan i) st (option_copied c.args.target) c.args.call.now c.in_ok-args.args known
    (is_not_below (length (present_of i) + 1) plan.limits.depth (omega arith))

pub returns-clause-shows : goal.returns-clause-shows
returns-clause-shows c = λ st.
    let i = c.args.self.now in
    let plan = c.args.plan.now in
    let known = rw c.as_slice.ensures at c.in_ok-args.ensures in
    let depth = ap (λ (p : PlanView). p.limits.depth) c.plan.view_is in
    let number = c.callee-function.ensures in
    let place = c.in_ok-trail.ensures in
    let received = c.in_ok-target.ensures in
    let others = c.receive_placeholder.ensures.others in
    let narrow = c.in_ok-height.ensures in
    let height : c.in_ok-height.height ≡ length i.below.items = omega (arith, i.below.ok.0, narrow) in
    let same = ap (λ (x : InstanceParts). strand_at x) others in
    spawned-child plan i st (option_copied c.args.target) c.args.call.now c.in_ok-args.args (answer_placeholder (function_at (functions_of plan) c.callee-function.result)) c.callee-function.result c.in_ok-height.height
    c.in_ok-trail.path c.in_ok-target.target c.receive_placeholder.new.self.top.env c.receive_placeholder.new.self
    known (omega arith) number (place.shared ∙ place.path ∙ same) refl (variables-are c.receive_placeholder.new.self.top.env i.top.env _ received.env) others height received.to

pub returns-clause-child : goal.returns-clause-child
returns-clause-child c = record { fits = c.in_ok-trail.ensures.fits; path = sym c.in_ok-trail.ensures.shared }

pub returns-in_err-target-clause-named : goal.returns-in_err-target-clause-named
returns-in_err-target-clause-named c = λ plan.
    let others = c.receive_placeholder.ensures.others in
    let received = c.receive_placeholder.new.self in
    top-named plan c.args.self.now received (ap (λ (x : InstanceParts). x.below.items) others) (ap (λ (x : InstanceParts). x.top.function) others) (ap (λ (x : InstanceParts). x.top.target) others) c.receive_placeholder.ensures.names

pub returns-in_err-trail-clause-named : goal.returns-in_err-trail-clause-named
returns-in_err-trail-clause-named c = λ plan.
    let others = c.receive_placeholder.ensures.others in
    let received = c.receive_placeholder.new.self in
    top-named plan c.args.self.now received (ap (λ (x : InstanceParts). x.below.items) others) (ap (λ (x : InstanceParts). x.top.function) others) (ap (λ (x : InstanceParts). x.top.target) others) c.receive_placeholder.ensures.names

pub returns-clause-named : goal.returns-clause-named
returns-clause-named c = λ plan.
    let others = c.receive_placeholder.ensures.others in
    let received = c.receive_placeholder.new.self in
    top-named plan c.args.self.now (record received { rank = received.rank + 1; top = record received.top { spawned = true } }) (ap (λ (x : InstanceParts). x.below.items) others) (ap (λ (x : InstanceParts). x.top.function) others) (ap (λ (x : InstanceParts). x.top.target) others) c.receive_placeholder.ensures.names
