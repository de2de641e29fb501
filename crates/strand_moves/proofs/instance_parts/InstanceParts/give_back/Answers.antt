use Rattle.std.proofs.Common.{true, length, refl, sym, ap, ◌∙◌, arith, length-append, ◌∷◌, []}
use Rattle.std.proofs.lemmas.List.{nil_from_length}
use Rattle.strand_moves.specs.declared.instance_parts.InstanceParts.{InstanceParts}
use Rattle.serial_meaning.specs.Functions.{function_at}
use Rattle.serial_meaning.specs.Plan.{functions_of}
use Rattle.strand_meaning.specs.Machine.{return_move, with_scalar}
use Rattle.strand_values.specs.Environments.{with_variables}
use Rattle.strand_moves.specs.Acts.{result_of}
use Rattle.strand_moves.specs.InstanceParts.{machine_of, path_of, present_of}
use Rattle.strand_moves.specs.Moves.{present_pedigree}
use Rattle.strand_moves.specs.FastPath.{silent}
use Rattle.strand_moves.proofs.Frames.Ending.{ended-stays, value-fault, value-received}
use Rattle.strand_moves.proofs.Frames.Names.{innermost-named, named-ended, value-named}
use Rattle.strand_moves.proofs.OpenScopes.Exits.{silent-exit}
use Rattle.strand_moves.proofs.OpenScopes.Keeping.{stands-same}
use Rattle.strand_moves.proofs.instance_parts.InstanceParts.give_back.Goals as goal

pub unreachable-requires : goal.unreachable-requires
unreachable-requires c = c.requires.below (nil_from_length c.args.self.now.below.items (sym c.args.self.now.below.ok.0 ∙ c.in_default.ensures.cases.0))

pub result-requires : goal.result-requires
result-requires c = innermost-named c.args.plan.now c.args.self.now c.requires.named

pub receive-requires : goal.receive-requires
receive-requires c =
    let target = value-named c.args.plan.now c.args.self.now c.requires.named c.pop.new.self.items c.in-Some.caller c.in-Some.ensures.items in
    rw (c.slots.ensures.table, c.as_ref.ensures.value, c.replace-callee.ensures.value, c.replace-callee.ensures.after) target

pub returns-clause-shows : goal.returns-clause-shows
returns-clause-shows c =
    let i = c.args.self.now in
    let caller = c.in-Some.caller in
    let received = rw (c.as_ref.ensures.value, c.replace-callee.ensures.value, c.replace-callee.ensures.after) at c.receive.ensures in
    let env = with_variables caller.env (with_scalar i.top.target c.in_ok-value.value caller.env.variables) in
    value-received c.args.plan.now i c.in_ok-value.value c.in_ok-value.ensures c.pop.new.self.items caller env c.receive.new.self c.in-Some.ensures.items refl
    (ap (λ (x : InstanceParts). x.rank) received) (ap (λ (x : InstanceParts). x.steps) received) (ap (λ (x : InstanceParts). x.leaving) received ∙ c.requires.goes_on) (ap (λ (x : InstanceParts). x.top) received) (ap (λ (x : InstanceParts). x.below.items) received)

pub returns-clause-stays : goal.returns-clause-stays
returns-clause-stays c =
    let caller = c.in-Some.caller in
    let received = rw c.replace-callee.ensures.after at c.receive.ensures in
    ended-stays c.args.self.now c.receive.new.self c.pop.new.self.items caller _ c.requires.outside c.in-Some.ensures.items (ap (λ (x : InstanceParts). x.top) received) (ap (λ (x : InstanceParts). x.below.items) received)
    (ap (λ (x : InstanceParts). x.trail) received) (ap (λ (x : InstanceParts). x.leaving) received)

pub returns-clause-named : goal.returns-clause-named
returns-clause-named c = λ h.
    let received = rw c.replace-callee.ensures.after at c.receive.ensures in
    named-ended c.args.plan.now c.args.self.now h c.pop.new.self.items c.in-Some.caller c.in-Some.ensures.items c.receive.new.self
    (ap (λ (x : InstanceParts). x.top.function) received) (ap (λ (x : InstanceParts). x.top.target) received) (ap (λ (x : InstanceParts). x.top.env.names) received) (ap (λ (x : InstanceParts). x.below.items) received)

pub returns-clause-fewer : goal.returns-clause-fewer
returns-clause-fewer c =
    let left = ap (λ (x : InstanceParts). length x.below.items) c.receive.ensures in
    let was = ap length c.in-Some.ensures.items in
    omega (arith, left, was, length-append c.pop.new.self.items (c.in-Some.caller ∷ []))

pub returns-in_err-value-clause-shows : goal.returns-in_err-value-clause-shows
returns-in_err-value-clause-shows c =
    let i = c.args.self.now in
    let plan = c.args.plan.now in
    let m = machine_of plan i in
    silent-exit (return_move plan (path_of i) m true) (present_pedigree (present_of i) m) _ c.from_residual.result c.in_err-value.field-0.0 (result_of (function_at (functions_of plan) i.top.function) i.top.env.variables) c.from_residual.ensures.1
    c.in_err-value.ensures (value-fault plan i c.requires.here)

pub returns-in_err-value-clause-stays : goal.returns-in_err-value-clause-stays
returns-in_err-value-clause-stays c = stands-same c.args.self.now (silent c.from_residual.result)
