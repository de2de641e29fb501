use Rattle.std.proofs.Common.{true, false, ◌∙◌, sym, ap}
use Rattle.serial_meaning.specs.Functions.{function_at}
use Rattle.serial_meaning.specs.Plan.{functions_of}
use Rattle.script_check.specs.Spawns.{spawns_in}
use Rattle.strand_meaning.specs.Machine.{return_move}
use Rattle.strand_moves.specs.declared.instance_parts.InstanceParts.{InstanceParts}
use Rattle.strand_moves.specs.InstanceParts.{machine_of, path_of, present_of}
use Rattle.strand_moves.specs.Moves.{present_pedigree}
use Rattle.strand_moves.proofs.Frames.Ending.{return-synced}
use Rattle.strand_moves.proofs.OpenScopes.Exits.{shows-made}
use Rattle.strand_moves.proofs.Frames.Names.{still-named}
use Rattle.strand_moves.proofs.Statements.Naming.{top-named}
use Rattle.strand_moves.proofs.instance_parts.InstanceParts.return_step.Goals as goal

pub returns-then-has_spawns-clause-shows : goal.returns-then-has_spawns-clause-shows
returns-then-has_spawns-clause-shows c =
    let plan = c.args.plan.now in
    let i = c.args.self.now in
    let s = c.sync.ensures in
    let function = ap (λ (x : InstanceParts). spawns_in (function_at (functions_of plan) x.top.function)) c.in_ok-pay.ensures.ok in
    shows-made (return_move plan (path_of i) (machine_of plan i) false) (present_pedigree (present_of i) (machine_of plan i)) (machine_of plan c.sync.new.self) _ c.sync.result s.effects s.fine s.passed
    (λ passed. return-synced plan i c.requires.here c.pay.new.self c.pay.new.self.steps c.in_ok-pay.ensures.ok c.in_ok-pay.ensures.paid c.sync.new.self (sym function ∙ sym c.has_spawns.ensures ∙ c.if-has_spawns.true) passed)

pub returns-then-has_spawns-clause-child : goal.returns-then-has_spawns-clause-child
returns-then-has_spawns-clause-child c = c.sync.ensures.child c.args.plan.now

pub returns-then-has_spawns-clause-named : goal.returns-then-has_spawns-clause-named
returns-then-has_spawns-clause-named c = λ h.
    let plan = c.args.plan.now in
    let paid = c.pay.new.self in
    let ok = c.in_ok-pay.ensures.ok in
    let begun : InstanceParts = record paid { top = record paid.top { returning = true } } in
    c.sync.ensures.named plan (top-named plan c.args.self.now begun (ap (λ (x : InstanceParts). x.below.items) ok) (ap (λ (x : InstanceParts). x.top.function) ok) (ap (λ (x : InstanceParts). x.top.target) ok) (ap (λ (x : InstanceParts). x.top.env.names) ok) h)

pub returns-clause-named : goal.returns-clause-named
returns-clause-named c =
    let paid = c.pay.new.self in
    let ok = c.in_ok-pay.ensures.ok in
    let new : InstanceParts = record paid { top = record paid.top { returning = true } } in
    top-named c.args.plan.now c.args.self.now new (ap (λ (x : InstanceParts). x.below.items) ok) (ap (λ (x : InstanceParts). x.top.function) ok) (ap (λ (x : InstanceParts). x.top.target) ok) (ap (λ (x : InstanceParts). x.top.env.names) ok)

pub returns-in_err-pay-clause-named : goal.returns-in_err-pay-clause-named
returns-in_err-pay-clause-named c = still-named c.args.plan.now c.args.self.now c.pay.new.self (c.pay.ensures.err c.in_err-pay.field-0.0 c.in_err-pay.was).0
