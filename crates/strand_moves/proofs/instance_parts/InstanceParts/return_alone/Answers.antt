use Rattle.std.proofs.Common.{◌≡◌, ℕ, ◌+◌, Bool, true, false, List, [], ◌∷◌, ◌++◌, sym, ap, ◌∙◌}
use Rattle.serial_meaning.specs.Functions.{function_at}
use Rattle.serial_meaning.specs.Plan.{functions_of}
use Rattle.serial_meaning.specs.declared.event.Event.TheVariants as event
use Rattle.script_check.specs.Spawns.{spawns_in}
use Rattle.strand_meaning.specs.Machine.{Emitted, sync_effects}
use Rattle.strand_moves.specs.declared.instance_parts.InstanceParts.{InstanceParts}
use Rattle.strand_moves.specs.InstanceParts.{machine_of, present_of}
use Rattle.strand_moves.proofs.Statements.Equations.{moved}
use Rattle.strand_moves.proofs.Frames.Ending.{return-synced}
use Rattle.strand_moves.proofs.Frames.Names.{still-named}
use Rattle.strand_moves.proofs.Statements.Naming.{top-named}
use Rattle.strand_moves.proofs.instance_parts.InstanceParts.return_alone.Goals as goal

pub returns-clause-shows : goal.returns-clause-shows
returns-clause-shows c =
    let plan = c.args.plan.now in
    let i = c.args.self.now in
    let paid = c.pay.new.self in
    let pays = c.in_ok-pay.ensures in
    let new : InstanceParts = record paid { rank = paid.rank + 1; top = record paid.top { returning = true } } in
    let alone : paid.top.spawned ≡ false = ap (λ (x : InstanceParts). x.top.spawned) pays.ok ∙ c.requires.alone in
    let is : new ≡ record paid { rank = paid.rank + 1; top = record paid.top { returning = true; spawned = false } } =
    ap (λ (b : Bool). let x : InstanceParts = record paid { rank = paid.rank + 1; top = record paid.top { returning = true; spawned = b } } in x) alone in
    let spawns = ap (λ (x : InstanceParts). spawns_in (function_at (functions_of plan) x.top.function)) pays.ok in
    return-synced plan i c.requires.here paid paid.steps pays.ok pays.paid new (sym spawns ∙ sym c.has_spawns.ensures ∙ c.if-not-has_spawns.false) is
    ∙ ap (λ (b : Bool). moved (Emitted (event.Sync (present_of paid ++ paid.rank ∷ [])) ∷ sync_effects b) (machine_of plan new)) alone
    ∙ ap (λ (x : InstanceParts). moved (Emitted (event.Sync (present_of x ++ x.rank ∷ [])) ∷ []) (machine_of plan new)) pays.ok

pub returns-then-not-has_spawns-clause-named : goal.returns-then-not-has_spawns-clause-named
returns-then-not-has_spawns-clause-named c =
    let paid = c.pay.new.self in
    let ok = c.in_ok-pay.ensures.ok in
    let new : InstanceParts = record paid { top = record paid.top { returning = true } } in
    top-named c.args.plan.now c.args.self.now new (ap (λ (x : InstanceParts). x.below.items) ok) (ap (λ (x : InstanceParts). x.top.function) ok) (ap (λ (x : InstanceParts). x.top.target) ok) (ap (λ (x : InstanceParts). x.top.env.names) ok)

pub returns-clause-named : goal.returns-clause-named
returns-clause-named c =
    let paid = c.pay.new.self in
    let ok = c.in_ok-pay.ensures.ok in
    let new : InstanceParts = record paid { rank = paid.rank + 1; top = record paid.top { returning = true } } in
    top-named c.args.plan.now c.args.self.now new (ap (λ (x : InstanceParts). x.below.items) ok) (ap (λ (x : InstanceParts). x.top.function) ok) (ap (λ (x : InstanceParts). x.top.target) ok) (ap (λ (x : InstanceParts). x.top.env.names) ok)

pub returns-in_err-pay-clause-named : goal.returns-in_err-pay-clause-named
returns-in_err-pay-clause-named c = still-named c.args.plan.now c.args.self.now c.pay.new.self (c.pay.ensures.err c.in_err-pay.field-0.0 c.in_err-pay.was).0
