use Rattle.std.proofs.Common.{◌+◌, length, ap, arith}
use Rattle.serial_meaning.specs.Plan.{PlanView}
use Rattle.strand_moves.specs.declared.instance_parts.InstanceParts.{InstanceParts}
use Rattle.strand_moves.specs.InstanceParts.{machine_of, present_of}
use Rattle.strand_moves.proofs.Frames.CallLemmas.{is_not_below}
use Rattle.strand_moves.proofs.Statements.Equations.{scope-depth-fault}
use Rattle.strand_moves.proofs.Statements.Naming.{top-named}
use Rattle.strand_moves.proofs.OpenScopes.Levels.{Begins, goes-in, in-moves}
use Rattle.strand_moves.proofs.instance_parts.InstanceParts.scope.Goals as goal

pub returns-then-len-plan-clause-shows : goal.returns-then-len-plan-clause-shows
returns-then-len-plan-clause-shows c = λ st block after is.
    let i = c.args.self.now in
    let plan = c.args.plan.now in
    let depth = ap (λ (p : PlanView). p.limits.depth) c.plan.view_is in
    scope-depth-fault plan (present_of i) (machine_of plan i) st block (is_not_below (length (present_of i) + 1) plan.limits.depth (omega arith))

pub returns-clause-shows : goal.returns-clause-shows
returns-clause-shows c = λ st block after is.
    let i = c.args.self.now in
    let plan = c.args.plan.now in
    let depth = ap (λ (p : PlanView). p.limits.depth) c.plan.view_is in
    let begins : Begins i c.go_in.new.self c.in_ok-inner.inner = (c.in_ok-go_in.ensures.levels, c.go_in.ensures.starts, c.go_in.ensures.others) in
    rw (c.in_ok-inner.ensures.shared, c.in_ok-inner.ensures.path) (in-moves i c.go_in.new.self c.in_ok-inner.inner plan st block begins after is (omega arith))

pub returns-clause-into : goal.returns-clause-into
returns-clause-into c =
    let i = c.args.self.now in
    let plan = c.args.plan.now in
    let depth = ap (λ (p : PlanView). p.limits.depth) c.plan.view_is in
    let gamma = ap (λ (p : PlanView). length p.gamma) c.plan.view_is in
    let coefficients = c.plan.invariant.coefficients in
    let begins : Begins i c.go_in.new.self c.in_ok-inner.inner = (c.in_ok-go_in.ensures.levels, c.go_in.ensures.starts, c.go_in.ensures.others) in
    goes-in i c.go_in.new.self c.in_ok-inner.inner plan begins c.in_ok-inner.ensures.fits c.in_ok-inner.ensures.path (omega (arith, depth, gamma, coefficients))

pub returns-clause-named : goal.returns-clause-named
returns-clause-named c = λ plan.
    let others = c.go_in.ensures.others in
    top-named plan c.args.self.now c.go_in.new.self (ap (λ (x : InstanceParts). x.below.items) others) (ap (λ (x : InstanceParts). x.top.function) others) (ap (λ (x : InstanceParts). x.top.target) others) (ap (λ (x : InstanceParts). x.top.env.names) others)

pub returns-in_err-go_in-clause-named : goal.returns-in_err-go_in-clause-named
returns-in_err-go_in-clause-named c = λ plan.
    let others = c.go_in.ensures.others in
    top-named plan c.args.self.now c.go_in.new.self (ap (λ (x : InstanceParts). x.below.items) others) (ap (λ (x : InstanceParts). x.top.function) others) (ap (λ (x : InstanceParts). x.top.target) others) (ap (λ (x : InstanceParts). x.top.env.names) others)
