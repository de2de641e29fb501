use Rattle.std.proofs.Common.{refl, sym, subst}
use Rattle.strand_moves.specs.declared.instance_parts.InstanceParts.{InstanceParts}
use Rattle.strand_moves.specs.InstanceParts.{KeepsNames}
use Rattle.strand_moves.proofs.Statements.Naming.{top-named}
use Rattle.strand_moves.proofs.instance_parts.InstanceParts.other_statement.Goals as goal
use Rattle.strand_moves.proofs.instance_parts.InstanceParts.other_statement.Goals.{in-Emitting+in_ok-done-in-Emitting, in-Calling+in_ok-done-in-Calling, in-Other}

pub returns-in_err-done-in-Emitting-clause-named : goal.returns-in_err-done-in-Emitting-clause-named
returns-in_err-done-in-Emitting-clause-named g c = c.emitting_statement.ensures.named c.args.plan.now

-- by what was called

pub returns-then-done-clause-named : goal.returns-then-done-clause-named
returns-then-done-clause-named g c =
    elim c.match-form.branch [
      | in-Emitting+in_ok-done-in-Emitting w ↦ subst (λ (x : InstanceParts). KeepsNames c.args.plan.now c.args.self.now x) (sym w.self-is) (w.emitting_statement.ensures.named c.args.plan.now)
      | in-Calling+in_ok-done-in-Calling w ↦ subst (λ (x : InstanceParts). KeepsNames c.args.plan.now c.args.self.now x) (sym w.self-is) w.calling_statement.ensures.named
      | in-Other w ↦ subst (λ (x : InstanceParts). KeepsNames c.args.plan.now c.args.self.now x) (sym w.self-is) (λ h. h)
    ]

pub returns-clause-named : goal.returns-clause-named
returns-clause-named g c =
    let kept : KeepsNames c.args.plan.now c.args.self.now c.match-form.self =
    elim c.match-form.branch [
      | in-Emitting+in_ok-done-in-Emitting w ↦ subst (λ (x : InstanceParts). KeepsNames c.args.plan.now c.args.self.now x) (sym w.self-is) (w.emitting_statement.ensures.named c.args.plan.now)
      | in-Calling+in_ok-done-in-Calling w ↦ subst (λ (x : InstanceParts). KeepsNames c.args.plan.now c.args.self.now x) (sym w.self-is) w.calling_statement.ensures.named
      | in-Other w ↦ subst (λ (x : InstanceParts). KeepsNames c.args.plan.now c.args.self.now x) (sym w.self-is) (λ h. h)
    ] in
    λ h. top-named c.args.plan.now c.match-form.self _ refl refl refl refl (kept h)
