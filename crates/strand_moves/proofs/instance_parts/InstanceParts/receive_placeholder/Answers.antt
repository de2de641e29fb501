use Rattle.std.proofs.Common.{ap, ◌∙◌}
use Rattle.strand_moves.specs.declared.instance_parts.InstanceParts.{InstanceParts}
use Rattle.strand_moves.proofs.Statements.Naming.{names-stay}
use Rattle.strand_moves.proofs.instance_parts.InstanceParts.receive_placeholder.Goals as goal
use Rattle.strand_moves.proofs.instance_parts.InstanceParts.receive_placeholder.Goals.{in-Some, in_default}

pub set_scalar-requires : goal.set_scalar-requires
set_scalar-requires c = rw c.in-Some.is at c.requires

pub returns-clause-names : goal.returns-clause-names
returns-clause-names c = elim c.match-target.branch [
  | in-Some w ↦ ap (λ (x : InstanceParts). x.top.env.names) w.self-is ∙ names-stay w.set_scalar.new.self c.args.self.now.top.env _ w.set_scalar.ensures
  | in_default w ↦ ap (λ (x : InstanceParts). x.top.env.names) w.self-is
]

pub returns-clause-env : goal.returns-clause-env
returns-clause-env c = elim c.match-target.branch [
  | in-Some w ↦ rw w.in-Some.is (ap (λ (x : InstanceParts). x.top.env) w.self-is ∙ (rw c.in_ok-instead.ensures at w.set_scalar.ensures))
  | in_default w ↦ rw w.in_default.is (ap (λ (x : InstanceParts). x.top.env) w.self-is)
]
