use Rattle.std.proofs.Common.{ap}
use Rattle.std.specs.Option.{option_copied}
use Rattle.strand_values.specs.Environments.{EnvironmentView}
use Rattle.strand_moves.specs.declared.instance_parts.InstanceParts.{InstanceParts}
use Rattle.strand_moves.specs.InstanceParts.{machine_of}
use Rattle.strand_moves.proofs.OpenScopes.Keeping.{innermost-sound}
use Rattle.strand_moves.proofs.Statements.Naming.{names-stay}
use Rattle.strand_moves.proofs.Frames.Names.{innermost-named, target-found}
use Rattle.strand_moves.proofs.instance_parts.InstanceParts.receive_values.Goals as goal

pub fill-requires : goal.fill-requires
fill-requires c =
    let plan = c.args.plan.now in
    let i = c.args.self.now in
    rw c.slots.ensures.table (target-found plan i.top (option_copied c.args.target) (innermost-named plan i c.requires.sound.named) c.requires.found)

pub returns-clause-machine : goal.returns-clause-machine
returns-clause-machine c = λ p.
    let i = c.args.self.now in
    ap (λ (env : EnvironmentView). let x : InstanceParts = record i { top = record i.top { env = env } } in machine_of p x) c.fill.ensures

pub returns-clause-sound : goal.returns-clause-sound
returns-clause-sound c = λ p h.
    let i = c.args.self.now in
    innermost-sound p i c.fill.new.self i.top.faulted (names-stay c.fill.new.self i.top.env _ c.fill.ensures) h
