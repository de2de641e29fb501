use Rattle.std.proofs.Common.{◌+◌, refl}
use Rattle.strand_moves.specs.declared.instance_parts.InstanceParts.{InstanceParts}
use Rattle.strand_moves.specs.InstanceParts.{machine_of, present_of}
use Rattle.strand_moves.proofs.Statements.Equations.{set-new}
use Rattle.strand_moves.proofs.Statements.Naming.{names-stay, top-named, variables-are}
use Rattle.strand_moves.proofs.instance_parts.InstanceParts.make_object.Goals as goal

pub returns-clause-shows : goal.returns-clause-shows
returns-clause-shows c = λ plan st at.
    let i = c.args.self.now in
    let set = rw c.in_ok-object.ensures at c.set_scalar.ensures in
    set-new plan (present_of i) (machine_of plan i) st c.args.x.now at c.set_scalar.new.self.variables (variables-are c.set_scalar.new.self i.top.env _ set)

pub returns-clause-there : goal.returns-clause-there
returns-clause-there c =
    record { below = refl; function = refl; levels = refl; target = refl; names = names-stay c.set_scalar.new.self c.args.self.now.top.env _ c.set_scalar.ensures; steps = refl }

pub returns-clause-named : goal.returns-clause-named
returns-clause-named c = λ plan.
    let i = c.args.self.now in
    let new : InstanceParts = record i { rank = i.rank + 1; top = record i.top { env = c.set_scalar.new.self } } in
    top-named plan i new refl refl refl (names-stay c.set_scalar.new.self i.top.env _ c.set_scalar.ensures)
