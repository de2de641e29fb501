use Rattle.std.proofs.Common.{refl, ap, w64, rules, SFits}
use Rattle.std.proofs.lemmas.Int.{to_z-of_z}
use Rattle.strand_values.specs.Environments.{EnvironmentView}
use Rattle.strand_moves.specs.declared.instance_parts.InstanceParts.{InstanceParts}
use Rattle.strand_moves.specs.InstanceParts.{machine_of, present_of}
use Rattle.strand_moves.proofs.Statements.Equations.{array}
use Rattle.strand_moves.proofs.Statements.Naming.{names-stay, top-named, variables-are}
use Rattle.strand_moves.proofs.instance_parts.InstanceParts.array.Goals as goal

pub returns-clause-shows : goal.returns-clause-shows
returns-clause-shows c = λ plan st.
    let i = c.args.self.now in
    let fits : SFits w64 c.args.n.value = search rules in
    let counted = rw (to_z-of_z w64 c.args.n.value fits) at c.count_of.ensures in
    let set = rw counted at c.in_ok-set_array.ensures.ok in
    array plan (present_of i) (machine_of plan i) st c.args.x.now c.args.n c.set_array.new.self.variables (variables-are c.set_array.new.self i.top.env _ set)

pub returns-clause-there : goal.returns-clause-there
returns-clause-there c =
    record { below = refl; function = refl; levels = refl; target = refl; names = names-stay c.set_array.new.self c.args.self.now.top.env _ c.in_ok-set_array.ensures.ok; steps = refl }

pub returns-clause-named : goal.returns-clause-named
returns-clause-named c = λ plan.
    let i = c.args.self.now in
    let new : InstanceParts = record i { top = record i.top { env = c.set_array.new.self } } in
    top-named plan i new refl refl refl (names-stay c.set_array.new.self i.top.env _ c.in_ok-set_array.ensures.ok)

pub returns-in_err-set_array-clause-there : goal.returns-in_err-set_array-clause-there
returns-in_err-set_array-clause-there c =
    record { below = refl; function = refl; levels = refl; target = refl; names = ap (λ (e : EnvironmentView). e.names) c.in_err-set_array.ensures.err; steps = refl }

pub returns-in_err-set_array-clause-named : goal.returns-in_err-set_array-clause-named
returns-in_err-set_array-clause-named c = λ plan.
    let i = c.args.self.now in
    let new : InstanceParts = record i { top = record i.top { env = c.set_array.new.self } } in
    top-named plan i new refl refl refl (ap (λ (e : EnvironmentView). e.names) c.in_err-set_array.ensures.err)
