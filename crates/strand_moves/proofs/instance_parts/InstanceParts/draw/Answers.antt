use Rattle.std.proofs.Common.{◌+◌, ◌++◌, ◌∷◌, [], refl, ap, ◌∙◌, w64, rules, SFits}
use Rattle.std.proofs.lemmas.Int.{to_z-of_z}
use Rattle.serial_meaning.specs.Plan.{PlanView, drawn}
use Rattle.strand_moves.specs.declared.instance_parts.InstanceParts.{InstanceParts}
use Rattle.strand_moves.specs.InstanceParts.{machine_of, present_of}
use Rattle.strand_moves.proofs.Statements.Equations.{set-draw}
use Rattle.strand_moves.proofs.Statements.Naming.{names-stay, top-named, variables-are}
use Rattle.strand_moves.proofs.instance_parts.InstanceParts.draw.Goals as goal

pub returns-clause-shows : goal.returns-clause-shows
returns-clause-shows c = λ st at.
    let i = c.args.self.now in
    let word = c.draw-word.ensures ∙ ap (λ (p : PlanView). drawn p (present_of i ++ i.rank ∷ [])) c.plan.view_is in
    let fits : SFits w64 c.cast_signed.result = search rules in
    let set = rw (to_z-of_z w64 c.cast_signed.result fits, c.cast_signed.ensures) at c.set_number.ensures in
    set-draw c.args.plan.now (present_of i) (machine_of c.args.plan.now i) st c.args.x.now at c.draw-word.result c.set_number.new.self.variables word (variables-are c.set_number.new.self i.top.env _ set)

pub returns-clause-there : goal.returns-clause-there
returns-clause-there c =
    record { below = refl; function = refl; levels = refl; target = refl; names = names-stay c.set_number.new.self c.args.self.now.top.env _ c.set_number.ensures; steps = refl }

pub returns-clause-named : goal.returns-clause-named
returns-clause-named c = λ plan.
    let i = c.args.self.now in
    let new : InstanceParts = record i { rank = i.rank + 1; top = record i.top { env = c.set_number.new.self } } in
    top-named plan i new refl refl refl (names-stay c.set_number.new.self i.top.env _ c.set_number.ensures)
