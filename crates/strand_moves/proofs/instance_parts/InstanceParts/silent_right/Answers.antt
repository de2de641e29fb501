use Rattle.script_check.specs.Slots.{has_slot}
use Rattle.std.proofs.Common.{refl, w64, rules, SFits}
use Rattle.std.proofs.lemmas.Int.{to_z-of_z}
use Rattle.strand_moves.specs.declared.instance_parts.InstanceParts.{InstanceParts}
use Rattle.strand_moves.proofs.Statements.FoundParts.{in_value}
use Rattle.strand_moves.proofs.Statements.Naming.{names-stay, top-named}
use Rattle.strand_moves.proofs.Statements.Assigning.{number-acts}
use Rattle.strand_moves.proofs.instance_parts.InstanceParts.silent_right.Goals as goal

pub returns-in-Some-clause-did : goal.returns-in-Some-clause-did
returns-in-Some-clause-did c = λ st.
    let n = c.in-Some.number in
    let fits : SFits w64 n = search rules in
    let set = rw (to_z-of_z w64 n fits) at c.set_number.ensures in
    rw c.in-Value.is (λ plan. number-acts plan c.args.self.now c.set_number.new.self st c.args.x.now c.in-Value.e n c.in-Some.ensures set)

pub returns-in-None-clause-did : goal.returns-in-None-clause-did
returns-in-None-clause-did c = λ st.
    rw c.in-Value.is (c.silent_value.ensures.did st)

pub plain-requires : goal.plain-requires
plain-requires c = in_value (has_slot c.args.slots.now c.args.self.now.top.env.names) c.requires.right.0 c.args.r.now c.in-Value.e c.in-Value.is c.requires.right.1

pub silent_value-requires-clause-value : goal.silent_value-requires-clause-value
silent_value-requires-clause-value c = in_value (has_slot c.args.slots.now c.args.self.now.top.env.names) c.requires.right.0 c.args.r.now c.in-Value.e c.in-Value.is c.requires.right.1

pub returns-in-Some-clause-there : goal.returns-in-Some-clause-there
returns-in-Some-clause-there c =
    record { below = refl; function = refl; levels = refl; target = refl; names = names-stay c.set_number.new.self c.args.self.now.top.env _ c.set_number.ensures; steps = refl }

pub returns-in-Some-clause-named : goal.returns-in-Some-clause-named
returns-in-Some-clause-named c = λ plan.
    let i = c.args.self.now in
    let new : InstanceParts = record i { top = record i.top { env = c.set_number.new.self } } in
    top-named plan i new refl refl refl (names-stay c.set_number.new.self i.top.env _ c.set_number.ensures)

pub returns-in-None-clause-named : goal.returns-in-None-clause-named
returns-in-None-clause-named c = c.silent_value.ensures.named
