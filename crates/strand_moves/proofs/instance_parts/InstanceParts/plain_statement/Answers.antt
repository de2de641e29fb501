use Rattle.std.proofs.Common.{◌≡◌, ◌+◌, ◌-◌, refl, arith, rules, w64, SFits}
use Rattle.std.proofs.lemmas.Int.{to_z-of_z}
use Rattle.script_check.specs.Slots.{has_slot}
use Rattle.strand_moves.specs.declared.cursor.Cursor.{Cursor}
use Rattle.strand_moves.proofs.Cursors.Loops.{gives-number}
use Rattle.strand_moves.proofs.Statements.FoundParts.{in_given}
use Rattle.strand_moves.proofs.instance_parts.InstanceParts.plain_statement.Goals as goal

pub returns-in-Some-plain_in_place : goal.returns-in-Some-plain_in_place
returns-in-Some-plain_in_place c = λ plan sound there.
    let i = c.args.self.now in
    let paid = c.requires.paid in
    let one : i.steps - 1 + 1 ≡ i.steps = omega (arith, paid) in
    let after : Cursor = record { entered = i.top.cursor.entered; next = i.top.cursor.next + 1 } in
    let n = c.in-Some-plain_in_place.number in
    let fits : SFits w64 n = search rules in
    let set = rw (to_z-of_z w64 n fits) at c.set_number.ensures in
    (gives-number plan i sound (i.steps - 1) one after c.args.statement.now c.in-Some.given.0.now c.in-Some.given.1.now n c.set_number.new.self c.in-Some-plain_in_place.ensures set c.in-Some.ensures there refl refl, record { below = refl; function = refl; levels = refl; entered = refl; few = omega arith }, one)

pub plain_in_place-requires : goal.plain_in_place-requires
plain_in_place-requires c =
    (in_given (has_slot c.args.slots.now c.args.self.now.top.env.names) c.requires.finds.0 c.args.statement.now c.requires.finds.1 c.in-Some.given.0.now c.in-Some.given.1.now c.in-Some.ensures).1

pub set_number-requires : goal.set_number-requires
set_number-requires c =
    (in_given (has_slot c.args.slots.now c.args.self.now.top.env.names) c.requires.finds.0 c.args.statement.now c.requires.finds.1 c.in-Some.given.0.now c.in-Some.given.1.now c.in-Some.ensures).0
