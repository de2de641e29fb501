use Rattle.std.proofs.Common.{◌≡◌, ◌+◌, ◌-◌, true, refl, arith, rules}
use Rattle.serial_meaning.specs.Values.{is_true}
use Rattle.serial_meaning.specs.declared.value.Value.TheVariants.{Int}
use Rattle.strand_moves.specs.declared.cursor.Cursor.{Cursor}
use Rattle.strand_moves.proofs.Cursors.Loops.{goes-round}
use Rattle.strand_moves.proofs.instance_parts.InstanceParts.iteration.Goals as goal

pub returns-else-number-eq0 : goal.returns-else-number-eq0
returns-else-number-eq0 c = λ plan sound h ended.
    let i = c.args.self.now in
    let paid = c.requires.paid in
    let one : i.steps - 1 + 1 ≡ i.steps = omega (arith, paid) in
    let first : Cursor = record { entered = i.top.cursor.entered; next = 0 } in
    let holds : is_true (Int c.in-Some.number) ≡ true = search rules in
    (goes-round plan i sound (i.steps - 1) one first c.args.condition.now h ended (Int c.in-Some.number) c.in-Some.ensures holds refl refl, record { below = refl; function = refl; levels = refl; entered = refl; few = omega arith }, one)
