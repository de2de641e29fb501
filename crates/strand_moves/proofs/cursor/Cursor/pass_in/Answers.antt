use Rattle.std.proofs.Common.{◌+◌, refl}
use Rattle.std.specs.Option.{option_copied}
use Rattle.std.proofs.lemmas.Option.{slice_get_read}
use Rattle.strand_moves.specs.declared.cursor.Cursor.{Cursor}
use Rattle.strand_moves.proofs.Cursors.CursorLemmas.{left-ended, nothing-in, passes}
use Rattle.strand_moves.proofs.Cursors.Loops.{same-around}
use Rattle.strand_moves.proofs.cursor.Cursor.pass_in.Goals as goal

pub returns-in-Some : goal.returns-in-Some
returns-in-Some c =
    let here = c.args.self.now in
    let new : Cursor = record { entered = here.entered; next = here.next + 1 } in
    let found = c.in-Some.ensures.lookup in
    let there = rw c.requires.block at (slice_get_read _ _ here.next c.in-Some.statement.now refl found.3.0 found.1) in
    (passes c.args.body.now here new c.in-Some.statement.now there refl refl, c.requires.block, same-around c.args.body.now here new (option_copied c.args.around) refl c.requires.around)

pub returns-then-is_empty : goal.returns-then-is_empty
returns-then-is_empty c =
    let ended = rw c.requires.block at c.in_default.ensures.lookup.3 in
    let none = nothing-in c.args.self.now.entered.items _ refl _ (rw c.as_slice.ensures at c.is_empty.ensures) c.if-is_empty.true in
    let left = left-ended c.args.body.now c.args.self.now none ended in
    (left, left)
