use Rattle.std.proofs.Common.{◌+◌, arith, ◌∙◌, refl, sym}
use Rattle.std.proofs.lemmas.List.{append-nil}
use Rattle.std.proofs.lemmas.Option.{slice_get_read}
use Rattle.strand_moves.proofs.Cursors.CursorLemmas.{nothing-there, passes, left-out, left-ended, left-same}
use Rattle.strand_moves.proofs.cursor.Cursor.pass_out.Goals as goal

pub returns-in-Some : goal.returns-in-Some
returns-in-Some c =
    let body = c.args.body.now in
    let l = c.loop-statement in
    let here = l.self in
    let found = c.in-Some.ensures.lookup in
    let there = rw l.invariant.block at (slice_get_read _ _ here.next c.in-Some.statement.now refl found.3.0 found.1) in
    let next = passes body here (record { entered = here.entered; next = here.next + 1 }) c.in-Some.statement.now there refl refl in
    record { first = sym l.invariant.left ∙ next.first; after = next.after }

pub loop-statement-preserved : goal.loop-statement-preserved
loop-statement-preserved c =
    let l = c.loop-statement in
    let ended = rw l.invariant.block at c.in_default.ensures.lookup.3 in
    record {
      left = left-out c.args.body.now l.self (record { entered = c.pop.new.self; next = c.in-Some-pop.last.back }) c.in-Some-pop.last c.in-Some-pop.ensures.items refl ended ∙ l.invariant.left;
      block = rw c.as_slice.ensures at c.innermost-block.ensures;
      fits = omega arith;
    }

pub returns-in-None : goal.returns-in-None
returns-in-None c =
    let l = c.loop-statement in
    let ended = rw l.invariant.block at c.in_default.ensures.lookup.3 in
    let none = nothing-there l.self.entered.items c.in-None.ensures.variant.1 in
    let same = sym (append-nil c.pop.new.self.items) ∙ sym c.in-None.ensures.items in
    let left = left-ended c.args.body.now l.self none ended in
    (sym l.invariant.left ∙ left, left-same c.args.body.now l.self (record { entered = c.pop.new.self; next = l.self.next }) same refl ∙ left)

pub overflow_add-self : goal.overflow_add-self
overflow_add-self c = let fits = c.loop-statement.invariant.fits in let some = c.in-Some.ensures.lookup.3.0 in omega (arith, fits, some)

pub loop-statement-init : goal.loop-statement-init
loop-statement-init c = record { left = refl; block = c.requires; fits = omega arith }
