use Rattle.std.proofs.Common.{◌≡◌, ◌+◌, ◌-◌, ◌++◌, [], ◌∷◌, refl, ap, ◌∙◌, arith}
use Rattle.std.proofs.lemmas.Option.{slice_get_read}
use Rattle.dotmix.specs.declared.trail.Trail.{Trail}
use Rattle.script_check.specs.Slots.{finds_callee, has_slot}
use Rattle.serial_meaning.specs.Plan.{functions_of}
use Rattle.serial_meaning.specs.declared.event.Event.TheVariants as event
use Rattle.strand_moves.specs.declared.cursor.Cursor.{Cursor}
use Rattle.strand_moves.specs.InstanceParts.{present_of}
use Rattle.strand_moves.proofs.Cursors.FoundStatements.{there-found}
use Rattle.strand_moves.proofs.Cursors.Loops.{draws-on}
use Rattle.strand_moves.proofs.Statements.FoundParts.{in_drawn}
use Rattle.strand_moves.proofs.instance_parts.InstanceParts.drawing_move.Goals as goal

pub returns : goal.returns
returns g c =
    let i = c.args.self.now in
    let paid = c.requires.paid in
    let one : i.steps - 1 + 1 ≡ i.steps = omega (arith, paid) in
    let after : Cursor = record { entered = i.top.cursor.entered; next = i.top.cursor.next + 1 } in
    let found = c.in-Some.ensures.lookup in
    let there = rw c.requires.block at (slice_get_read _ _ i.top.cursor.next c.in-Some.statement.now refl found.3.0 found.1) in
    let word = c.draw-word.result in
    let e = event.Draw (present_of i ++ i.rank ∷ []) word in
    let took = c.in_ok-emit_at.ensures ∙ ap (λ (t : Trail). g.S.EventSink.after (event.Draw (t.path ++ i.rank ∷ []) word) c.args.sink.now) c.draw-word.ensures.stays.trail in
    draws-on c.args.plan.now i c.requires.instance (i.steps - 1) one after g.S.EventSink.after c.args.sink.now c.in-Some.statement.now c.in-Some-drawn.x.now c.in-Some-drawn.ensures there refl refl
    c.draw-word.new.self c.emit_at.new.self e took (c.draw-word.ensures.shows c.in-Some.statement.now) (c.draw-word.ensures.named c.args.plan.now) c.draw-word.ensures.stays c.draw-word.ensures.few c.draw-word.ensures.there c.draw-word.ensures.cursor

pub draw-word-requires-clause-strand : goal.draw-word-requires-clause-strand
draw-word-requires-clause-strand g c = let s = c.requires.instance.strand in record { fits = s.fits; within = s.within; few = s.few }

pub draw-word-requires-clause-name : goal.draw-word-requires-clause-name
draw-word-requires-clause-name g c =
    let i = c.args.self.now in
    let found = c.in-Some.ensures.lookup in
    let there = rw c.requires.block at (slice_get_read _ _ i.top.cursor.next c.in-Some.statement.now refl found.3.0 found.1) in
    let found = there-found c.args.plan.now c.args.slots.now i c.requires.slots c.requires.instance.named i.top.cursor.entered.items i.top.cursor.next c.in-Some.statement.now there in
    in_drawn (has_slot c.args.slots.now i.top.env.names) (finds_callee (functions_of c.args.plan.now)) c.in-Some.statement.now found c.in-Some-drawn.x.now c.in-Some-drawn.ensures
