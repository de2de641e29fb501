use Rattle.std.proofs.Common.{refl}
use Rattle.std.proofs.lemmas.Option.{slice_get_read}
use Rattle.script_check.specs.Slots.{finds_callee, has_slot}
use Rattle.serial_meaning.specs.Plan.{functions_of}
use Rattle.strand_moves.specs.Cursors.{block_of}
use Rattle.strand_moves.specs.InstanceParts.{statements_of}
use Rattle.strand_moves.proofs.Cursors.FoundStatements.{there-found}
use Rattle.strand_moves.proofs.Statements.FoundParts.{in_while}
use Rattle.strand_moves.proofs.instance_parts.InstanceParts.plain_move.Goals as goal

pub returns-in-Some : goal.returns-in-Some
returns-in-Some c =
    let found = c.in-Some.ensures.lookup in
    let there = rw c.requires.block at (slice_get_read _ _ c.args.self.now.top.cursor.next c.in-Some.statement.now refl found.3.0 found.1) in
    c.plain_statement.ensures c.args.plan.now c.requires.instance there

pub returns-in-None : goal.returns-in-None
returns-in-None c = c.iteration.ensures c.args.plan.now c.requires.instance c.requires.in_loop (rw c.requires.block at c.in-None.ensures.lookup.3)

pub plain_statement-requires-clause-finds : goal.plain_statement-requires-clause-finds
plain_statement-requires-clause-finds c =
    let i = c.args.self.now in
    let found = c.in-Some.ensures.lookup in
    let there = rw c.requires.block at (slice_get_read _ _ i.top.cursor.next c.in-Some.statement.now refl found.3.0 found.1) in
    (finds_callee (functions_of c.args.plan.now), there-found c.args.plan.now c.args.slots.now i c.requires.slots c.requires.instance.named i.top.cursor.entered.items i.top.cursor.next c.in-Some.statement.now there)

pub iteration-requires-clause-finds : goal.iteration-requires-clause-finds
iteration-requires-clause-finds c =
    let i = c.args.self.now in
    let h = c.requires.in_loop in
    let found = there-found c.args.plan.now c.args.slots.now i c.requires.slots c.requires.instance.named h.around h.last.back h.loop h.there in
    in_while (has_slot c.args.slots.now i.top.env.names) (finds_callee (functions_of c.args.plan.now)) h.loop found c.args.condition.now (block_of (statements_of c.args.plan.now i.top) i.top.cursor.entered.items) h.is
