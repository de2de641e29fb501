use Rattle.std.proofs.Common.{true, refl}
use Rattle.serial_meaning.specs.Functions.{function_at}
use Rattle.serial_meaning.specs.Plan.{functions_of}
use Rattle.strand_meaning.specs.Machine.{return_move}
use Rattle.strand_moves.specs.Acts.{result_of}
use Rattle.strand_moves.specs.InstanceParts.{machine_of, path_of, present_of}
use Rattle.strand_moves.specs.Moves.{present_pedigree}
use Rattle.strand_moves.proofs.Cursors.CursorLemmas.{nothing-in, something-in}
use Rattle.strand_moves.proofs.Frames.Ending.{value-fault, value-returned}
use Rattle.strand_moves.proofs.Frames.Names.{innermost-named}
use Rattle.strand_moves.proofs.OpenScopes.Exits.{shows-exit}
use Rattle.strand_moves.proofs.OpenScopes.Keeping.{stands-same}
use Rattle.strand_moves.proofs.Statements.FastPathLemmas.{silent-child}
use Rattle.strand_moves.proofs.instance_parts.InstanceParts.end.Goals as goal

pub result-requires : goal.result-requires
result-requires c = innermost-named c.args.plan.now c.args.self.now c.requires.named

pub returns-then-is_empty-clause-shows : goal.returns-then-is_empty-clause-shows
returns-then-is_empty-clause-shows c =
    let i = c.args.self.now in
    value-returned c.args.plan.now i c.in_ok-result.field-0 c.in_ok-result.ensures (nothing-in i.below.items i.below.len i.below.ok.0 _ c.is_empty.ensures c.if-is_empty.true)

pub returns-then-is_empty-clause-stays : goal.returns-then-is_empty-clause-stays
returns-then-is_empty-clause-stays c = record { trail = refl; scopes = refl; leaving = refl }

pub returns-in_err-result-clause-shows : goal.returns-in_err-result-clause-shows
returns-in_err-result-clause-shows c =
    let i = c.args.self.now in
    let plan = c.args.plan.now in
    let m = machine_of plan i in
    shows-exit (return_move plan (path_of i) m true) (present_pedigree (present_of i) m) _ c.from_residual.result c.in_err-result.field-0.0 (result_of (function_at (functions_of plan) i.top.function) i.top.env.variables) c.from_residual.ensures.1
    c.in_err-result.ensures (value-fault plan i c.requires.here)

pub returns-in_err-result-clause-stays : goal.returns-in_err-result-clause-stays
returns-in_err-result-clause-stays c = stands-same c.args.self.now c.from_residual.result

pub give_back-requires-clause-below : goal.give_back-requires-clause-below
give_back-requires-clause-below c = let i = c.args.self.now in something-in i.below.items i.below.len i.below.ok.0 _ c.is_empty.ensures c.if-is_empty.false

pub returns-clause-shows : goal.returns-clause-shows
returns-clause-shows c = rw c.silent.ensures c.give_back.ensures.shows

pub returns-clause-child : goal.returns-clause-child
returns-clause-child c = rw c.silent.ensures (silent-child c.args.plan.now c.give_back.result)

pub returns-clause-stays : goal.returns-clause-stays
returns-clause-stays c = rw c.silent.ensures c.give_back.ensures.stays
