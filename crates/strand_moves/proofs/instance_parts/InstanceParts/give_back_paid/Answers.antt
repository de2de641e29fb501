use Rattle.std.proofs.Common.{arith}
use Rattle.strand_moves.proofs.Frames.EndMoves.{given-back}
use Rattle.strand_moves.proofs.OpenScopes.Keeping.{here-is}
use Rattle.strand_moves.proofs.instance_parts.InstanceParts.give_back_paid.Goals as goal

pub give_back-requires-clause-named : goal.give_back-requires-clause-named
give_back-requires-clause-named c = c.requires.instance.named

pub give_back-requires-clause-here : goal.give_back-requires-clause-here
give_back-requires-clause-here c = here-is c.args.plan.now c.args.self.now c.requires.instance

pub returns : goal.returns
returns c =
    let i = c.args.self.now in
    let e = c.give_back.ensures in
    given-back c.args.plan.now i c.requires.instance c.requires.goes_on c.requires.none c.requires.outside c.give_back.new.self e.named (omega (arith, e.rank, e.steps)) c.give_back.result _ c.in_ok-moved.ensures c.requires.returning e.shows e.same e.stays e.steps e.fewer
