use Rattle.strand_machine.proofs.Moves.Making.{ends-made, ends-sound}
use Rattle.strand_machine.proofs.leave.end.Goals as goal

pub returns-clause-made : goal.returns-clause-made
returns-clause-made g c =
    let e = c.end-ended in ends-made c.args.parts.now.state e.new.self _ c.args.outcome e.result e.ensures.prefix e.ensures.ended c.set_remaining.ensures

pub returns-clause-sound : goal.returns-clause-sound
returns-clause-sound g c =
    let e = c.end-ended in ends-sound c.args.parts.now.state e.new.self _ c.args.outcome e.result e.ensures.prefix e.ensures.ended c.set_remaining.ensures c.requires
