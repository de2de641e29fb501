use Rattle.strand_machine.specs.Made.{made}
use Rattle.strand_machine.proofs.Moves.Arms.{remaining-once}
use Rattle.strand_machine.proofs.placed.remaining_placed.Goals as goal

pub returns-in_default-clause-step : goal.returns-in_default-clause-step
returns-in_default-clause-step c = remaining-once (made c.pass_with.new.parts) c.args.parts.now.state c.args.remaining c.pass_with.result c.in_default.not-Runs c.pass_with.ensures.step
