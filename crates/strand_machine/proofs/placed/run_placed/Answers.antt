use Rattle.strand_machine.specs.Made.{made}
use Rattle.strand_machine.proofs.Moves.Arms.{stage-once}
use Rattle.strand_machine.proofs.placed.run_placed.Goals as goal

pub returns-in_default-clause-step : goal.returns-in_default-clause-step
returns-in_default-clause-step c = stage-once (made c.run.new.parts) c.args.parts.now.state c.args.stage c.run.result c.in_default.not-Running c.run.ensures.step
