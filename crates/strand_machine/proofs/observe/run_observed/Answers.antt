use Rattle.strand_machine.specs.Made.{made}
use Rattle.strand_machine.proofs.Moves.Arms.{stage-once}
use Rattle.strand_machine.proofs.observe.run_observed.Goals as goal

pub returns-in_default-clause-step : goal.returns-in_default-clause-step
returns-in_default-clause-step c = stage-once (made c.run-in_default.new.parts) c.args.parts.now.state c.args.stage c.run-in_default.result c.in_default.not-Running c.run-in_default.ensures.step
